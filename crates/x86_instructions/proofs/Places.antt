-- The places of pages next to the gap.
use Rattle.std.proofs.Common.{◌≡◌, ℕ, ◌+◌, ◌-◌, ◌*◌, ◌/◌, ◌%◌, ◌^◌, ◌<◌, ◌≤◌, true, false, refl, ap, sym, ◌∙◌, arith}
use Rattle.std.specs.Prelude.{nat_lt}
use Rattle.std.proofs.Math.Nat.{mul-div_cancel}
use Rattle.std.proofs.Math.Logic.{⊎_elim}
use Rattle.std.proofs.lemmas.Bool.{cases_lt}
use Rattle.std.proofs.lemmas.Bool.Decides.{nat_tests}
use Rattle.std.proofs.lemmas.Nat.{div-add-mod'}
use Rattle.paging_core.specs.Steps.{half_pages, gap_pages, position, page_at}

pub before : (a b : ℕ) → a < b → nat_lt a b ≡ true
before a b lt = grind (arith, nat_tests)

pub not_before : (a b : ℕ) → b ≤ a → nat_lt a b ≡ false
not_before a b le = grind (arith, nat_tests)

-- a page and its place, below the gap and above it
pub page_at-low : (s place : ℕ) → place < half_pages s → page_at s place ≡ place
page_at-low s place lt = rw (before place (half_pages s) lt) refl

pub page_at-high : (s place : ℕ) → half_pages s ≤ place → page_at s place ≡ place + gap_pages s
page_at-high s place le = rw (not_before place (half_pages s) le) refl

position-low : (s page : ℕ) → page < half_pages s → position s page ≡ page
position-low s page lt = rw (before page (half_pages s) lt) refl

position-high : (s page : ℕ) → half_pages s ≤ page → position s page ≡ page - gap_pages s
position-high s page le = rw (not_before page (half_pages s) le) refl

pub position-page_at : (s place : ℕ) → position s (page_at s place) ≡ place
position-page_at s place = ⊎_elim
    (λ low. ap (position s) (page_at-low s place low) ∙ position-low s place low)
    (λ high.
    let past : half_pages s ≤ place + gap_pages s = omega (arith, high) in
    ap (position s) (page_at-high s place high) ∙ (position-high s (place + gap_pages s) past ∙ omega arith))
    (cases_lt place (half_pages s))

module _ (s : ℕ) (pos : 0 < s) (divides : 2 ^ 47 % s ≡ 0) where
  pub half_whole : half_pages s * s ≡ 2 ^ 47
  half_whole = let m : 2 ^ 47 / s * s + 2 ^ 47 % s ≡ 2 ^ 47 = div-add-mod' (2 ^ 47) s in omega arith

  pub high_whole : (half_pages s + gap_pages s) * s ≡ 0xffff_8000_0000_0000
  high_whole =
      let e : (half_pages s + gap_pages s) * s ≡ (2 ^ 17 - 1) * (half_pages s * s) = grind arith in
      omega (arith, e, half_whole)

  -- the page at the first address of the high half
  pub position-high_half : position s (0xffff_8000_0000_0000 / s) ≡ half_pages s
  position-high_half =
      let page : 0xffff_8000_0000_0000 / s ≡ half_pages s + gap_pages s =
      ap (λ n. n / s) (sym high_whole) ∙ mul-div_cancel (half_pages s + gap_pages s) pos in
      rw page (position-high s (half_pages s + gap_pages s) (omega arith) ∙ omega arith)

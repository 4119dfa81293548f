-- The places of pages in the order of their addresses.
use Rattle.std.proofs.Common.{ap, ◌∙◌, refl, sym, ◌≡◌, ℕ, zero, suc, ◌+◌, ◌-◌, ◌*◌, ◌/◌, ◌%◌, ◌^◌, ◌<◌, ◌≤◌, arith}
use Rattle.std.specs.Prelude.{IsTrue, true, false, nat_lt}
use Rattle.std.proofs.Math.Logic.{⊎_elim}
use Rattle.std.proofs.Math.Nat.{lt_of_mul-lt-mul_right}
use Rattle.std.proofs.lemmas.Bool.{cases_lt}
use Rattle.std.proofs.lemmas.Bool.Decides.{nat_tests}
use Rattle.std.proofs.lemmas.Nat.{mul-le, div-add-mod'}
use Rattle.paging_core.specs.Address.{is_canonical}
use Rattle.paging_core.specs.Steps.{half_pages, gap_pages, position, page_at, pages_before}

-- an address that is not in the low half is in the high one
high_address : (a : ℕ) → IsTrue (is_canonical a) → 2 ^ 47 ≤ a → (2 ^ 64 - 2 ^ 47 ≤ a) × (a < 2 ^ 64)
high_address a canonical high =
    let half : a / 2 ^ 47 ≡ 2 ^ 17 - 1 = grind (arith, nat_tests) in
    (omega arith, omega arith)

between_halves : (a : ℕ) → 2 ^ 47 ≤ a → a < 2 ^ 64 - 2 ^ 47 → is_canonical a ≡ false
between_halves a from below = grind (arith, nat_tests)

module _ (s h : ℕ) (pos : 0 < s) (whole : h * s ≡ 2 ^ 47) where
  -- the pages of the low half and those of the high half
  low_half : (n : ℕ) → n < h → n * s < 2 ^ 47
  low_half n lt =
      let top : suc n * s ≤ h * s = mul-le (suc n) s h s lt (omega arith) in
      let next : suc n * s ≡ n * s + s = grind arith in
      omega arith

  pub canonical_low : (n : ℕ) → n < h → IsTrue (is_canonical (n * s))
  canonical_low n lt =
      let below = low_half n lt in
      let half : n * s / 2 ^ 47 ≡ 0 = omega arith in
      rw half refl

  pub canonical_high : (n : ℕ) → n < h → IsTrue (is_canonical ((n + (2 ^ 17 - 1) * h) * s))
  canonical_high n lt =
      let below = low_half n lt in
      let split : (n + (2 ^ 17 - 1) * h) * s ≡ n * s + (2 ^ 17 - 1) * (h * s) = grind arith in
      let half : (n + (2 ^ 17 - 1) * h) * s / 2 ^ 47 ≡ 2 ^ 17 - 1 = omega arith in
      rw half refl

  -- a page number that is not in the low half is in the high one
  pub past_gap : (n : ℕ) → IsTrue (is_canonical (n * s)) → h ≤ n → ((2 ^ 17 - 1) * h ≤ n) × (n < 2 ^ 17 * h)
  past_gap n canonical high =
      let from : h * s ≤ n * s = mul-le h s n s high (omega arith) in
      let a = high_address (n * s) canonical (omega arith) in
      let low : ((2 ^ 17 - 1) * h) * s ≡ (2 ^ 17 - 1) * (h * s) = grind arith in
      let top : (2 ^ 17 * h) * s ≡ 2 ^ 17 * (h * s) = grind arith in
      let next : suc n * s ≡ n * s + s = grind arith in
      let under : n < 2 ^ 17 * h = lt_of_mul-lt-mul_right s (omega (arith, a.1, top, whole)) in
      let over : (2 ^ 17 - 1) * h < suc n = lt_of_mul-lt-mul_right s (omega (arith, a.0, low, whole, next)) in
      (omega arith, under)

module _ (s n : ℕ) where
  -- places and numbers in the low half, and past it
  position-low : n < half_pages s → position s n ≡ n
  position-low lt = let test : nat_lt n (half_pages s) ≡ true = grind (arith, nat_tests) in rw test refl

  position-high : half_pages s ≤ n → position s n ≡ n - gap_pages s
  position-high le = let test : nat_lt n (half_pages s) ≡ false = grind (arith, nat_tests) in rw test refl

  page_at-low : n < half_pages s → page_at s n ≡ n
  page_at-low lt = let test : nat_lt n (half_pages s) ≡ true = grind (arith, nat_tests) in rw test refl

  page_at-high : half_pages s ≤ n → page_at s n ≡ n + gap_pages s
  page_at-high le = let test : nat_lt n (half_pages s) ≡ false = grind (arith, nat_tests) in rw test refl

-- the place of the page at a place
pub position-page_at : (s place : ℕ) → position s (page_at s place) ≡ place
position-page_at s place = ⊎_elim
    (λ low. ap (position s) (page_at-low s place low) ∙ position-low s place low)
    (λ high.
    let past : half_pages s ≤ place + gap_pages s = omega (arith, high) in
    ap (position s) (page_at-high s place high) ∙ (position-high s (place + gap_pages s) past ∙ omega arith))
    (cases_lt place (half_pages s))

module _ (s : ℕ) (pos : 0 < s) (divides : 2 ^ 47 % s ≡ 0) where
  half_whole : half_pages s * s ≡ 2 ^ 47
  half_whole = let m : 2 ^ 47 / s * s + 2 ^ 47 % s ≡ 2 ^ 47 = div-add-mod' (2 ^ 47) s in omega arith

  module _ (n : ℕ) (canonical : IsTrue (is_canonical (n * s))) where
    -- a page that is not in the low half is past the gap
    pub gap_below : half_pages s ≤ n → (gap_pages s + half_pages s ≤ n) × (n < gap_pages s + 2 * half_pages s)
    gap_below high =
        let over = past_gap s (half_pages s) pos half_whole n canonical high in
        (omega (arith, over), omega (arith, over))

  -- the page at a place is canonical
  pub page_at-canonical : (place : ℕ) → place < 2 * half_pages s → IsTrue (is_canonical (page_at s place * s))
  page_at-canonical place lt = ⊎_elim
      (λ low. rw (page_at-low s place low) (canonical_low s (half_pages s) pos half_whole place low))
      (λ high.
      let from : place + gap_pages s ≡ place - half_pages s + (2 ^ 17 - 1) * half_pages s = omega (arith, high) in
      let less : place - half_pages s < half_pages s = omega (arith, high, lt) in
      rw (page_at-high s place high, from) (canonical_high s (half_pages s) pos half_whole (place - half_pages s) less))
      (cases_lt place (half_pages s))

  -- the places are in the order of the numbers
  module _ (a b : ℕ) (a_page : IsTrue (is_canonical (a * s))) (b_page : IsTrue (is_canonical (b * s))) where
    pub position-lt : a < b → position s a < position s b
    position-lt lt = ⊎_elim
        (λ b_low. let a_low : a < half_pages s = omega (arith, b_low, lt) in omega (arith, lt, position-low s a a_low, position-low s b b_low))
        (λ b_high. ⊎_elim
        (λ a_low. omega (arith, a_low, position-low s a a_low, position-high s b b_high, gap_below b b_page b_high))
        (λ a_high. omega (arith, lt, position-high s a a_high, position-high s b b_high, gap_below a a_page a_high))
        (cases_lt a (half_pages s)))
        (cases_lt b (half_pages s))

  module _ (a b : ℕ) (a_page : IsTrue (is_canonical (a * s))) (b_page : IsTrue (is_canonical (b * s))) where
    position-le : a ≤ b → position s a ≤ position s b
    position-le le = ⊎_elim
        (λ lt. omega (arith, position-lt a b a_page b_page lt))
        (λ ge. let e : a ≡ b = omega (arith, le, ge) in let h : position s a ≡ position s b = ap (position s) e in omega arith)
        (cases_lt a b)

  pub position-lt_back : (a b : ℕ) → IsTrue (is_canonical (a * s)) → IsTrue (is_canonical (b * s)) → position s a < position s b → a < b
  position-lt_back a b a_page b_page lt =
      ⊎_elim (λ less. less) (λ ge. absurd (omega (arith, position-le b a b_page a_page ge, lt))) (cases_lt a b)

  -- the place of a page is the count of the pages below its number
  no_page : (k : ℕ) → k < gap_pages s → is_canonical ((half_pages s + k) * s) ≡ false
  no_page k within =
      let from : (half_pages s + k) * s ≡ half_pages s * s + k * s = grind arith in
      let top : suc k * s ≤ gap_pages s * s = mul-le (suc k) s (gap_pages s) s within (omega arith) in
      let next : suc k * s ≡ k * s + s = grind arith in
      let gap : gap_pages s * s ≡ (2 ^ 17 - 2) * (half_pages s * s) = grind arith in
      between_halves ((half_pages s + k) * s) (omega (arith, from, half_whole)) (omega (arith, from, half_whole, top, next, gap, pos))

  -- one more number, of a page or of none
  counted : (m n count : ℕ) → m ≡ suc n → is_canonical (n * s) ≡ true → pages_before s n ≡ count → pages_before s m ≡ 1 + count
  unfolding pages_before
  counted m n count e page before = ap (pages_before s) e ∙ rw (page, before) refl

  passed : (m n count : ℕ) → m ≡ suc n → is_canonical (n * s) ≡ false → pages_before s n ≡ count → pages_before s m ≡ count
  unfolding pages_before
  passed m n count e none before = ap (pages_before s) e ∙ rw (none, before) (omega arith)

  none_before : pages_before s 0 ≡ 0
  unfolding pages_before
  none_before = refl

  count-low : (n : ℕ) → n ≤ half_pages s → pages_before s n ≡ n
  count-low zero le = none_before
  count-low (suc n) le =
      counted (suc n) n n refl (canonical_low s (half_pages s) pos half_whole n (omega (arith, le))) (count-low n (omega (arith, le)))
      ∙ omega arith

  count-gap : (k : ℕ) → k ≤ gap_pages s → pages_before s (half_pages s + k) ≡ half_pages s
  count-gap zero le =
      let e : half_pages s + 0 ≡ half_pages s = omega arith in
      ap (pages_before s) e ∙ count-low (half_pages s) (omega arith)
  count-gap (suc k) le =
      passed (half_pages s + suc k) (half_pages s + k) (half_pages s) (omega arith) (no_page k (omega (arith, le))) (count-gap k (omega (arith, le)))

  count-high : (k : ℕ) → k ≤ half_pages s → pages_before s (half_pages s + gap_pages s + k) ≡ half_pages s + k
  count-high zero le =
      let e : half_pages s + gap_pages s + 0 ≡ half_pages s + gap_pages s = omega arith in
      ap (pages_before s) e ∙ (count-gap (gap_pages s) (omega arith) ∙ omega arith)
  count-high (suc k) le =
      let from : half_pages s + gap_pages s + k ≡ k + (2 ^ 17 - 1) * half_pages s = omega arith in
      let page : is_canonical ((half_pages s + gap_pages s + k) * s) ≡ true = rw from (canonical_high s (half_pages s) pos half_whole k (omega (arith, le))) in
      counted (half_pages s + gap_pages s + suc k) (half_pages s + gap_pages s + k) (half_pages s + k) (omega arith) page
      (count-high k (omega (arith, le)))
      ∙ omega arith

  pub position-counts : (n : ℕ) → IsTrue (is_canonical (n * s)) → position s n ≡ pages_before s n
  position-counts n canonical = ⊎_elim
      (λ low. position-low s n low ∙ sym (count-low n (omega (arith, low))))
      (λ high.
      let over = gap_below n canonical high in
      let k = n - (half_pages s + gap_pages s) in
      let e : half_pages s + gap_pages s + k ≡ n = omega (arith, over) in
      position-high s n high ∙ (omega (arith, over) ∙ (sym (count-high k (omega (arith, over))) ∙ ap (pages_before s) e)))
      (cases_lt n (half_pages s))

-- The tables that a range of pages misses, as its pages are mapped one after the other.
use Rattle.std.proofs.Common.{◌≡◌, ℕ, zero, suc, ◌+◌, ◌-◌, ◌*◌, ◌/◌, ◌%◌, ◌^◌, ◌<◌, ◌≤◌, List, Some, refl, sym, ap, ◌∙◌, ◌⊎◌, inl, inr, arith}
use Rattle.std.specs.Prelude.{IsTrue}
use Rattle.std.proofs.lemmas.Bool.{cases_eq}
use Rattle.std.proofs.lemmas.Bool.Decides.{nat_tests}
use Rattle.paging_core.specs.Address.{is_canonical, IsCanonicalRange}
use Rattle.paging_core.specs.Prefix.{prefix_of, prefixes_of}
use Rattle.paging_core.specs.Walk.{Place, reach, top}
use Rattle.paging_core.specs.Missing.{missing_of}
use Rattle.paging_core.specs.Tables.{missing_at}
use Rattle.paging_core.proofs.Counts.{absent, absent_none, absent_suc, absent_add, absent_for, missing_by_level, missing_one}

pub missing_none : (words : List ℕ) (root first : ℕ) → missing_of words root first 0 ≡ 0
unfolding missing_of prefixes_of
missing_none words root first = refl

-- the counts agree if the walks do
pub absent_same : (old new : List ℕ) (root level count from : ℕ) →
    ((n : ℕ) → reach new root level n ≡ reach old root level n) → absent new root level from count ≡ absent old root level from count
absent_same old new root level zero from h = absent_none new root level from ∙ sym (absent_none old root level from)
absent_same old new root level (suc count) from h =
    let e = h from in
    let k = absent_same old new root level count (from + 1) h in
    rw (absent_suc new root level from count, absent_suc old root level from count, e, k) refl

pub missing_same : (old new : List ℕ) (root first pages : ℕ) → ((l n : ℕ) → l ≤ 4 → reach new root l n ≡ reach old root l n) →
    missing_of new root first pages ≡ missing_of old root first pages
missing_same old new root first zero same = missing_none new root first ∙ sym (missing_none old root first)
missing_same old new root first (suc more) same =
    let a = one 1 (omega arith) in
    let b = one 2 (omega arith) in
    let c = one 3 (omega arith) in
    let x = missing_by_level old root first more in
    let y = missing_by_level new root first more in
    omega arith
  where
    one : (l : ℕ) → l ≤ 4 → absent_for new root first (first + more) l ≡ absent_for old root first (first + more) l
    one l le = absent_same old new root l (prefix_of (first + more) l + 1 - prefix_of first l) (prefix_of first l) (λ n. same l n le)

one_of : (a b : ℕ) → b ≤ a → a ≤ b + 1 → (a ≡ b) ⊎ (a ≡ b + 1)
one_of a b lo hi = go (cases_eq a b)
  where
    go : (a ≡ b) ⊎ (a ≡ b → ⊥) → (a ≡ b) ⊎ (a ≡ b + 1)
    go (inl e) = inl e
    go (inr e) = inr (omega arith)

-- the prefixes of pages in order are in order
pub prefix_le : (a b level : ℕ) → a % 2 ^ 36 ≤ b % 2 ^ 36 → level < 4 → prefix_of a level ≤ prefix_of b level
prefix_le a b zero le lt = omega arith
prefix_le a b (suc zero) le lt = omega arith
prefix_le a b (suc (suc zero)) le lt = omega arith
prefix_le a b (suc (suc (suc zero))) le lt = omega arith
prefix_le a b (suc (suc (suc (suc n)))) le lt = absurd (omega arith)

-- a next page has the same prefix or the next one
prefix_next : (a b level : ℕ) → b % 2 ^ 36 ≡ a % 2 ^ 36 + 1 → level < 4 → (prefix_of b level ≡ prefix_of a level) ⊎ (prefix_of b level ≡ prefix_of a level + 1)
prefix_next a b zero e lt = inl (omega arith)
prefix_next a b (suc zero) e lt = one_of (prefix_of b 1) (prefix_of a 1) (omega arith) (omega arith)
prefix_next a b (suc (suc zero)) e lt = one_of (prefix_of b 2) (prefix_of a 2) (omega arith) (omega arith)
prefix_next a b (suc (suc (suc zero))) e lt = one_of (prefix_of b 3) (prefix_of a 3) (omega arith) (omega arith)
prefix_next a b (suc (suc (suc (suc n)))) e lt = absurd (omega arith)

-- the pages of a range have different numbers below 2 ^ 36
pub page_in : (first pages k : ℕ) → IsCanonicalRange first pages → k < pages → (first + k) % 2 ^ 36 ≡ first % 2 ^ 36 + k
page_in first pages k range lt =
    let some : 0 < pages = range.some in
    let half : (first + pages - 1) / 2 ^ 35 ≡ first / 2 ^ 35 = range.one_half in
    omega arith

pub page_canonical : (first pages k : ℕ) → IsCanonicalRange first pages → k < pages → IsTrue (is_canonical ((first + k) * 4096))
page_canonical first pages k range lt =
    let some : 0 < pages = range.some in
    let half : (first + pages - 1) / 2 ^ 35 ≡ first / 2 ^ 35 = range.one_half in
    let same : (first + k) * 4096 / 2 ^ 47 ≡ first * 4096 / 2 ^ 47 = omega arith in
    rw same range.canonical

pub range_front : (first pages k : ℕ) → IsCanonicalRange first pages → k < pages → IsCanonicalRange first (k + 1)
range_front first pages k range lt =
    let half : (first + pages - 1) / 2 ^ 35 ≡ first / 2 ^ 35 = range.one_half in
    record { some = omega arith; canonical = range.canonical; one_half = omega arith }

-- a longer range misses no fewer tables
pub missing_le : (words : List ℕ) (root first a b : ℕ) → IsCanonicalRange first b → a ≤ b → missing_of words root first a ≤ missing_of words root first b
missing_le words root first zero b range le = let z = missing_none words root first in omega arith
missing_le words root first (suc a) zero range le = absurd (omega arith)
missing_le words root first (suc a) (suc b) range le =
    let x = missing_by_level words root first a in
    let y = missing_by_level words root first b in
    let p = one 1 (omega arith) in
    let q = one 2 (omega arith) in
    let r = one 3 (omega arith) in
    omega arith
  where
    one : (l : ℕ) → l < 4 → absent_for words root first (first + a) l ≤ absent_for words root first (first + b) l
    one l lt =
        let pa = page_in first (suc b) a range (omega arith) in
        let pb = page_in first (suc b) b range (omega arith) in
        let hi : prefix_of (first + a) l ≤ prefix_of (first + b) l = prefix_le (first + a) (first + b) l (omega arith) lt in
        let d : prefix_of (first + b) l + 1 - prefix_of first l ≡ (prefix_of (first + a) l + 1 - prefix_of first
        l) + (prefix_of (first + b) l - prefix_of (first + a) l) =
        (let lo : prefix_of first l ≤ prefix_of (first + a) l = prefix_le first (first + a) l (omega arith) lt in omega arith) in
        let e = absent_add words root l (prefix_of (first + a) l + 1 - prefix_of first l)
        (prefix_of (first + b) l - prefix_of (first + a) l) (prefix_of first l) in
        let f = ap (absent words root l (prefix_of first l)) d in
        omega arith

missing_some : (words : List ℕ) (root page level : ℕ) (m : Place) → reach words root level (prefix_of page level) ≡ Some m →
    missing_at words root page level ≡ 0
missing_some words root page level m e = rw e refl

-- `mid` has the tables of the first `k` pages of the range, and else walks as `old` does
module _ (old mid : List ℕ) (root first k : ℕ)
    (range : IsCanonicalRange first (k + 1))
    (tables : (l j : ℕ) → l < 4 → j < k → (table : ℕ) × (reach mid root l (prefix_of (first + j) l) ≡ Some (top table)))
    (others : (l n : ℕ) → l ≤ 4 → ((j : ℕ) → j < k → n ≡ prefix_of (first + j) l → ⊥) → reach mid root l n ≡ reach old root l n) where
  -- the tables of one level that one page more misses
  level_step : (m l : ℕ) → k ≡ suc m → l < 4 →
      absent_for old root first (first + suc m) l ≡ absent_for old root first (first + m) l + missing_at mid root (first + suc m) l
  level_step m l km lt =
      let pm = page_in first (k + 1) m range (omega arith) in
      let pn = page_in first (k + 1) (suc m) range (omega arith) in
      go (prefix_next (first + m) (first + suc m) l (omega arith) lt)
    where
      go : (prefix_of (first + suc m) l ≡ prefix_of (first + m) l) ⊎ (prefix_of (first + suc m) l ≡ prefix_of (first + m) l + 1) →
          absent_for old root first (first + suc m) l ≡ absent_for old root first (first + m) l + missing_at mid root (first + suc m) l
      go (inl e) =
          let t = tables l m lt (omega arith) in
          let z : missing_at mid root (first + suc m) l ≡ 0 = missing_some mid root (first + suc m) l (top t.0) (ap (reach mid root l) e ∙ t.1) in
          let c : absent_for old root first (first + suc m) l ≡ absent_for old root first (first + m) l =
          ap (λ q. absent old root l (prefix_of first l) (q + 1 - prefix_of first l)) e in
          omega arith
      go (inr e) =
          let pm = page_in first (k + 1) m range (omega arith) in
          let lo : prefix_of first l ≤ prefix_of (first + m) l = prefix_le first (first + m) l (omega arith) lt in
          let d : prefix_of (first + suc m) l + 1 - prefix_of first l ≡ (prefix_of (first + m) l + 1 - prefix_of first l) + 1 = omega arith in
          let at : prefix_of first l + (prefix_of (first + m) l + 1 - prefix_of first l) ≡ prefix_of (first + suc m) l = omega arith in
          let more : absent_for old root first (first + suc m) l
          ≡ absent_for old root first (first + m) l + absent old root l (prefix_of (first + suc m) l) 1 =
          ap (absent old root l (prefix_of first l)) d
          ∙ (absent_add old root l (prefix_of (first + m) l + 1 - prefix_of first l) 1 (prefix_of first l)
          ∙ ap (λ n. absent_for old root first (first + m) l + absent old root l n 1) at) in
          let one : absent old root l (prefix_of (first + suc m) l) 1 ≡ missing_at old root (first + suc m) l =
          (let z = absent_none old root l (prefix_of (first + suc m) l + 1) in
          absent_suc old root l (prefix_of (first + suc m) l) 0 ∙ omega arith) in
          let same : reach mid root l (prefix_of (first + suc m) l) ≡ reach old root l (prefix_of (first + suc m) l) =
          others l (prefix_of (first + suc m) l) (omega arith) (λ j lj x.
          let pj = page_in first (k + 1) j range (omega arith) in
          let le : prefix_of (first + j) l ≤ prefix_of (first + m) l = prefix_le (first + j) (first + m) l (omega arith) lt in
          omega arith) in
          let s : missing_at mid root (first + suc m) l ≡ missing_at old root (first + suc m) l = rw same refl in
          omega arith

  pub missing_step : missing_of old root first (k + 1) ≡ missing_of old root first k + missing_of mid root (first + k) 1
  missing_step = go k refl
    where
      go : (n : ℕ) → k ≡ n → missing_of old root first (n + 1) ≡ missing_of old root first n + missing_of mid root (first + n) 1
      go zero e =
          let z = missing_none old root first in
          let f : first + 0 ≡ first = omega arith in
          let s : missing_of mid root first 1 ≡ missing_of old root first 1 =
          missing_same old mid root first 1 (λ l n le. others l n le (λ j lj x. absurd (omega arith))) in
          let a : 0 + 1 ≡ suc 0 = omega arith in
          rw (f, a) (let o : missing_of mid root first (suc 0) ≡ missing_of old root first (suc 0) = s in omega arith)
      go (suc m) e =
          let s : suc m + 1 ≡ suc (suc m) = omega arith in
          let x = missing_by_level old root first (suc m) in
          let y = missing_by_level old root first m in
          let z = missing_one mid root (first + suc m) in
          let a = level_step m 1 e (omega arith) in
          let b = level_step m 2 e (omega arith) in
          let c = level_step m 3 e (omega arith) in
          rw s (omega arith)

-- canonical pages are distinguished by the low 36 bits of their numbers
pub same_number : (a b : ℕ) → IsTrue (is_canonical (a * 4096)) → IsTrue (is_canonical (b * 4096)) → a % 2 ^ 36 ≡ b % 2 ^ 36 → a ≡ b
same_number a b ca cb e = grind (arith, nat_tests)

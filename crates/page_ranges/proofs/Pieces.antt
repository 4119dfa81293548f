-- What a piece of a range misses, beside the range.
use Rattle.std.proofs.Common.{◌≡◌, ℕ, zero, suc, ◌+◌, ◌-◌, ◌/◌, ◌%◌, ◌^◌, ◌<◌, ◌≤◌, List, Some, None, refl, sym, ap, ◌∙◌, ◌⊎◌, inl, inr, arith}
use Rattle.std.proofs.lemmas.Bool.{cases_eq}
use Rattle.paging_core.specs.Address.{IsCanonicalRange}
use Rattle.paging_core.specs.Prefix.{prefix_of}
use Rattle.paging_core.specs.Walk.{Place, reach}
use Rattle.paging_core.specs.Missing.{missing_of}
use Rattle.page_ranges.specs.RangeMapping.{unmapped_of}
use Rattle.paging_core.proofs.Counts.{absent, absent_none, absent_suc, absent_add, absent_all, absent_for, missing_by_level}
use Rattle.paging_core.proofs.Ranges.{missing_none, page_in, page_canonical, prefix_le}
use Rattle.paging_core.proofs.PrefixLists.{page_at}

-- the counts agree if the walks do
absent_same_on : (old new : List ℕ) (root level count from : ℕ) →
    ((n : ℕ) → from ≤ n → n < from + count → reach new root level n ≡ reach old root level n) →
    absent new root level from count ≡ absent old root level from count
absent_same_on old new root level zero from h = absent_none new root level from ∙ sym (absent_none old root level from)
absent_same_on old new root level (suc count) from h =
    let e = h from (omega arith) (omega arith) in
    let k = absent_same_on old new root level count (from + 1) (λ n lo hi. h n (omega arith) (omega arith)) in
    rw (absent_suc new root level from count, absent_suc old root level from count, e, k) refl

-- if all are met, none is counted
pub absent_met : (words : List ℕ) (root level count from : ℕ) →
    ((n : ℕ) → from ≤ n → n < from + count → (m : Place) × (reach words root level n ≡ Some m)) → absent words root level from count ≡ 0
absent_met words root level zero from h = absent_none words root level from
absent_met words root level (suc count) from h =
    let e = h from (omega arith) (omega arith) in
    let k = absent_met words root level count (from + 1) (λ n lo hi. h n (omega arith) (omega arith)) in
    rw (absent_suc words root level from count, e.1) (omega arith)

-- a part in the middle
absent_parts : (words : List ℕ) (root level a n p m : ℕ) → a ≤ p → p + m ≤ a + n →
    absent words root level a n ≡ absent words root level a (p - a) + (absent words root level p m + absent words root level (p + m) (a + n - (p + m)))
absent_parts words root level a n p m lo hi =
    let d : n ≡ (p - a) + (m + (a + n - (p + m))) = omega arith in
    let e : a + (p - a) ≡ p = omega arith in
    ap (absent words root level a) d
    ∙ (absent_add words root level (p - a) (m + (a + n - (p + m))) a
    ∙ (ap (λ k. absent words root level a (p - a) + absent words root level k (m + (a + n - (p + m)))) e
    ∙ ap (λ k. absent words root level a (p - a) + k) (absent_add words root level m (a + n - (p + m)) p)))

absent_within : (words : List ℕ) (root level a n p m : ℕ) → a ≤ p → p + m ≤ a + n → absent words root level p m ≤ absent words root level a n
absent_within words root level a n p m lo hi = let e = absent_parts words root level a n p m lo hi in omega arith

-- the part is met now, and all else is as before
absent_inside : (old new : List ℕ) (root level a n p m : ℕ) → a ≤ p → p + m ≤ a + n →
    ((x : ℕ) → (p ≤ x → x < p + m → ⊥) → reach new root level x ≡ reach old root level x) →
    ((x : ℕ) → p ≤ x → x < p + m → (t : Place) × (reach new root level x ≡ Some t)) →
    absent new root level a n + absent old root level p m ≡ absent old root level a n
absent_inside old new root level a n p m lo hi same met =
    let x = absent_parts new root level a n p m lo hi in
    let y = absent_parts old root level a n p m lo hi in
    let b = absent_same_on old new root level (p - a) a (λ k from to. same k (λ u v. absurd (omega arith))) in
    let z = absent_met new root level m p met in
    let c = absent_same_on old new root level (a + n - (p + m)) (p + m) (λ k from to. same k (λ u v. absurd (omega arith))) in
    omega arith

-- each prefix between those of the first and the last page is one of a page of the range
pub at_page : (first more level number : ℕ) → IsCanonicalRange first (suc more) → 0 < level → level < 4 →
    prefix_of first level ≤ number → number ≤ prefix_of (first + more) level → (k : ℕ) × ((k < suc more) × (number ≡ prefix_of (first + k) level))
at_page first more level number range pos lt lo hi = go (cases_eq (prefix_of first level) number)
  where
    go : (prefix_of first level ≡ number) ⊎ (prefix_of first level ≡ number → ⊥) → (k : ℕ) × ((k < suc more) × (number ≡ prefix_of (first + k) level))
    go (inl e) = let z : first ≡ first + 0 = omega arith in (0, (omega arith, sym e ∙ ap (λ p. prefix_of p level) z))
    go (inr ne) = page_at first more level number range pos lt ne lo hi

pub piece_range : (first pages p m : ℕ) → IsCanonicalRange first pages → first ≤ p → p + m ≤ first + pages → 0 < m → IsCanonicalRange p m
piece_range first pages p m range lo hi some =
    let half : (first + pages - 1) / 2 ^ 35 ≡ first / 2 ^ 35 = range.one_half in
    let e : first + (p - first) ≡ p = omega arith in
    record { some = some; canonical = rw e at (page_canonical first pages (p - first) range (omega arith)); one_half = omega arith }

-- the pages from `p` on, `m` of them, are in the range
module _ (first pages p m : ℕ)
    (range : IsCanonicalRange first pages)
    (lo : first ≤ p)
    (hi : p + m ≤ first + pages)
    (some : 0 < m) where
  piece : IsCanonicalRange p m
  piece = piece_range first pages p m range lo hi some

  start : p % 2 ^ 36 ≡ first % 2 ^ 36 + (p - first)
  start =
      let e : first + (p - first) ≡ p = omega arith in
      ap (λ n. n % 2 ^ 36) (sym e) ∙ page_in first pages (p - first) range (omega arith)

  place : (k : ℕ) → k < m → prefix_of (p + k) 4 ≡ prefix_of p 4 + k
  place k lt = let h = page_in p m k piece lt in omega arith

  from_four : prefix_of first 4 ≤ prefix_of p 4
  from_four = let s = start in omega arith

  to_four : prefix_of p 4 + m ≤ prefix_of first 4 + pages
  to_four = let s = start in omega arith

  of_four : (n : ℕ) → prefix_of p 4 ≤ n → n < prefix_of p 4 + m → n ≡ prefix_of (p + (n - prefix_of p 4)) 4
  of_four n from to = let h = place (n - prefix_of p 4) (omega arith) in omega arith

  -- if no page of the piece is mapped, the range has as many
  pub unmapped_piece : (words : List ℕ) (root : ℕ) → ((k : ℕ) → k < m → reach words root 4 (prefix_of (p + k) 4) ≡ None) →
      m ≤ unmapped_of words root first pages
  unmapped_piece words root none =
      let w = absent_within words root 4 (prefix_of first 4) pages (prefix_of p 4) m from_four to_four in
      let all = absent_all words root 4 m (prefix_of p 4) (λ n from to. ap (reach words root 4) (of_four n from to) ∙ none (n - prefix_of p 4) (omega arith)) in
      omega arith

  pub unmapped_step : (old new : List ℕ) (root : ℕ) → ((k : ℕ) → k < m → reach old root 4 (prefix_of (p + k) 4) ≡ None) →
      ((n : ℕ) → ((k : ℕ) → k < m → n ≡ prefix_of (p + k) 4 → ⊥) → reach new root 4 n ≡ reach old root 4 n) →
      ((k : ℕ) → k < m → (t : Place) × (reach new root 4 (prefix_of (p + k) 4) ≡ Some t)) →
      unmapped_of new root first pages + m ≡ unmapped_of old root first pages
  unmapped_step old new root none same met =
      let i = absent_inside old new root 4 (prefix_of first 4) pages (prefix_of p 4) m from_four to_four
      (λ x out. same x (λ k lk e. let h = place k lk in out (omega arith) (omega arith)))
      (λ x from to. let t = met (x - prefix_of p 4) (omega arith) in (t.0, ap (reach new root 4) (of_four x from to) ∙ t.1)) in
      let all = absent_all old root 4 m (prefix_of p 4) (λ n from to. ap (reach old root 4) (of_four n from to) ∙ none (n - prefix_of p 4) (omega arith)) in
      omega arith

-- the tables of a piece
module _ (first more p over : ℕ)
    (range : IsCanonicalRange first (suc more))
    (lo : first ≤ p)
    (hi : p + suc over ≤ first + suc more) where
  begin : p % 2 ^ 36 ≡ first % 2 ^ 36 + (p - first)
  begin = start first (suc more) p (suc over) range lo hi (omega arith)

  low : (l : ℕ) → l < 4 → prefix_of first l ≤ prefix_of p l
  low l lt = let s = begin in prefix_le first p l (omega arith) lt

  mine : IsCanonicalRange p (suc over)
  mine = piece_range first (suc more) p (suc over) range lo hi (omega arith)

  inner : (k l : ℕ) → k < suc over → l < 4 → (prefix_of p l ≤ prefix_of (p + k) l) × (prefix_of (p + k) l ≤ prefix_of (p + over) l)
  inner k l lk lt =
      let a = page_in p (suc over) k mine lk in
      let b = page_in p (suc over) over mine (omega arith) in
      (prefix_le p (p + k) l (omega arith) lt, prefix_le (p + k) (p + over) l (omega arith) lt)

  high : (l : ℕ) → l < 4 → prefix_of p l + (prefix_of (p + over) l + 1 - prefix_of p l) ≤ prefix_of first
      l + (prefix_of (first + more) l + 1 - prefix_of first l)
  high l lt =
      let a = page_in p (suc over) over mine (omega arith) in
      let s = begin in
      let b = page_in first (suc more) more range (omega arith) in
      let x = inner over l (omega arith) lt in
      let y : prefix_of (p + over) l ≤ prefix_of (first + more) l = prefix_le (p + over) (first + more) l (omega arith) lt in
      let z = low l lt in
      omega arith

  -- a piece misses no more than the range
  pub missing_piece : (words : List ℕ) (root : ℕ) → missing_of words root p (suc over) ≤ missing_of words root first (suc more)
  missing_piece words root =
      let x = missing_by_level words root first more in
      let y = missing_by_level words root p over in
      let a = one 1 (omega arith) in
      let b = one 2 (omega arith) in
      let c = one 3 (omega arith) in
      omega arith
    where
      one : (l : ℕ) → l < 4 → absent_for words root p (p + over) l ≤ absent_for words root first (first + more) l
      one l lt = absent_within words root l (prefix_of first l) (prefix_of (first + more) l + 1 - prefix_of first l)
          (prefix_of p l) (prefix_of (p + over) l + 1 - prefix_of p l) (low l lt) (high l lt)

  -- if its tables are made, the range misses as many fewer
  pub missing_made : (old new : List ℕ) (root : ℕ) →
      ((l n : ℕ) → l < 4 → ((k : ℕ) → k < suc over → n ≡ prefix_of (p + k) l → ⊥) → reach new root l n ≡ reach old root l n) →
      ((l k : ℕ) → l < 4 → k < suc over → (t : Place) × (reach new root l (prefix_of (p + k) l) ≡ Some t)) →
      missing_of new root first (suc more) + missing_of old root p (suc over) ≡ missing_of old root first (suc more)
  missing_made old new root same met =
      let x = missing_by_level new root first more in
      let y = missing_by_level old root p over in
      let z = missing_by_level old root first more in
      let a = one 1 (omega arith) (omega arith) in
      let b = one 2 (omega arith) (omega arith) in
      let c = one 3 (omega arith) (omega arith) in
      omega arith
    where
      one : (l : ℕ) → 0 < l → l < 4 →
          absent_for new root first (first + more) l + absent_for old root p (p + over) l ≡ absent_for old root first (first + more) l
      one l pos lt = absent_inside old new root l (prefix_of first l) (prefix_of (first + more) l + 1 - prefix_of first l)
          (prefix_of p l) (prefix_of (p + over) l + 1 - prefix_of p l) (low l lt) (high l lt)
          (λ n out. same l n lt (λ k lk e. let i = inner k l lk lt in out (omega arith) (omega arith)))
          (λ n from to.
          let q = at_page p over l n mine pos lt from (let i = inner over l (omega arith) lt in omega arith) in
          let t = met l q.0 lt q.1.0 in
          (t.0, ap (reach new root l) q.1.1 ∙ t.1))

module _ (first pages p m : ℕ) (range : IsCanonicalRange first pages) (lo : first ≤ p) (hi : p + m ≤ first + pages) where
  pub missing_inside : (words : List ℕ) (root : ℕ) → missing_of words root p m ≤ missing_of words root first pages
  missing_inside words root = go pages m range hi
    where
      go : (pages m : ℕ) → IsCanonicalRange first pages → p + m ≤ first + pages → missing_of words root p m ≤ missing_of words root first pages
      go zero m range hi = absurd (let h : 0 < 0 = range.some in omega arith)
      go (suc more) zero range hi = let z = missing_none words root p in omega arith
      go (suc more) (suc over) range hi = missing_piece first more p over range lo hi words root

  pub missing_step_in : (old new : List ℕ) (root : ℕ) →
      ((l n : ℕ) → l < 4 → ((k : ℕ) → k < m → n ≡ prefix_of (p + k) l → ⊥) → reach new root l n ≡ reach old root l n) →
      ((l k : ℕ) → l < 4 → k < m → (t : Place) × (reach new root l (prefix_of (p + k) l) ≡ Some t)) → 0 < m →
      missing_of new root first pages + missing_of old root p m ≡ missing_of old root first pages
  missing_step_in old new root = go pages m range hi
    where
      go : (pages m : ℕ) → IsCanonicalRange first pages → p + m ≤ first + pages →
          ((l n : ℕ) → l < 4 → ((k : ℕ) → k < m → n ≡ prefix_of (p + k) l → ⊥) → reach new root l n ≡ reach old root l n) →
          ((l k : ℕ) → l < 4 → k < m → (t : Place) × (reach new root l (prefix_of (p + k) l) ≡ Some t)) → 0 < m →
          missing_of new root first pages + missing_of old root p m ≡ missing_of old root first pages
      go zero m range hi same met some = absurd (let h : 0 < 0 = range.some in omega arith)
      go (suc more) zero range hi same met some = absurd (omega arith)
      go (suc more) (suc over) range hi same met some = missing_made first more p over range lo hi old new root same met

-- if no page of the range is mapped, all are counted
pub unmapped_all : (words : List ℕ) (root first pages : ℕ) → IsCanonicalRange first pages →
    ((k : ℕ) → k < pages → reach words root 4 (prefix_of (first + k) 4) ≡ None) → unmapped_of words root first pages ≡ pages
unmapped_all words root first pages range none =
    absent_all words root 4 pages (prefix_of first 4) (λ n from to. ap (reach words root 4) (numbered n from to) ∙ none (n - prefix_of first 4) (omega arith))
  where
    numbered : (n : ℕ) → prefix_of first 4 ≤ n → n < prefix_of first 4 + pages → n ≡ prefix_of (first + (n - prefix_of first 4)) 4
    numbered n from to = let h = page_in first pages (n - prefix_of first 4) range (omega arith) in omega arith

-- if all are mapped, none is
pub unmapped_none : (words : List ℕ) (root first pages : ℕ) → IsCanonicalRange first pages →
    ((k : ℕ) → k < pages → (t : Place) × (reach words root 4 (prefix_of (first + k) 4) ≡ Some t)) → unmapped_of words root first pages ≡ 0
unmapped_none words root first pages range met =
    absent_met words root 4 pages (prefix_of first 4)
    (λ n from to. let t = met (n - prefix_of first 4) (omega arith) in (t.0, ap (reach words root 4) (numbered n from to) ∙ t.1))
  where
    numbered : (n : ℕ) → prefix_of first 4 ≤ n → n < prefix_of first 4 + pages → n ≡ prefix_of (first + (n - prefix_of first 4)) 4
    numbered n from to = let h = page_in first pages (n - prefix_of first 4) range (omega arith) in omega arith

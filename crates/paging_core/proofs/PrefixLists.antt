-- The lists of prefixes hold the prefixes of the pages.
use Rattle.std.proofs.Common.{◌≡◌, ℕ, zero, suc, ◌+◌, ◌-◌, ◌*◌, ◌%◌, ◌^◌, ◌<◌, ◌≤◌, [], ◌∷◌, ◌++◌, length, refl, sym, ap, subst, ◌∙◌, ◌⊎◌, inl, inr, arith}
use Rattle.std.specs.Prelude.{Contains}
use Rattle.std.proofs.lemmas.List.Elements.{Contains-append_left, Contains-append_right, Contains-append_cases}
use Rattle.std.proofs.lemmas.Bool.{cases_eq}
use Rattle.paging_core.specs.Address.{IsCanonicalRange}
use Rattle.paging_core.specs.Prefix.{Prefix, prefix_of, prefixes_from, prefixes_at, prefixes_of}
use Rattle.paging_core.proofs.Ranges.{page_in, prefix_le}

-- a list with one element
only_one : (x y : Prefix) → Contains (x ∷ []) y → x ≡ y
only_one x y (zero, lt, e) = e
only_one x y (suc k, lt, e) = absurd (omega arith)

pub from_contains : (level number count : ℕ) (p : Prefix) → Contains (prefixes_from level number count) p →
    (p.level ≡ level) × (number ≤ p.number) × (p.number < number + count)
unfolding prefixes_from
from_contains level number zero p (k, lt, e) = absurd (omega arith)
from_contains level number (suc count) p h =
    go (λ i. from_contains level (number + 1) count p i)
    (Contains-append_cases (record { level = level; number = number } ∷ []) (prefixes_from level (number + 1) count) p h)
  where
    go : (Contains (prefixes_from level (number + 1) count) p → (p.level ≡ level) × (number + 1 ≤ p.number) × (p.number < number + 1 + count)) →
        Contains (record { level = level; number = number } ∷ []) p ⊎ Contains (prefixes_from level (number + 1) count) p →
        (p.level ≡ level) × (number ≤ p.number) × (p.number < number + suc count)
    go ih (inl one) =
        let e : record { level = level; number = number } ≡ p = only_one (record { level = level; number = number }) p one in
        let l : level ≡ p.level = ap (λ q. q.level) e in
        let n : number ≡ p.number = ap (λ q. q.number) e in
        (sym l, omega arith, omega arith)
    go ih (inr rest) = let t = ih rest in (t.0, omega arith, omega arith)

pub contains_from : (level number count d : ℕ) → d < count → Contains (prefixes_from level number count) (record { level = level; number = number + d })
unfolding prefixes_from
contains_from level number zero d lt = absurd (omega arith)
contains_from level number (suc count) zero lt =
    let e : number + 0 ≡ number = omega arith in
    rw e (0, (let l : 0 < suc (length (prefixes_from level (number + 1) count)) = omega arith in l), refl)
contains_from level number (suc count) (suc d) lt =
    let e : number + suc d ≡ number + 1 + d = omega arith in
    rw e (Contains-append_right (record { level = level; number = number } ∷ []) (prefixes_from level (number + 1) count)
    (record { level = level; number = number + 1 + d }) (contains_from level (number + 1) count d (omega arith)))

-- each prefix between those of the first and the last page is one of a page of the range
pub page_at : (first more level number : ℕ) → IsCanonicalRange first (suc more) → 0 < level → level < 4 → (prefix_of first level ≡ number → ⊥) →
    prefix_of first level ≤ number → number ≤ prefix_of (first + more) level → (k : ℕ) × ((k < suc more) × (number ≡ prefix_of (first + k) level))
page_at first more zero number range pos lt ne lo hi = absurd (omega arith)
page_at first more (suc zero) number range pos lt ne lo hi =
    let last = page_in first (suc more) more range (omega arith) in
    let at = page_in first (suc more) (number * 2 ^ 27 - first % 2 ^ 36) range (omega arith) in
    (number * 2 ^ 27 - first % 2 ^ 36, (omega arith, omega arith))
page_at first more (suc (suc zero)) number range pos lt ne lo hi =
    let last = page_in first (suc more) more range (omega arith) in
    let at = page_in first (suc more) (number * 2 ^ 18 - first % 2 ^ 36) range (omega arith) in
    (number * 2 ^ 18 - first % 2 ^ 36, (omega arith, omega arith))
page_at first more (suc (suc (suc zero))) number range pos lt ne lo hi =
    let last = page_in first (suc more) more range (omega arith) in
    let at = page_in first (suc more) (number * 2 ^ 9 - first % 2 ^ 36) range (omega arith) in
    (number * 2 ^ 9 - first % 2 ^ 36, (omega arith, omega arith))
page_at first more (suc (suc (suc (suc level)))) number range pos lt ne lo hi = absurd (omega arith)

module _ (first more level number : ℕ) (range : IsCanonicalRange first (suc more)) where
  abbrev pub OfPage : Type 0
  OfPage = (k : ℕ) × ((k < suc more) × (number ≡ prefix_of (first + k) level))

  abbrev pub here : Prefix
  here = record { level = level; number = number }

  -- from the interval to a page
  of_page : (l : ℕ) → 0 < l → l < 4 → Contains (prefixes_at first (first + more) l) here → (0 < level) × (level < 4) × OfPage
  of_page l pos lt h = go (cases_eq (prefix_of first level) number)
    where
      t : (level ≡ l) × (prefix_of first l ≤ number) × (number < prefix_of first l + (prefix_of (first + more) l + 1 - prefix_of first l))
      t = from_contains l (prefix_of first l) (prefix_of (first + more) l + 1 - prefix_of first l) here h

      le : prefix_of first l ≤ prefix_of (first + more) l
      le = let p = page_in first (suc more) more range (omega arith) in prefix_le first (first + more) l (omega arith) lt

      go : (prefix_of first level ≡ number) ⊎ (prefix_of first level ≡ number → ⊥) → (0 < level) × (level < 4) × OfPage
      go (inl e) =
          let z : first ≡ first + 0 = omega arith in
          (omega (arith, t.0), omega (arith, t.0), (0, (omega arith, sym e ∙ ap (λ p. prefix_of p level) z)))
      go (inr ne) =
          let c = t in
          let h : prefix_of first level ≤ number = rw c.0 c.1 in
          let k : number ≤ prefix_of (first + more) level = rw c.0 (let d = le in omega arith) in
          (omega arith, omega arith, page_at first more level number range (omega arith) (omega arith) ne h k)

  -- and back
  of_interval : 0 < level → level < 4 → OfPage → Contains (prefixes_at first (first + more) level) here
  of_interval pos lt p =
      let a = page_in first (suc more) p.0 range p.1.0 in
      let z = page_in first (suc more) more range (omega arith) in
      let lo : prefix_of first level ≤ prefix_of (first + p.0) level = prefix_le first (first + p.0) level (omega arith) lt in
      let hi : prefix_of (first + p.0) level ≤ prefix_of (first + more) level = prefix_le (first + p.0) (first + more) level (omega arith) lt in
      let n : number ≡ prefix_of (first + p.0) level = p.1.1 in
      let d : prefix_of first level + (number - prefix_of first level) ≡ number = omega arith in
      rw d at (contains_from level (prefix_of first level) (prefix_of (first + more) level + 1 - prefix_of first level)
      (number - prefix_of first level) (omega arith))

  pub prefixes_of_pages : Contains (prefixes_of first (suc more)) here → (0 < level) × (level < 4) × OfPage
  unfolding prefixes_of
  prefixes_of_pages h = go (Contains-append_cases (prefixes_at first (first + more) 1)
      (prefixes_at first (first + more) 2 ++ prefixes_at first (first + more) 3) here h)
    where
      high : Contains (prefixes_at first (first + more) 2) here ⊎ Contains (prefixes_at first (first + more) 3) here → (0 < level) × (level < 4) × OfPage
      high (inl x) = of_page 2 (omega arith) (omega arith) x
      high (inr x) = of_page 3 (omega arith) (omega arith) x

      go : Contains (prefixes_at first (first + more) 1) here ⊎ Contains (prefixes_at first (first + more) 2 ++ prefixes_at first (first + more) 3) here →
          (0 < level) × (level < 4) × OfPage
      go (inl x) = of_page 1 (omega arith) (omega arith) x
      go (inr x) = high (Contains-append_cases (prefixes_at first (first + more) 2) (prefixes_at first (first + more) 3) here x)

  pub pages_of_prefixes : 0 < level → level < 4 → OfPage → Contains (prefixes_of first (suc more)) here
  unfolding prefixes_of
  pages_of_prefixes pos lt p = go level refl (of_interval pos lt p)
    where
      go : (l : ℕ) → level ≡ l → Contains (prefixes_at first (first + more) level) here →
          Contains (prefixes_at first (first + more) 1 ++ (prefixes_at first (first + more) 2 ++ prefixes_at first (first + more) 3)) here
      go zero e h = absurd (omega arith)
      go (suc zero) e h =
          Contains-append_left (prefixes_at first (first + more) 1) (prefixes_at first (first + more) 2 ++ prefixes_at first
          (first + more) 3) here (subst (λ k. Contains (prefixes_at first (first + more) k) here) e h)
      go (suc (suc zero)) e h =
          Contains-append_right (prefixes_at first (first + more) 1) (prefixes_at first (first + more) 2 ++ prefixes_at first (first + more) 3) here
          (Contains-append_left (prefixes_at first (first + more) 2) (prefixes_at first (first + more) 3) here
          (subst (λ k. Contains (prefixes_at first (first + more) k) here) e h))
      go (suc (suc (suc zero))) e h =
          Contains-append_right (prefixes_at first (first + more) 1) (prefixes_at first (first + more) 2 ++ prefixes_at first (first + more) 3) here
          (Contains-append_right (prefixes_at first (first + more) 2) (prefixes_at first (first + more) 3) here
          (subst (λ k. Contains (prefixes_at first (first + more) k) here) e h))
      go (suc (suc (suc (suc l)))) e h = absurd (omega arith)

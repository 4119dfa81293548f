-- The pages of a range are changed one after the other.
use Rattle.std.proofs.Common.{◌≡◌, ℕ, ◌+◌, ◌-◌, ◌*◌, ◌<◌, ◌≤◌, Bool, true, false, ◌||◌, List, Some, sym, ◌∙◌, ◌⊎◌, inl, inr, arith}
use Rattle.std.proofs.lemmas.Bool.{cases_Bool}
use Rattle.std.proofs.lemmas.Bool.Decides.{nat_tests}
use Rattle.std.specs.Prelude.{IsTrue}
use Rattle.paging_core.specs.Address.{is_canonical, IsCanonicalRange}
use Rattle.paging_core.specs.Area.{Area}
use Rattle.paging_core.specs.Prefix.{prefix_of}
use Rattle.paging_core.specs.Walk.{Place, walk_of}
use Rattle.paging_core.specs.Tree.{IsTreeIn}
use Rattle.paging_core.specs.PageChanges.{Change, ArePagesChanged, only, among}
use Rattle.paging_core.proofs.Prefixes.{walk_reach}
use Rattle.paging_core.proofs.PageChanged.{none_changed, changed_more}
use Rattle.paging_core.proofs.Ranges.{page_in, page_canonical, same_number}

pub among_none : (first n : ℕ) → among first 0 n ≡ false
among_none first n = grind (arith, nat_tests)

among_more : (first k n : ℕ) → prefix_of (first + k) 4 ≡ prefix_of first 4 + k → among first (k + 1) n ≡ (among first k n || only (first + k) n)
among_more first k n e = grind (arith, nat_tests)

among_apart : (first k n : ℕ) → prefix_of (first + k) 4 ≡ prefix_of first 4 + k → among first k n ≡ true → only (first + k) n ≡ false
among_apart first k n e g = grind (arith, nat_tests)

among_not : (first k j : ℕ) → k ≤ j → prefix_of (first + j) 4 ≡ prefix_of first 4 + j → among first k (prefix_of (first + j) 4) ≡ false
among_not first k j le e = grind (arith, nat_tests)

among_is : (first k j : ℕ) → j < k → prefix_of (first + j) 4 ≡ prefix_of first 4 + j → among first k (prefix_of (first + j) 4) ≡ true
among_is first k j lt e = grind (arith, nat_tests)

pub range_begun : (words : List ℕ) (root first : ℕ) (change : Change) → ArePagesChanged words words root change (among first 0)
range_begun words root first change = none_changed words root change (among first 0) (among_none first)

-- the first `k` pages of the range were changed
module _ (old mid : List ℕ) (root first pages k : ℕ) (change : Change)
    (range : IsCanonicalRange first pages)
    (all : ArePagesChanged old mid root change (among first k)) where
  number : (j : ℕ) → j < pages → prefix_of (first + j) 4 ≡ prefix_of first 4 + j
  number j lt = let p = page_in first pages j range lt in omega arith

  pub next_mapped : k < pages → walk_of mid root (first + k) ≡ walk_of old root (first + k)
  next_mapped lt =
      walk_reach mid root (first + k)
      ∙ (all.stayed 4 (prefix_of (first + k) 4) (omega arith) (λ _. among_not first k k (omega arith) (number k lt))
      ∙ sym (walk_reach old root (first + k)))

  pub next_apart : k < pages → (n : ℕ) → among first k n ≡ true → only (first + k) n ≡ false
  next_apart lt n g = among_apart first k n (number k lt) g

  pub next_both : k < pages → (n : ℕ) → among first (k + 1) n ≡ (among first k n || only (first + k) n)
  next_both lt n = among_more first k n (number k lt)

  pub next_changed : {area : Area} → k < pages → (new : List ℕ) (free : List Bool) → IsTreeIn area old root free →
      ArePagesChanged mid new root change (only (first + k)) →
      ArePagesChanged old new root change (among first (k + 1))
  next_changed lt new free tree next =
      changed_more old mid new root change (among first k) (only (first + k)) (among first (k + 1)) all next (next_both lt) free tree (next_apart lt)

  pub range_leads : k ≤ pages → (j : ℕ) → j < k → (place : Place) → walk_of old root (first + j) ≡ Some place →
      walk_of mid root (first + j) ≡ change.leads place
  range_leads le j lt place at =
      walk_reach mid root (first + j)
      ∙ all.changed (prefix_of (first + j) 4) place (among_is first k j lt (number j (omega arith))) (sym (walk_reach old root (first + j)) ∙ at)

  pub range_rest : k ≡ pages → (other : ℕ) → IsTrue (is_canonical (other * 4096)) → ((j : ℕ) → j < pages → other ≡ first + j → ⊥) →
      walk_of mid root other ≡ walk_of old root other
  range_rest e other canonical apart =
      walk_reach mid root other
      ∙ (all.stayed 4 (prefix_of other 4) (omega arith) (λ _. go (cases_Bool (among first k (prefix_of other 4))))
      ∙ sym (walk_reach old root other))
    where
      go : (among first k (prefix_of other 4) ≡ true) ⊎ (among first k (prefix_of other 4) ≡ false) → among first k (prefix_of other 4) ≡ false
      go (inr x) = x
      go (inl x) =
          let lo : prefix_of first 4 ≤ prefix_of other 4 = grind (arith, nat_tests) in
          let hi : prefix_of other 4 < prefix_of first 4 + k = grind (arith, nat_tests) in
          let lj : prefix_of other 4 - prefix_of first 4 < pages = omega arith in
          let p = page_in first pages (prefix_of other 4 - prefix_of first 4) range lj in
          let h = page_canonical first pages (prefix_of other 4 - prefix_of first 4) range lj in
          absurd (apart (prefix_of other 4 - prefix_of first 4) lj
          (same_number other (first + (prefix_of other 4 - prefix_of first 4)) canonical h (omega arith)))

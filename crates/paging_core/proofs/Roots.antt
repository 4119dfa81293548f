-- A root table with no entry.
use Rattle.std.proofs.Common.{◌≡◌, ℕ, zero, suc, ◌/◌, ◌%◌, ◌<◌, Bool, true, false, eqb, List, Option, Some, None, refl, sym, ap, ◌∙◌, ◌⊎◌, inl, inr, arith}
use Rattle.std.proofs.lemmas.Bool.{eqb-true, cases_eq}
use Rattle.paging_core.specs.Area.{Area, in_area}
use Rattle.paging_core.specs.Memory.{word_at}
use Rattle.paging_core.specs.Prefix.{prefix_of}
use Rattle.paging_core.specs.Pool.{is_frame_free}
use Rattle.paging_core.specs.Walk.{Place, by_entries, step, reach, large_of, large_from, next_from, walk_of, top}
use Rattle.paging_core.specs.Tree.{IsTreeIn}
use Rattle.paging_core.proofs.Reach.{entries_zero, entries_suc, reach_low, reach_entries, step_zero, large_is, either_way, ByEntry, InLarge}
use Rattle.paging_core.proofs.Plain.{plain_zero}
use Rattle.paging_core.proofs.Prefixes.{walk_reach}
use Rattle.paging_core.proofs.Made.{some_of_cond}

-- with an entry for each index nothing is met but the root
entries_root : (words : List ℕ) (root : ℕ) → ((i : ℕ) → i < 512 → word_at words root i ≡ 0) →
    (l n : ℕ) (met : Place) → by_entries words root l n ≡ Some met → (l ≡ 0) × (n ≡ 0) × (met ≡ top root)
entries_root words root blank zero n met is =
    let p : (eqb n 0 ≡ true) × (top root ≡ met) = some_of_cond (eqb n 0) (top root) met (sym (entries_zero words root n) ∙ is) in
    (refl, eqb-true n 0 p.0, sym p.1)
entries_root words root blank (suc l) n met is =
    go (λ b e. entries_root words root blank l (n / 512) b e) (by_entries words root l (n / 512)) refl (sym (entries_suc words root l n) ∙ is)
  where
    go : ((b : Place) → by_entries words root l (n / 512) ≡ Some b → (l ≡ 0) × (n / 512 ≡ 0) × (b ≡ top root)) →
        (o : Option Place) → by_entries words root l (n / 512) ≡ o → next_from words l o (n % 512) ≡ Some met →
        (suc l ≡ 0) × (n ≡ 0) × (met ≡ top root)
    go ih None e x = absurd (cc)
    go ih (Some b) e x =
        let p : (l ≡ 0) × (n / 512 ≡ 0) × (b ≡ top root) = ih b e in
        let f : b.frame ≡ root = ap (λ m. m.frame) p.2 in
        let z : step words l b (n % 512) ≡ None = step_zero words l b (n % 512) (ap (λ k. word_at words k (n % 512)) f ∙ blank (n % 512) (omega arith)) in
        absurd (cc)

low_root : (words : List ℕ) (root : ℕ) → ((i : ℕ) → i < 512 → word_at words root i ≡ 0) →
    (l n : ℕ) (met : Place) → l < 4 → reach words root l n ≡ Some met → (l ≡ 0) × (n ≡ 0) × (met ≡ top root)
low_root words root blank l n met lt is = entries_root words root blank l n met (sym (reach_low words root l n lt) ∙ is)

-- no large page is met
pub no_large : (words : List ℕ) (root : ℕ) → ((i : ℕ) → i < 512 → word_at words root i ≡ 0) → (n : ℕ) → large_of words root n ≡ None
no_large words root blank n = large_is words root n ∙ go (reach words root 2 (n / 512)) refl
  where
    go : (o : Option Place) → reach words root 2 (n / 512) ≡ o → large_from words o (n % 512) ≡ None
    go None e = refl
    go (Some b) e = let p = low_root words root blank 2 (n / 512) b (omega arith) e in absurd (omega (arith, p.0))

-- nothing is met but the root
only_root : (words : List ℕ) (root : ℕ) → ((i : ℕ) → i < 512 → word_at words root i ≡ 0) →
    (l n : ℕ) (met : Place) → reach words root l n ≡ Some met → (l ≡ 0) × (n ≡ 0) × (met ≡ top root)
only_root words root blank l n met is = go (cases_eq l 4)
  where
    way : ByEntry words root n met ⊎ InLarge words root n met → (l ≡ 0) × (n ≡ 0) × (met ≡ top root)
    way (inl x) = let p = low_root words root blank 3 (n / 512) x.table (omega arith) x.met in absurd (omega (arith, p.0))
    way (inr x) = let z = no_large words root blank (n / 512) in let y = x.met in absurd (cc)

    go : (l ≡ 4) ⊎ (l ≡ 4 → ⊥) → (l ≡ 0) × (n ≡ 0) × (met ≡ top root)
    go (inr ne) = entries_root words root blank l n met (sym (reach_entries words root l n ne) ∙ is)
    go (inl x) = way (either_way words root n met (rw x at is))

pub tree_start : (area : Area) (words : List ℕ) (root : ℕ) (free : List Bool) →
    ((i : ℕ) → i < 512 → word_at words root i ≡ 0) → is_frame_free free root ≡ false →
    in_area area root ≡ true → IsTreeIn area words root free
tree_start area words root free blank taken within = record {
  rights = λ l n met lt is. let p = only_root words root blank l n met is in rw p.2 refl;
  distinct = λ l n k j a b ll lk x y e.
      let p : (l ≡ 0) × (n ≡ 0) × (a ≡ top root) = only_root words root blank l n a x in
      let q : (k ≡ 0) × (j ≡ 0) × (b ≡ top root) = only_root words root blank k j b y in
      (p.0 ∙ sym q.0, p.1 ∙ sym q.1);
  used = λ l n met le is. let p = only_root words root blank l n met is in rw p.2 taken;
  inside = λ l n met lt is. let p = only_root words root blank l n met is in rw p.2 within;
  plain = record {
    each = λ l n i met lt li is.
        let p = only_root words root blank l n met is in
        plain_zero words l (word_at words met.frame i) (ap (λ m. word_at words m.frame i) p.2 ∙ blank i li);
  };
}

pub none_past : (words : List ℕ) (root : ℕ) → ((i : ℕ) → i < 512 → word_at words root i ≡ 0) →
    (l n : ℕ) → 0 < l → reach words root l n ≡ None
none_past words root blank l n pos = go (reach words root l n) refl
  where
    go : (o : Option Place) → reach words root l n ≡ o → o ≡ None
    go None e = refl
    go (Some m) e = let p = only_root words root blank l n m e in absurd (omega arith)

pub nothing_mapped : (words : List ℕ) (root : ℕ) → ((i : ℕ) → i < 512 → word_at words root i ≡ 0) → (page : ℕ) → walk_of words root page ≡ None
nothing_mapped words root blank page = walk_reach words root page ∙ none_past words root blank 4 (prefix_of page 4) (omega arith)

-- A write of one entry that adds one place to the tree.
use Rattle.std.proofs.Common.{◌≡◌, ℕ, suc, ◌+◌, ◌*◌, ◌<◌, ◌≤◌, Bool, true, false, List, length, Some, None, sym, ap, ◌∙◌, ◌⊎◌, inl, inr, arith}
use Rattle.std.proofs.lemmas.Bool.{cases_eq}
use Rattle.paging_core.specs.Walk.{Place}
use Rattle.paging_core.specs.Walk.{step, large_step, large_of, large_from, reach, next_from, top}
use Rattle.paging_core.specs.Area.{Area, in_area}
use Rattle.paging_core.specs.Memory.{word_at}
use Rattle.paging_core.specs.Pool.{is_frame_free}
use Rattle.paging_core.specs.Tree.{IsTreeIn, last_own}
use Rattle.paging_core.specs.Entry.{has_bit}
use Rattle.paging_core.specs.Plain.{IsPlain}
use Rattle.paging_core.proofs.Plain.{plain_kept, plain_zero}
use Rattle.paging_core.proofs.Reach.{reach_there, reach_others, larges_others, step_zero, large_zero}
use Rattle.paging_core.proofs.Areas.{own_met, own_table}

-- the entry `index` of the table at `at`, absent in `old`, leads to `to` in `new`, and no other step is changed
pub record IsLink (old new : List ℕ) (root level prefix index : ℕ) (at to : Place) : Type 0 where
  pub level_bound : level ≤ 3
  pub index_bound : index < 512
  pub here : reach old root level prefix ≡ Some at
  pub size : length new ≡ length old
  pub elsewhere : (f j : ℕ) → j < 512 → (f ≡ at.frame → j ≡ index → ⊥) → word_at new f j ≡ word_at old f j
  pub was : step old level at index ≡ None
  pub is : step new level at index ≡ Some to
  -- it mapped no large page, and maps none
  pub small : level ≡ 2 → (large_step old at index ≡ None) × (large_step new at index ≡ None)
  -- the new place is no table yet, or one with no entry
  pub bare : level < 3 → (j : ℕ) → j < 512 → word_at new to.frame j ≡ 0
  pub plain : IsPlain new level (word_at new at.frame index)

module _ {area : Area} (old new : List ℕ) (root level prefix index : ℕ) (at to : Place) (free : List Bool)
    (link : IsLink old new root level prefix index at to)
    (tree : IsTreeIn area old root free) where
  alone : (l n : ℕ) (b : Place) → l < 4 → reach old root l n ≡ Some b → b.frame ≡ at.frame → (l ≡ level) × (n ≡ prefix)
  alone l n b lt is e = tree.distinct l n level prefix b at (own_table area l lt) (own_table area level (omega (arith, link.level_bound))) is link.here e

  below : level < 3 → (j : ℕ) → j < 512 → next_from new (suc level) (step new level at index) j ≡ next_from old (suc level) (step old level at index) j
  below lt j lj = rw (link.is, link.was) (step_zero new (suc level) to j (link.bare lt j lj))

  below_large : level ≡ 1 → (j : ℕ) → j < 512 → large_from new (step new level at index) j ≡ large_from old (step old level at index) j
  below_large e j lj = rw (link.is, link.was) (large_zero new to j (link.bare (omega arith) j lj))

  large : level ≡ 2 → large_step new at index ≡ large_step old at index
  large e = (link.small e).1 ∙ sym (link.small e).0

  pub link_there : reach new root (suc level) (512 * prefix + index) ≡ Some to
  link_there =
      reach_there old new root level prefix index at link.size link.index_bound link.level_bound link.here link.elsewhere
      alone below below_large large ∙ link.is

  pub link_others : (l n : ℕ) → l ≤ 4 → (l ≡ suc level → n ≡ 512 * prefix + index → ⊥) → reach new root l n ≡ reach old root l n
  link_others = reach_others old new root level prefix index at link.size link.index_bound link.level_bound link.here
      link.elsewhere alone below below_large large

  pub link_larges : (n : ℕ) → large_of new root n ≡ large_of old root n
  link_larges = larges_others old new root level prefix index at link.size link.index_bound link.level_bound link.here
      link.elsewhere alone below below_large large

  -- what the new walk meets is the new place or an old one
  met : (l n : ℕ) (b : Place) → l ≤ 4 → reach new root l n ≡ Some b →
      ((l ≡ suc level) × (n ≡ 512 * prefix + index) × (b ≡ to)) ⊎ (reach old root l n ≡ Some b)
  met l n b le is = go (cases_eq l (suc level)) (cases_eq n (512 * prefix + index))
    where
      go : (l ≡ suc level) ⊎ (l ≡ suc level → ⊥) → (n ≡ 512 * prefix + index) ⊎ (n ≡ 512 * prefix + index → ⊥) →
          ((l ≡ suc level) × (n ≡ 512 * prefix + index) × (b ≡ to)) ⊎ (reach old root l n ≡ Some b)
      go (inl x) (inl y) = inl (x, y, (let h : reach new root (suc level) (512 * prefix + index) ≡ Some b = rw (← x, ← y) is in let k = link_there in cc))
      go (inl x) (inr y) = inr (sym (link_others l n le (λ _ z. y z)) ∙ is)
      go (inr x) _ = inr (sym (link_others l n le (λ z _. x z)) ∙ is)

  module _ (free' : List Bool)
      (fresh : (l n : ℕ) (b : Place) → l ≤ last_own area → suc level ≤ last_own area → reach old root l n ≡ Some b → b.frame ≡ to.frame → ⊥)
      (rights : level < 3 → to ≡ top to.frame)
      (within : level < 3 → in_area area to.frame ≡ true)
      (taken : suc level ≤ last_own area → is_frame_free free' to.frame ≡ false)
      (fewer : (f : ℕ) → is_frame_free free f ≡ false → is_frame_free free' f ≡ false) where
    pub tree_link : IsTreeIn area new root free'
    tree_link = record {
      rights = λ l n b lt is. rights_of l n b lt (met l n b (omega arith) is);
      distinct = λ l n k j a b ll lk ia ib e. distinct_of l n k j a b ll lk e (met l n a (own_met area l ll) ia) (met k j b (own_met area k lk) ib);
      used = λ l n b le is. used_of l n b le (met l n b (own_met area l le) is);
      inside = λ l n b lt is. inside_of l n b lt (met l n b (omega arith) is);
      plain = record { each = λ l n i b lt li is. plain_of l n i b lt li (met l n b (omega arith) is) };
    }
      where
        plain_of : (l n i : ℕ) (b : Place) → l < 4 → i < 512 → ((l ≡ suc level) × (n ≡ 512 * prefix + index) × (b ≡ to)) ⊎ (reach old root l n ≡ Some b) →
            has_bit (word_at new b.frame i) 0 ≡ true → IsPlain new l (word_at new b.frame i)
        plain_of l n i b lt li (inl x) =
            plain_zero new l (word_at new b.frame i) (ap (λ m. word_at new m.frame i) x.2 ∙ link.bare (omega arith) i li)
        plain_of l n i b lt li (inr x) = go (cases_eq b.frame at.frame) (cases_eq i index)
          where
            kept : (b.frame ≡ at.frame → i ≡ index → ⊥) → has_bit (word_at new b.frame i) 0 ≡ true → IsPlain new l (word_at new b.frame i)
            kept ne = plain_kept old new l (word_at old b.frame i) (word_at new b.frame i) link.size
                (link.elsewhere b.frame i li ne) (tree.plain.each l n i b lt li x)

            go : (b.frame ≡ at.frame) ⊎ (b.frame ≡ at.frame → ⊥) → (i ≡ index) ⊎ (i ≡ index → ⊥) →
                has_bit (word_at new b.frame i) 0 ≡ true → IsPlain new l (word_at new b.frame i)
            go (inl e) (inl f) = let p = alone l n b lt x e in rw (e, f, p.0) (λ _. link.plain)
            go (inr e) _ = kept (λ f _. e f)
            go _ (inr f) = kept (λ _ g. f g)

        rights_of : (l n : ℕ) (b : Place) → l < 4 → ((l ≡ suc level) × (n ≡ 512 * prefix + index) × (b ≡ to)) ⊎ (reach old root l n ≡ Some b) → b ≡ top b.frame
        rights_of l n b lt (inl x) = let h : to ≡ top to.frame = rights (omega arith) in rw x.2 h
        rights_of l n b lt (inr x) = tree.rights l n b lt x

        inside_of : (l n : ℕ) (b : Place) → l < 4 → ((l ≡ suc level) × (n ≡ 512 * prefix + index) × (b ≡ to)) ⊎ (reach old
            root l n ≡ Some b) → in_area area b.frame ≡ true
        inside_of l n b lt (inl x) = let h = within (omega arith) in rw x.2 h
        inside_of l n b lt (inr x) = tree.inside l n b lt x

        used_of : (l n : ℕ) (b : Place) → l ≤ last_own area → ((l ≡ suc level) × (n ≡ 512 * prefix + index) × (b ≡ to)) ⊎ (reach old
            root l n ≡ Some b) → is_frame_free free' b.frame ≡ false
        used_of l n b le (inl x) = rw x.2 (taken (rw x.0 at le))
        used_of l n b le (inr x) = fewer b.frame (tree.used l n b le x)

        distinct_of : (l n k j : ℕ) (a b : Place) → l ≤ last_own area → k ≤ last_own area → a.frame ≡ b.frame →
            ((l ≡ suc level) × (n ≡ 512 * prefix + index) × (a ≡ to)) ⊎ (reach old root l n ≡ Some a) →
            ((k ≡ suc level) × (j ≡ 512 * prefix + index) × (b ≡ to)) ⊎ (reach old root k j ≡ Some b) → (l ≡ k) × (n ≡ j)
        distinct_of l n k j a b ll lk e (inl x) (inl y) = (omega arith, omega arith)
        distinct_of l n k j a b ll lk e (inl x) (inr y) = absurd (fresh k j b lk (rw x.0 at ll) y
            (let h : a.frame ≡ to.frame = ap (λ m. m.frame) x.2 in sym e ∙ h))
        distinct_of l n k j a b ll lk e (inr x) (inl y) = absurd (fresh l n a ll (rw y.0 at lk) x
            (let h : b.frame ≡ to.frame = ap (λ m. m.frame) y.2 in e ∙ h))
        distinct_of l n k j a b ll lk e (inr x) (inr y) = tree.distinct l n k j a b ll lk x y e

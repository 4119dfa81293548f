-- A tree in whose left or right subtree a pair was put.
use Rattle.std.proofs.Common.{◌≡◌, ℕ, ◌+◌, ◌≤◌, ◌∷◌, ◌++◌, max, IsSome, refl, sym, ap, ◌∙◌, arith, inl, inr}
use Rattle.std.proofs.lemmas.Bool.{cases_lt}
use Rattle.std.specs.Cmp.{IsTotalOrder}
use Rattle.std.specs.declared.alloc.Global.{Global}
use Rattle.std.specs.declared.boxed.Box.{Box}
use Rattle.std.specs.declared.cmp.Ordering.{Ordering}
use Rattle.std.specs.declared.cmp.Ordering.TheVariants.{Less, Equal, Greater}
use Rattle.meminterval.specs.declared.interval.Interval.{Interval}
use Rattle.meminterval.specs.declared.node.Node.{Node}
use Rattle.meminterval.specs.declared.node.Subtree.{Subtree}
use Rattle.meminterval.specs.declared.node.Subtree.TheVariants.{Fork}
use Rattle.meminterval.specs.Balance.{IsRestored}
use Rattle.meminterval.specs.Entries.{IsOrdered, value_at}
use Rattle.meminterval.specs.Insertion.{IsAdded, IsPresent, IsInsertRefused}
use Rattle.meminterval.specs.Interval.{by_ends}
use Rattle.meminterval.specs.Subtree.{tree_of}
use Rattle.meminterval.specs.Tree.{entries, levels, DifferByAtMost, IsBalanced}
use Rattle.meminterval.proofs.Ordered.{by_ends-total, with_left, with_right, value_left, value_middle, value_right}

-- how high a tree is whose left subtree became at most one level higher
heights_left : (l r l' t : ℕ) → DifferByAtMost 1 l r → l ≤ l' → l' ≤ l + 1 → max l' r ≤ t → t ≤ max l' r + 1 → (DifferByAtMost 1 l' r → t ≡ max l' r + 1)
    → (max l r + 1 ≤ t) × (t ≤ max l r + 1 + 1)
heights_left l r l' t near low high lower upper same = elim (cases_lt (r + 1) l') [
  | inl lt ↦ (omega (arith, near.0, near.1, low, high, lower, upper, lt), omega (arith, near.0, near.1, low, high, lower, upper, lt))
  | inr ge ↦
      let e = same (omega (arith, ge), omega (arith, near.1, low)) in
      (omega (arith, near.0, near.1, low, high, e), omega (arith, near.0, near.1, low, high, e))
]

-- the same of the right subtree
heights_right : (l r r' t : ℕ) → DifferByAtMost 1 l r → r ≤ r' → r' ≤ r + 1 → max l r' ≤ t → t ≤ max l r' + 1 → (DifferByAtMost 1 l r' → t ≡ max l r' + 1)
    → (max l r + 1 ≤ t) × (t ≤ max l r + 1 + 1)
heights_right l r r' t near low high lower upper same = elim (cases_lt (l + 1) r') [
  | inl lt ↦ (omega (arith, near.0, near.1, low, high, lower, upper, lt), omega (arith, near.0, near.1, low, high, lower, upper, lt))
  | inr ge ↦
      let e = same (omega (arith, near.0, low), omega (arith, ge)) in
      (omega (arith, near.0, near.1, low, high, e), omega (arith, near.0, near.1, low, high, e))
]

module _ {T V : Type 0} (cmp : T → T → Ordering) (total : IsTotalOrder cmp) (x : Interval T × V) (b : Box (Node T V) Global)
    (s : IsOrdered (by_ends cmp) (entries (tree_of (Fork b)))) where
  pub added_left : (below after : Subtree T V) → by_ends cmp x.0 b.value.interval ≡ Less → IsBalanced (tree_of (Fork b)) → IsAdded cmp x b.value.left below
      → IsRestored cmp below (b.value.interval, b.value.value) b.value.right after → IsAdded cmp x (Fork b) after
  added_left below after h balanced a restored =
      let high = heights_left (levels (tree_of b.value.left)) (levels (tree_of b.value.right)) (levels (tree_of below))
      (levels (tree_of after)) balanced.2 a.not_lower a.not_higher restored.not_lower restored.not_higher
      restored.in_balance in
      record {
        absent = value_left (by_ends cmp) (by_ends-total total) _ _ _ s _ h ∙ a.absent;
        pairs = restored.pairs ∙ ap (λ es. es ++ (b.value.interval, b.value.value) ∷ entries (tree_of b.value.right))
            a.pairs ∙ sym (with_left (by_ends cmp) x _ _ _ h);
        recorded = restored.recorded;
        balanced = restored.balanced;
        not_lower = high.0;
        not_higher = high.1;
      }

  pub added_right : (below after : Subtree T V) → by_ends cmp x.0 b.value.interval ≡ Greater → IsBalanced (tree_of (Fork b)) → IsAdded cmp x b.value.right below
      → IsRestored cmp b.value.left (b.value.interval, b.value.value) below after → IsAdded cmp x (Fork b) after
  added_right below after h balanced a restored =
      let high = heights_right (levels (tree_of b.value.left)) (levels (tree_of b.value.right)) (levels (tree_of below))
      (levels (tree_of after)) balanced.2 a.not_lower a.not_higher restored.not_lower restored.not_higher
      restored.in_balance in
      record {
        absent = value_right (by_ends cmp) (by_ends-total total) _ _ _ s _ h ∙ a.absent;
        pairs = restored.pairs ∙ ap (λ es. entries (tree_of b.value.left) ++ (b.value.interval, b.value.value) ∷ es) a.pairs
            ∙ sym (with_right (by_ends cmp) (by_ends-total total) _ _ _ s x h);
        recorded = restored.recorded;
        balanced = restored.balanced;
        not_lower = high.0;
        not_higher = high.1;
      }

  pub present_here : by_ends cmp x.0 b.value.interval ≡ Equal → IsPresent cmp x (Fork b) (Fork b)
  present_here h = record { there = rw (value_middle (by_ends cmp) (by_ends-total total) _ _ _ s _ h) refl; same = refl }

  pub present_left : (after : Subtree T V) → by_ends cmp x.0 b.value.interval ≡ Less →
      IsSome (value_at (by_ends cmp) x.0 (entries (tree_of b.value.left))) → after ≡ Fork b → IsPresent cmp x (Fork b) after
  present_left after h there same = record { there = rw (value_left (by_ends cmp) (by_ends-total total) _ _ _ s _ h) there; same = same }

  pub present_right : (after : Subtree T V) → by_ends cmp x.0 b.value.interval ≡ Greater →
      IsSome (value_at (by_ends cmp) x.0 (entries (tree_of b.value.right))) → after ≡ Fork b →
      IsPresent cmp x (Fork b) after
  present_right after h there same = record { there = rw (value_right (by_ends cmp) (by_ends-total total) _ _ _ s _ h) there; same = same }

  pub refused_left : (below after : Subtree T V) → by_ends cmp x.0 b.value.interval ≡ Less →
      IsInsertRefused cmp x b.value.left below → after ≡ Fork b → IsInsertRefused cmp x (Fork b) after
  refused_left below after h a same = record { absent = value_left (by_ends cmp) (by_ends-total total) _ _ _ s _ h ∙ a.absent; same = same }

  pub refused_right : (below after : Subtree T V) → by_ends cmp x.0 b.value.interval ≡ Greater →
      IsInsertRefused cmp x b.value.right below → after ≡ Fork b → IsInsertRefused cmp x (Fork b) after
  refused_right below after h a same = record { absent = value_right (by_ends cmp) (by_ends-total total) _ _ _ s _ h ∙ a.absent; same = same }

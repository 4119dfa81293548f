-- The two subtrees of a node of a sound tree.
use Rattle.std.proofs.Common.{arith}
use Rattle.std.specs.declared.alloc.Global.{Global}
use Rattle.std.specs.declared.boxed.Box.{Box}
use Rattle.std.specs.declared.cmp.Ordering.{Ordering}
use Rattle.meminterval.specs.declared.node.Node.{Node}
use Rattle.meminterval.specs.declared.node.Subtree.TheVariants.{Fork}
use Rattle.meminterval.specs.Interval.{by_ends}
use Rattle.meminterval.specs.Subtree.{IsSearchable, IsSound}
use Rattle.meminterval.proofs.Ordered.{ordered_front, ordered_after}
use Rattle.meminterval.proofs.Trees.{length_fork}

module _ {T V : Type 0} (cmp : T → T → Ordering) (b : Box (Node T V) Global) where
  pub searchable_left : IsSearchable cmp (Fork b) → IsSearchable cmp b.value.left
  searchable_left s =
      let few = rw length_fork at s.few in
      record { recorded = s.recorded.0; ordered = ordered_front (by_ends cmp) _ _ s.ordered; few = omega (arith, few) }

  pub searchable_right : IsSearchable cmp (Fork b) → IsSearchable cmp b.value.right
  searchable_right s =
      let few = rw length_fork at s.few in
      record { recorded = s.recorded.1; ordered = ordered_after (by_ends cmp) _ _ _ s.ordered; few = omega (arith, few) }

  pub sound_left : IsSound cmp (Fork b) → IsSound cmp b.value.left
  sound_left s =
      let few = rw length_fork at s.few in
      record { recorded = s.recorded.0; balanced = s.balanced.0; ordered = ordered_front (by_ends cmp) _ _ s.ordered; few = omega (arith, few) }

  pub sound_right : IsSound cmp (Fork b) → IsSound cmp b.value.right
  sound_right s =
      let few = rw length_fork at s.few in
      record { recorded = s.recorded.1; balanced = s.balanced.1; ordered = ordered_after (by_ends cmp) _ _ _ s.ordered; few = omega (arith, few) }

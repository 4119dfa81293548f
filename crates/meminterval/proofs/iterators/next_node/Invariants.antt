use Rattle.std.proofs.Common.{◌≡◌, length, vec_capacity}
use Rattle.std.specs.List.{filter}
use Rattle.meminterval.specs.Interval.{overlaps}
use Rattle.meminterval.specs.Query.{to_visit, IsWalk}
use Rattle.meminterval.proofs.iterators.next_node.Given as goal

abbrev pub invariant-loop-node : goal.invariant-loop-node
invariant-loop-node g l = record {
  walk : IsWalk g.T.Ord.cmp (vec_capacity l.nodes) 0 l.nodes.items;
  pairs : filter (λ e. overlaps g.T.Ord.cmp e.0 l.interval) (to_visit l.nodes.items) ≡ filter
      (λ e. overlaps g.T.Ord.cmp e.0 l.interval) (to_visit l.initial.nodes.items);
}

abbrev pub decreases-loop-node : goal.decreases-loop-node
decreases-loop-node g l = length (to_visit l.nodes.items)

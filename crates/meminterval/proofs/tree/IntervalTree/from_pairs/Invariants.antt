use Rattle.std.proofs.Common.{◌≡◌, ◌+◌, ◌≤◌, ◌^◌, [], length}
use Rattle.meminterval.specs.Entries.{with_entries}
use Rattle.meminterval.specs.Interval.{by_ends}
use Rattle.meminterval.specs.Tree.{entries}
use Rattle.meminterval.proofs.tree.IntervalTree.from_pairs.Given as goal

abbrev pub invariant-loop-interval : goal.invariant-loop-interval
invariant-loop-interval g l = record {
  pairs : with_entries (by_ends g.T.Ord.cmp) l.interval-iterator.rest.items (entries l.tree) ≡ with_entries (by_ends g.T.Ord.cmp) l.fn.pairs.items [];
  room : length (entries l.tree) + length l.interval-iterator.rest.items ≤ 2 ^ 63;
}

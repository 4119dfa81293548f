use Rattle.std.proofs.Common.{◌≡◌}
use Rattle.meminterval.specs.Entries.{IsOrdered, value_at}
use Rattle.meminterval.specs.Interval.{by_ends}
use Rattle.meminterval.specs.Subtree.{tree_of}
use Rattle.meminterval.specs.Tree.{entries}
use Rattle.meminterval.proofs.tree.IntervalTree.find.Given as goal

abbrev pub invariant-loop-at : goal.invariant-loop-at
invariant-loop-at g l = record {
  ordered : IsOrdered (by_ends g.T.Ord.cmp) (entries (tree_of l.at));
  same : value_at (by_ends g.T.Ord.cmp) l.interval (entries (tree_of l.at)) ≡ value_at (by_ends g.T.Ord.cmp) l.interval (entries l.self);
}

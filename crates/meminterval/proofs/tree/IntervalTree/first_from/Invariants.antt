use Rattle.std.proofs.Common.{◌≡◌}
use Rattle.std.specs.Option.{option_map}
use Rattle.meminterval.specs.Entries.{IsOrdered, first, or_else}
use Rattle.meminterval.specs.Entry.{pair_of}
use Rattle.meminterval.specs.Interval.{by_ends, starts_from}
use Rattle.meminterval.specs.Subtree.{tree_of}
use Rattle.meminterval.specs.Tree.{entries}
use Rattle.meminterval.proofs.tree.IntervalTree.first_from.Given as goal

abbrev pub invariant-loop-at : goal.invariant-loop-at
invariant-loop-at g l = record {
  ordered : IsOrdered (by_ends g.T.Ord.cmp) (entries (tree_of l.at));
  same : or_else (first (starts_from g.T.Ord.cmp l.key) (entries (tree_of l.at))) (option_map pair_of l.least) ≡ first
      (starts_from g.T.Ord.cmp l.key) (entries l.self);
}

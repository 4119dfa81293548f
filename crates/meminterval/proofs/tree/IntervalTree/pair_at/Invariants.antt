use Rattle.std.proofs.Common.{◌≡◌}
use Rattle.std.specs.List.{slice_get}
use Rattle.meminterval.specs.Subtree.{tree_of, IsRecorded}
use Rattle.meminterval.specs.Tree.{visited}
use Rattle.meminterval.proofs.tree.IntervalTree.pair_at.Given as goal

abbrev pub invariant-loop-at : goal.invariant-loop-at
invariant-loop-at g l = record {
  recorded : IsRecorded g.T.Ord.cmp l.at;
  same : slice_get (visited (tree_of l.at)) l.place ≡ slice_get (visited l.self) l.fn.place;
}

use Rattle.std.proofs.Common.{◌+◌, ◌-◌, ◌^◌}
use Rattle.meminterval.specs.Tree.{entries}
use Rattle.mapped_regions.proofs.Passed.{Passed}
use Rattle.mapped_regions.proofs.region_tree.RegionTree.place_from.Given as goal

abbrev pub invariant-loop-at : goal.invariant-loop-at
invariant-loop-at l = Passed l.fn.base l.n l.at (entries l.self-inside.tree) (2 ^ 52)

abbrev pub decreases-loop-at : goal.decreases-loop-at
decreases-loop-at l = l.end + 1 - l.at

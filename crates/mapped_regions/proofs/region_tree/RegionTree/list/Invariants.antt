use Rattle.std.proofs.Common.{◌-◌, ◌^◌, ◌≤◌, length}
use Rattle.std.specs.Prelude.{vec_capacity}
use Rattle.meminterval.specs.Tree.{entries}
use Rattle.mapped_regions.specs.Pairs.{pair_regions}
use Rattle.mapped_regions.proofs.Listing.{Listed}
use Rattle.mapped_regions.proofs.region_tree.RegionTree.list.Given as goal

abbrev pub invariant-loop-entry : goal.invariant-loop-entry
invariant-loop-entry l = record {
  listed : Listed l.at (entries l.self-inside.tree) l.list.items (2 ^ 52);
  places : length (pair_regions (entries l.self-inside.tree)) ≤ vec_capacity l.list;
}

abbrev pub decreases-loop-entry : goal.decreases-loop-entry
decreases-loop-entry l = 2 ^ 52 - l.at

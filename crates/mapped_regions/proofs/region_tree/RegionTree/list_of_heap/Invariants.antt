use Rattle.std.proofs.Common.{◌≡◌, ◌-◌, ◌^◌, ◌≤◌, List, length, filter}
use Rattle.std.specs.Prelude.{vec_capacity}
use Rattle.machine_model.specs.declared.region.Region.{Region}
use Rattle.meminterval.specs.Tree.{entries}
use Rattle.mapped_regions.specs.Pairs.{pair_regions}
use Rattle.mapped_regions.proofs.Listing.{Listed}
use Rattle.mapped_regions.proofs.region_tree.RegionTree.list_of_heap.Given as goal

abbrev pub invariant-loop-entry : goal.invariant-loop-entry
invariant-loop-entry l =
    (all : List Region) × Listed l.page (entries l.self-inside.tree) all
    (2 ^ 52) × (l.list.items ≡ filter (λ r. r.heap) all) × (length (pair_regions
    (entries l.self-inside.tree)) ≤ vec_capacity l.list)

abbrev pub decreases-loop-entry : goal.decreases-loop-entry
decreases-loop-entry l = 2 ^ 52 - l.page

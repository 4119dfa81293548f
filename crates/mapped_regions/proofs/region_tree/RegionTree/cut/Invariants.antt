use Rattle.std.proofs.Common.{◌≡◌, ◌*◌}
use Rattle.mapped_regions.specs.Regions.{cut_regions}
use Rattle.mapped_regions.proofs.Cutting.{count_met}
use Rattle.mapped_regions.proofs.region_tree.RegionTree.cut.Given as goal

abbrev pub invariant-loop-region : goal.invariant-loop-region
invariant-loop-region l = cut_regions (4096 * l.first) l.pages l.self ≡ cut_regions (4096 * l.first) l.pages l.fn.self

abbrev pub decreases-loop-region : goal.decreases-loop-region
decreases-loop-region l = count_met (4096 * l.first) l.pages l.self

use Rattle.std.proofs.Common.{◌≡◌, ◌-◌, ◌*◌, ◌≤◌, find}
use Rattle.mapped_regions.specs.Regions.{meets_heap}
use Rattle.mapped_regions.proofs.region_tree.RegionTree.lowest_heap_met.Given as goal

abbrev pub invariant-loop-region : goal.invariant-loop-region
invariant-loop-region l = record {
  same : find (meets_heap (4096 * l.fn.first) l.pages) l.self ≡ find (meets_heap (4096 * l.at) (l.end - l.at)) l.self;
  before : l.at ≤ l.end;
}

abbrev pub decreases-loop-region : goal.decreases-loop-region
decreases-loop-region l = l.end - l.at

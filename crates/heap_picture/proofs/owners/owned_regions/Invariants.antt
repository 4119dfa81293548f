use Rattle.std.proofs.Common.{◌≡◌, map, take}
use Rattle.heap_picture.specs.Owners.{owned_by}
use Rattle.heap_picture.proofs.owners.owned_regions.Given as goal

abbrev pub invariant-loop-region : goal.invariant-loop-region
invariant-loop-region l = l.owned.items ≡ map owned_by (take l.region-index l.regions)

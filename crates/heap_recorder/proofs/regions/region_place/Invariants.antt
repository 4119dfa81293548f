use Rattle.std.proofs.Common.{◌≡◌, drop}
use Rattle.heap_recorder.specs.Regions.{regions_from}
use Rattle.heap_recorder.proofs.regions.region_place.Given as goal

abbrev pub invariant-loop-place : goal.invariant-loop-place
invariant-loop-place l = regions_from l.start (drop l.place l.all) ≡ regions_from l.start (drop l.first l.all)

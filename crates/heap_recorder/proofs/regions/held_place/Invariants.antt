use Rattle.std.proofs.Common.{◌≡◌, drop}
use Rattle.heap_recorder.specs.Regions.{held_from}
use Rattle.heap_recorder.proofs.regions.held_place.Given as goal

abbrev pub invariant-loop-place : goal.invariant-loop-place
invariant-loop-place l = held_from l.start (drop l.place l.all) ≡ held_from l.start (drop l.first l.all)

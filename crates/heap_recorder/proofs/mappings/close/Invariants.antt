use Rattle.std.proofs.Common.{◌≡◌, ◌++◌, take, drop, map}
use Rattle.heap_recorder.specs.Mappings.{closed_mapping}
use Rattle.heap_recorder.proofs.mappings.close.Given as goal

abbrev pub invariant-loop-place : goal.invariant-loop-place
invariant-loop-place l = l.mappings.items ≡ map (closed_mapping l.calls) (take l.place l.fn.mappings.items) ++ drop l.place l.fn.mappings.items

use Rattle.std.proofs.Common.{◌≡◌, ◌++◌, take, drop, map}
use Rattle.heap_recorder.specs.Stays.{closed_stay}
use Rattle.heap_recorder.proofs.stays.close.Given as goal

abbrev pub invariant-loop-place : goal.invariant-loop-place
invariant-loop-place l = l.stays.items ≡ map (closed_stay l.calls) (take l.place l.fn.stays.items) ++ drop l.place l.fn.stays.items

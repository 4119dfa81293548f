use Rattle.std.proofs.Common.{◌≡◌, ◌++◌, take, drop, map}
use Rattle.heap_recorder.specs.Stays.{ended_now}
use Rattle.heap_recorder.proofs.stays.end_from.Given as goal

abbrev pub invariant-loop-place : goal.invariant-loop-place
invariant-loop-place l = l.stays.items ≡ map (ended_now l.call) (take l.place l.fn.stays.items) ++ drop l.place l.fn.stays.items

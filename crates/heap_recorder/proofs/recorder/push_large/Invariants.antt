use Rattle.std.proofs.Common.{◌≡◌, ◌++◌, map, take}
use Rattle.heap_recorder.specs.Run.{large_page}
use Rattle.heap_recorder.proofs.recorder.push_large.Given as goal

abbrev pub invariant-loop-slot : goal.invariant-loop-slot
invariant-loop-slot l = l.large ≡ l.fn.large ++ map (large_page l.number) (take l.slot-index (take l.count l.slots))

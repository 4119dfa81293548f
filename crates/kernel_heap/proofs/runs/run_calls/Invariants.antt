use Rattle.std.proofs.Common.{take}
use Rattle.kernel_heap.specs.Runs.{AreServed}
use Rattle.kernel_heap.proofs.runs.run_calls.Given as goal

abbrev pub invariant-loop-call : goal.invariant-loop-call
invariant-loop-call l = AreServed l.fn.config (take l.call-index l.call-items) l.answers l.machine

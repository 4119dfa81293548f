use Rattle.std.proofs.Common.{◌≡◌, ◌++◌, string_bytes}
use Rattle.heap_curves.specs.Calls.{call_ticks_text}
use Rattle.heap_curves.proofs.calls.push_ticks.Given as goal

abbrev pub invariant-loop-tick : goal.invariant-loop-tick
invariant-loop-tick l = string_bytes l.out ≡ string_bytes l.fn.out ++ call_ticks_text l.top l.y l.calls l.step l.tick

use Rattle.std.proofs.Common.{◌≡◌, ◌-◌, ◌^◌}
use Rattle.heap_curves.specs.Calls.{step_from, calls_per_tick}
use Rattle.heap_curves.proofs.calls.step_of.Given as goal

abbrev pub invariant-loop-times : goal.invariant-loop-times
invariant-loop-times l = record {
  grown : step_from (20 - l._times) l.power l.calls ≡ calls_per_tick l.calls;
  power : l.power ≡ 10 ^ l._times;
}

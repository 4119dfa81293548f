use Rattle.std.proofs.Common.{◌≡◌, ◌≤◌, ◌-◌, ◌^◌}
use Rattle.heap_time.specs.Addresses.{step_grown, step_of}
use Rattle.heap_time.proofs.addresses.step_of.Given as goal

abbrev pub invariant-loop-times : goal.invariant-loop-times
invariant-loop-times l = record {
  grown : step_grown (62 - l._times) l.step l.bytes ≡ step_of l.bytes;
  some : 1 ≤ l.step;
  few : l.step ≤ 2 ^ 65;
}

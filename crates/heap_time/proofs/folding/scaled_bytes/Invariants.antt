use Rattle.std.proofs.Common.{◌≡◌, ◌≤◌, ◌*◌, ◌^◌, take}
use Rattle.heap_time.specs.Axis.{scaled_bytes}
use Rattle.heap_time.proofs.folding.scaled_bytes.Given as goal

abbrev pub invariant-loop-range : goal.invariant-loop-range
invariant-loop-range l = record {
  sum : l.bytes ≡ scaled_bytes l.folds (take l.range-index l.ranges);
  few : l.bytes ≤ l.range-index * 2 ^ 64;
}

use Rattle.std.proofs.Common.{◌≡◌, ◌≤◌, take}
use Rattle.heap_tables.specs.Uses.{use_count}
use Rattle.heap_tables.proofs.uses.number_of.Given as goal

abbrev pub invariant-loop-one : goal.invariant-loop-one
invariant-loop-one l = record {
  count : l.number ≡ use_count l.of (take l.one-index l.uses);
  few : l.number ≤ l.one-index;
}

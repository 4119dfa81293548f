use Rattle.std.proofs.Common.{◌≡◌, ◌≤◌, take}
use Rattle.heap_map.specs.Classes.{number_in}
use Rattle.heap_map.proofs.classes.number_in.Given as goal

abbrev pub invariant-loop-extent : goal.invariant-loop-extent
invariant-loop-extent l = record {
  count : l.number ≡ number_in l.class (take l.extent-index l.extents);
  few : l.number ≤ l.extent-index;
}

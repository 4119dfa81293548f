use Rattle.std.proofs.Common.{◌≡◌, ◌≤◌, ◌*◌, ◌^◌, take}
use Rattle.heap_map.specs.Classes.{bytes_in}
use Rattle.heap_map.proofs.classes.bytes_in.Given as goal

abbrev pub invariant-loop-extent : goal.invariant-loop-extent
invariant-loop-extent l = record {
  sum : l.bytes ≡ bytes_in l.class (take l.extent-index l.extents);
  few : l.bytes ≤ l.extent-index * 2 ^ 64;
}

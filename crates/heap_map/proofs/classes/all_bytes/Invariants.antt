use Rattle.std.proofs.Common.{◌≡◌, ◌≤◌, ◌*◌, ◌^◌, take}
use Rattle.heap_map.specs.Classes.{all_bytes}
use Rattle.heap_map.proofs.classes.all_bytes.Given as goal

abbrev pub invariant-loop-extent : goal.invariant-loop-extent
invariant-loop-extent l = record {
  sum : l.bytes ≡ all_bytes (take l.extent-index l.extents);
  few : l.bytes ≤ l.extent-index * 2 ^ 64;
}

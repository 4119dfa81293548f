use Rattle.std.proofs.Common.{◌≡◌, ◌≤◌, take}
use Rattle.heap_map.specs.Histogram.{chunk_count_from}
use Rattle.heap_map.proofs.histogram.chunks_from.Given as goal

abbrev pub invariant-loop-extent : goal.invariant-loop-extent
invariant-loop-extent l = record {
  count : l.number ≡ chunk_count_from l.low (take l.extent-index l.extents);
  few : l.number ≤ l.extent-index;
}

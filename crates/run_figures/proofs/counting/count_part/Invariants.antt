use Rattle.std.proofs.Common.{◌≡◌, ◌<◌, ◌≤◌, ◌^◌, length, take, get_or}
use Rattle.dlmalloc_chunks.specs.declared.extent.Extent.{Extent}
use Rattle.run_figures.specs.Figures.{part_count, part_bytes}
use Rattle.run_figures.proofs.counting.count_part.Given as goal

abbrev pub invariant-loop-extent : goal.invariant-loop-extent
invariant-loop-extent l = record {
  number : l.number ≡ part_count l.part (take l.extent-index l.extents);
  bytes : l.bytes ≡ part_bytes l.part (take l.extent-index l.extents);
  less : l.number ≤ l.extent-index;
  below : (d : Extent) → l.extent-index < length l.extents → l.bytes ≤ (get_or l.extents l.extent-index d).at;
  few : l.bytes < 2 ^ 65;
}

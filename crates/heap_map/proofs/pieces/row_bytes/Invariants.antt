use Rattle.std.proofs.Common.{◌≡◌, ◌≤◌, ◌-◌, ◌^◌}
use Rattle.heap_map.specs.Pieces.{row_grown, row_bytes}
use Rattle.heap_map.proofs.pieces.row_bytes.Given as goal

abbrev pub invariant-loop-times : goal.invariant-loop-times
invariant-loop-times l = record {
  grown : row_grown (50 - l.times) l.row l.extents ≡ row_bytes l.extents;
  least : 512 ≤ l.row;
  most : l.row ≤ 2 ^ 53;
}

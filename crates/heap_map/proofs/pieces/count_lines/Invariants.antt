use Rattle.std.proofs.Common.{◌≡◌, ◌<◌, ◌+◌, ◌-◌, take, drop, length}
use Rattle.heap_map.specs.Pieces.{row_lines_from, piece_lines}
use Rattle.heap_map.proofs.pieces.count_lines.Given as goal

abbrev pub invariant-loop-next : goal.invariant-loop-next
invariant-loop-next l = record {
  place : l.from < l.next;
  count : l.number + length (row_lines_from l.row (take (l.next - l.from) (drop l.from l.pieces)) (drop l.next l.pieces)) ≡ length (piece_lines l.row l.pieces);
  few : l.number < l.next;
}

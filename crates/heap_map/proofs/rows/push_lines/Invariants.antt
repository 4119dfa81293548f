use Rattle.std.proofs.Common.{◌≡◌, ◌<◌, ◌-◌, ◌++◌, take, drop, string_bytes}
use Rattle.heap_map.specs.Blocks.{named_at}
use Rattle.heap_map.specs.Pieces.{row_lines_from, piece_lines}
use Rattle.heap_map.specs.Rows.{lines_text}
use Rattle.heap_map.proofs.rows.push_lines.Given as goal

abbrev pub invariant-loop-next : goal.invariant-loop-next
invariant-loop-next l = record {
  place : l.from < l.next;
  rest : string_bytes l.out ++ lines_text (named_at l.blocks) l.row l.above
      (row_lines_from l.row (take (l.next - l.from) (drop l.from l.pieces)) (drop l.next l.pieces)) ≡ string_bytes
      l.fn.out ++ lines_text (named_at l.blocks) l.row 0 (piece_lines l.row l.pieces);
  few : l.above < l.next;
}

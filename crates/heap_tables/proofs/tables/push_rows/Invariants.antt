use Rattle.std.proofs.Common.{◌≡◌, ◌+◌, ◌*◌, ◌++◌, drop, string_bytes}
use Rattle.heap_tables.specs.Tables.{table_rows_text}
use Rattle.heap_tables.proofs.tables.push_rows.Given as goal

abbrev pub invariant-loop-line : goal.invariant-loop-line
invariant-loop-line l = record {
  rest : string_bytes l.out ++ table_rows_text l.below (drop l.line-index l.lines) ≡ string_bytes l.fn.out ++ table_rows_text l.y l.lines;
  place : l.below ≡ l.y + 22 * l.line-index;
}

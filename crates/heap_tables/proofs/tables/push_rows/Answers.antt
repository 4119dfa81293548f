use Rattle.std.proofs.Common.{◌+◌, ◌++◌, refl, string_bytes, arith}
use Rattle.heap_tables.specs.Tables.{table_rows_text}
use Rattle.heap_tables.proofs.Joins.{none}
use Rattle.heap_tables.proofs.Drawn.{rows_put, rows_end}
use Rattle.heap_tables.proofs.tables.push_rows.Goals as goal

pub loop-line-preserved : goal.loop-line-preserved
loop-line-preserved c = record {
  rest = rows_put c.loop-line.below (c.loop-line.below + 22) c.args.lines.now c.loop-line.line-index none
      (string_bytes c.loop-line.out) (string_bytes c.push_row.new.out) (string_bytes c.args.out.now ++ table_rows_text
      c.args.y
      c.args.lines.now)
      c.loop-line-test.true refl c.in_ok-push_row.ensures c.loop-line.invariant.rest;
  place = omega (arith, c.loop-line.invariant.place);
}

pub returns : goal.returns
returns c = rows_end c.loop-line.below c.args.lines.now c.loop-line.line-index (string_bytes c.loop-line.out)
    (string_bytes c.args.out.now ++ table_rows_text c.args.y c.args.lines.now)
    (omega (arith, c.loop-line-test.false)) c.loop-line.invariant.rest

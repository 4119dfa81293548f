use Rattle.std.proofs.Common.{◌≤◌, ◌<◌, ◌/◌, ◌∙◌, arith}
use Rattle.std.proofs.lemmas.Result.{on_ok_weaker}
use Rattle.heap_cells.proofs.Near.{one_put, halves_put}
use Rattle.heap_cells.proofs.rows.+push_rows.Goals as goal

pub returns-then-number-eq1 : goal.returns-then-number-eq1
returns-then-number-eq1 t c =
    on_ok_weaker c.push_row.result
    (one_put c.args.scale c.args.shades c.args.spans.now c.as_slice-near.result.now c.args.band c.args.first c.args.number
    c.row_at-lowest.result c.row_at-highest.result c.args.bars.now.items c.push_row.new.bars.items
    c.requires.rows c.if-number-eq1.true c.row_at-lowest.ensures.value c.row_at-highest.ensures.value (c.as_slice-near.ensures.value ∙ c.in_ok-met.ensures))
    c.push_row.ensures

pub returns : goal.returns
returns t c =
    let some : 0 < c.args.number = omega (arith, c.if-number-eq0.false) in
    let less : c.args.number / 2 ≤ c.args.number = omega arith in
    on_ok_weaker c.push_rows-2.result
    (halves_put c.args.scale c.args.shades c.args.spans.now c.as_slice-near.result.now c.args.band c.args.first
    c.args.number (c.args.number / 2) c.row_at-lowest.result c.row_at-highest.result
    c.args.bars.now.items c.push_rows.new.bars.items c.push_rows-2.new.bars.items c.requires.rows some less
    c.row_at-lowest.ensures.value c.row_at-highest.ensures.value
    (c.as_slice-near.ensures.value ∙ c.in_ok-met.ensures) c.in_ok-push_rows.ensures)
    c.push_rows-2.ensures

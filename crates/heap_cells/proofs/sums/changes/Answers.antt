use Rattle.std.proofs.Common.{◌<◌, take, arith}
use Rattle.heap_cells.specs.Shades.{cell_columns}
use Rattle.heap_cells.proofs.Columns.{changed_few}
use Rattle.heap_cells.proofs.sums.changes.Goals as goal

pub count-requires-clause-small : goal.count-requires-clause-small
count-requires-clause-small c =
    λ k within.
    let inside : k < cell_columns c.args.scale = omega (arith, within, c.loop-span.invariant.length) in
    let is = c.loop-span.invariant.each k inside in
    let least = changed_few c.args.scale c.args.change c.args.row (take c.loop-span.span-index c.args.spans.now) k in
    omega (arith, is, least, c.loop-span.invariant.few)

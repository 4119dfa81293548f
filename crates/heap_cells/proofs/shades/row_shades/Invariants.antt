use Rattle.std.proofs.Common.{◌≡◌}
use Rattle.heap_cells.specs.Shades.{first_shades}
use Rattle.heap_cells.specs.declared.sums.Change.TheVariants.{Comes, Goes}
use Rattle.heap_cells.proofs.Columns.{changed_before}
use Rattle.heap_cells.proofs.shades.row_shades.Given as goal

abbrev pub invariant-loop-column : goal.invariant-loop-column
invariant-loop-column l = record {
  all : l.all.items ≡ first_shades l.fn.scale l.shades l.row l.spans l.column;
  since : l.since ≡ changed_before l.fn.scale Comes l.row l.spans l.column;
  until : l.until ≡ changed_before l.fn.scale Goes l.row l.spans l.column;
}

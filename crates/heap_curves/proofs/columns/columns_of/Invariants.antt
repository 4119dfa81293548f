use Rattle.std.proofs.Common.{◌≡◌, length, take}
use Rattle.heap_curves.specs.declared.columns.Counted.TheVariants.{Live}
use Rattle.heap_curves.specs.Columns.{greatest, column_start, first_columns}
use Rattle.heap_curves.proofs.columns.columns_of.Given as goal

abbrev pub invariant-loop-column : goal.invariant-loop-column
invariant-loop-column l = record {
  all : l.columns.items ≡ first_columns l.moments l.column;
  peak : l.peak ≡ greatest Live (take (column_start (length l.moments) l.column) l.moments);
}

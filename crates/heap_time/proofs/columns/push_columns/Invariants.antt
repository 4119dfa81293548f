use Rattle.std.proofs.Common.{◌≡◌, ◌++◌, string_bytes}
use Rattle.heap_time.specs.Columns.{columns_text}
use Rattle.heap_time.proofs.columns.push_columns.Given as goal

abbrev pub invariant-loop-column : goal.invariant-loop-column
invariant-loop-column l = string_bytes l.out ≡ string_bytes l.fn.out ++ columns_text l.below l.moments l.column

use Rattle.std.proofs.Common.{◌≡◌, ◌++◌, string_bytes}
use Rattle.heap_tables.specs.Tables.{squares_text}
use Rattle.heap_tables.proofs.tables.push_squares.Given as goal

abbrev pub invariant-loop-number : goal.invariant-loop-number
invariant-loop-number l = string_bytes l.out ≡ string_bytes l.fn.out ++ squares_text l.y l.of l.uses l.number

use Rattle.std.proofs.Common.{◌≡◌, ◌++◌, drop}
use Rattle.heap_tables.specs.Joining.{lines_from, joined_lines}
use Rattle.heap_tables.proofs.joining.joined.Given as goal

abbrev pub invariant-loop-place : goal.invariant-loop-place
invariant-loop-place l = l.all.items ++ lines_from l.line (drop l.place l.lines) ≡ joined_lines l.lines

use Rattle.std.proofs.Common.{◌≡◌, drop}
use Rattle.heap_tables.specs.Uses.{uses_of}
use Rattle.heap_tables.proofs.uses.uses_of.Given as goal

abbrev pub invariant-loop-place : goal.invariant-loop-place
invariant-loop-place l = l.uses.items ≡ uses_of (drop l.place l.lines) l.frames

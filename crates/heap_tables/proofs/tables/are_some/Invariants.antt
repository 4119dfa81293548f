use Rattle.std.proofs.Common.{◌≡◌, false, take}
use Rattle.std.specs.List.{list_any}
use Rattle.heap_tables.specs.Uses.{same_use}
use Rattle.heap_tables.proofs.tables.are_some.Given as goal

abbrev pub invariant-loop-one : goal.invariant-loop-one
invariant-loop-one l = list_any (same_use l.of) (take l.one-index l.uses) ≡ false

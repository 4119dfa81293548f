use Rattle.std.proofs.Common.{◌-◌, ℕ, ◌+◌, ◌<◌}
use Rattle.std.specs.Prelude.{IsSome}
use Rattle.kernel_tables.specs.TableState.{leads}
use Rattle.kernel_tables.proofs.tables.Tables.lowest_unmapped.Given as goal

abbrev pub invariant-loop-done : goal.invariant-loop-done
invariant-loop-done l = (k : ℕ) → k < l.done → IsSome (leads l.self (l.page + k))

abbrev pub decreases-loop-done : goal.decreases-loop-done
decreases-loop-done l = l.pages - l.done

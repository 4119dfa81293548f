use Rattle.std.proofs.Common.{◌-◌, ◌≡◌, ℕ, ◌+◌, ◌<◌, None}
use Rattle.kernel_tables.specs.TableState.{leads}
use Rattle.kernel_tables.proofs.tables.Tables.lowest_mapped.Given as goal

abbrev pub invariant-loop-done : goal.invariant-loop-done
invariant-loop-done l = (k : ℕ) → k < l.done → leads l.self (l.page + k) ≡ None

abbrev pub decreases-loop-done : goal.decreases-loop-done
decreases-loop-done l = l.pages - l.done

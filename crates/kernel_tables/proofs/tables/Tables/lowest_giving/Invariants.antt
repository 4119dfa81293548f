use Rattle.std.proofs.Common.{◌-◌, ◌≡◌, ℕ, ◌+◌, ◌<◌, false}
use Rattle.kernel_tables.specs.TableState.{leads, place_in}
use Rattle.kernel_tables.proofs.tables.Tables.lowest_giving.Given as goal

abbrev pub invariant-loop-done : goal.invariant-loop-done
invariant-loop-done l = (k : ℕ) → k < l.done → place_in l.self.area (leads l.self (l.page + k)) ≡ false

abbrev pub decreases-loop-done : goal.decreases-loop-done
decreases-loop-done l = l.pages - l.done

use Rattle.std.proofs.Common.{◌-◌, None}
use Rattle.kernel_tables.proofs.RangeChanged.{IsChangedTo}
use Rattle.kernel_tables.proofs.tables.Tables.clear_all.Given as goal

abbrev pub invariant-loop-done : goal.invariant-loop-done
invariant-loop-done l = IsChangedTo l.fn.self l.self l.page l.pages l.done (λ was. None)

abbrev pub decreases-loop-done : goal.decreases-loop-done
decreases-loop-done l = l.pages - l.done

use Rattle.std.proofs.Common.{◌-◌, Some}
use Rattle.paging_core.specs.Walk.{place_with}
use Rattle.kernel_tables.specs.Grants.{given_by}
use Rattle.kernel_tables.proofs.RangeChanged.{IsChangedTo}
use Rattle.kernel_tables.proofs.tables.Tables.grant_all.Given as goal

abbrev pub invariant-loop-done : goal.invariant-loop-done
invariant-loop-done l = IsChangedTo l.fn.self l.self l.page l.pages l.done (λ was. Some (place_with was.frame (given_by l.grant was)))

abbrev pub decreases-loop-done : goal.decreases-loop-done
decreases-loop-done l = l.pages - l.done

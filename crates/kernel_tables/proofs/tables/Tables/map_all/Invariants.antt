use Rattle.std.proofs.Common.{◌-◌}
use Rattle.kernel_tables.proofs.RangeMapped.{IsMappedTo}
use Rattle.kernel_tables.proofs.tables.Tables.map_all.Given as goal

abbrev pub invariant-loop-done : goal.invariant-loop-done
invariant-loop-done l = IsMappedTo l.fn.self l.self l.page l.pages l.frame l.done l.bits

abbrev pub decreases-loop-done : goal.decreases-loop-done
decreases-loop-done l = l.pages - l.done

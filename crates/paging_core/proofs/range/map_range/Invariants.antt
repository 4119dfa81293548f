use Rattle.paging_core.specs.Mapping.{IsRangeAdded}
use Rattle.paging_core.proofs.range.map_range.Given as goal

abbrev pub invariant-loop-step : goal.invariant-loop-step
invariant-loop-step l = IsRangeAdded l.fn.frames l.frames l.fn.pool l.pool l.root l.first l.step l.rights

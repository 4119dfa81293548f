use Rattle.std.proofs.Common.{◌≡◌, ◌+◌}
use Rattle.paging_core.specs.Pool.{free_count}
use Rattle.paging_core.specs.PageChanges.{ArePagesFreed, among}
use Rattle.paging_core.proofs.unmapping.unmap_range.Given as goal

abbrev pub invariant-loop-step : goal.invariant-loop-step
invariant-loop-step l = record {
  freed : ArePagesFreed l.fn.frames l.frames l.fn.pool l.pool l.root (among l.first l.step);
  count : free_count l.pool ≡ free_count l.fn.pool + l.step;
}

use Rattle.std.proofs.Common.{◌≡◌, length}
use Rattle.paging_core.specs.Pool.{free_count}
use Rattle.paging_core_rows.proofs.ranges.take_all.Given as goal

abbrev pub invariant-loop : goal.invariant-loop
invariant-loop l = length l.pool ≡ length l.fn.pool

abbrev pub decreases-loop : goal.decreases-loop
decreases-loop l = free_count l.pool

use Rattle.std.proofs.Common.{◌≡◌}
use Rattle.object_pool_rows.proofs.pool.insert_all.Given as goal

abbrev pub invariant-loop-index : goal.invariant-loop-index
invariant-loop-index g l = l.pool.size ≡ l.fn.pool.size

use Rattle.std.proofs.Common.{◌≡◌}
use Rattle.object_pool_rows.proofs.pool.expect_unknown.Given as goal

abbrev pub invariant-loop-key : goal.invariant-loop-key
invariant-loop-key g l = l.pool.size ≡ l.fn.pool.size

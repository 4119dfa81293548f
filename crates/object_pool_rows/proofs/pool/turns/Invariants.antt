use Rattle.std.proofs.Common.{◌≡◌}
use Rattle.object_pool_rows.proofs.pool.turns.Given as goal

abbrev pub invariant-turns : goal.invariant-turns
invariant-turns g l = l.pool.size ≡ 21

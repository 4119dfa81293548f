use Rattle.std.proofs.Common.{◌≡◌}
use Rattle.bench_pool.proofs.set.Given as goal

abbrev pub invariant-loop-round : goal.invariant-loop-round
invariant-loop-round l = l.pool.size ≡ l.fn.pool.size

use Rattle.std.proofs.Common.{◌≡◌}
use Rattle.bench_pool.proofs.fill.Given as goal

abbrev pub invariant-loop : goal.invariant-loop
invariant-loop l = l.pool.size ≡ l.fn.pool.size

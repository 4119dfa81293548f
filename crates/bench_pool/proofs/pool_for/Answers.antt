use lib.Count.{ones}
use Rattle.std.proofs.Common.{refl}
use Rattle.bench_pool.proofs.pool_for.Goals as goal

-- 4096 is a power of two
pub new-requires : goal.new-requires
unfolding ones
new-requires c = refl

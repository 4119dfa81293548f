use lib.Count.{ones}
use Rattle.std.proofs.Common.{refl}
use Rattle.object_pool_rows.proofs.pool.pool_over.Goals as goal

-- 4096 is a power of two
pub new-requires : goal.new-requires
unfolding ones
new-requires c = refl

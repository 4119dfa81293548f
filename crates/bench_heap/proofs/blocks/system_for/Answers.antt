use lib.Count.{ones}
use Rattle.std.proofs.Common.{refl}
use Rattle.bench_heap.proofs.blocks.system_for.Goals as goal

pub new-requires : goal.new-requires
unfolding ones
new-requires c = refl

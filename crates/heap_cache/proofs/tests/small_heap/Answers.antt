use lib.Count.{ones}
use Rattle.std.proofs.Common.{refl}
use Rattle.heap_cache.proofs.tests.small_heap.Goals as goal

pub new-requires : goal.new-requires
unfolding ones
new-requires c = refl

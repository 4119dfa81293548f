use lib.Count.{ones}
use Rattle.std.proofs.Common.{refl}
use Rattle.paged_systems.proofs.paged_allocator.PagedSystemAllocator.page_size.Goals as goal

pub returns-clause-power : goal.returns-clause-power
unfolding ones
returns-clause-power c = refl

use Rattle.std.proofs.Common.{refl}
use Rattle.heap_arena.proofs.arenas_allocator.ArenasAllocator.page_size.Goals as goal

pub returns-clause-power : goal.returns-clause-power
unfolding lib.Count.ones
returns-clause-power g c = refl

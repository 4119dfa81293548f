use Rattle.std.proofs.Common.{refl}
use Rattle.heap_arena.proofs.arena_allocator.ArenaAllocator.page_size.Goals as goal

pub returns-clause-power : goal.returns-clause-power
unfolding lib.Count.ones
returns-clause-power c = refl

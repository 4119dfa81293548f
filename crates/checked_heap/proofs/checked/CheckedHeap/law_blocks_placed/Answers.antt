use Rattle.std.proofs.Common.{subst}
use Rattle.dlmalloc.specs.Blocks.{ArePlaced}
use Rattle.heap_arena.specs.Arena.{regions_of}
use Rattle.checked_heap.specs.Checked.{arena_heap_state}
use Rattle.checked_heap.proofs.checked.CheckedHeap.law_blocks_placed.Goals as goal

pub returns : goal.returns
returns c = subst (λ heap. ArePlaced (regions_of heap.system) (arena_heap_state heap)) c.self.view_is
    c.law_blocks_placed.ensures

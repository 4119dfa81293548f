use Rattle.std.proofs.Common.{subst}
use Rattle.dlmalloc.specs.Blocks.{BlocksAreApart}
use Rattle.checked_heap.specs.Checked.{arena_heap_state}
use Rattle.checked_heap.proofs.checked.CheckedHeap.law_blocks_apart.Goals as goal

pub returns : goal.returns
returns c = subst (λ heap. BlocksAreApart (arena_heap_state heap)) c.self.view_is c.law_blocks_apart.ensures

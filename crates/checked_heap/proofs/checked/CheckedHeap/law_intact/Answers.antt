use Rattle.std.proofs.Common.{subst}
use Rattle.heap_arena.specs.Arena.{regions_of, word_of}
use Rattle.sound_heap.specs.Heap.{IsIntact}
use Rattle.checked_heap.proofs.checked.CheckedHeap.law_intact.Goals as goal

pub returns : goal.returns
returns c = subst (λ heap. IsIntact regions_of word_of heap) c.self.view_is c.law_intact.ensures

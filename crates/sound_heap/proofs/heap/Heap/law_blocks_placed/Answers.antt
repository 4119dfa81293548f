use Rattle.std.proofs.Common.{subst}
use Rattle.dlmalloc.specs.Heap.{state_of}
use Rattle.dlmalloc.specs.Blocks.{ArePlaced}
use Rattle.sound_heap.proofs.heap.Heap.law_blocks_placed.Goals as goal

pub returns : goal.returns
returns g c = subst (λ heap. ArePlaced (g.A.Links.regions heap.system) (state_of g.A.Links.word heap)) c.self.view_is c.law_blocks_placed.ensures

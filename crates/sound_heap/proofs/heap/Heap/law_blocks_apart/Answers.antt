use Rattle.std.proofs.Common.{subst}
use Rattle.dlmalloc.specs.Heap.{state_of}
use Rattle.dlmalloc.specs.Blocks.{BlocksAreApart}
use Rattle.sound_heap.proofs.heap.Heap.law_blocks_apart.Goals as goal

pub returns : goal.returns
returns g c = subst (λ heap. BlocksAreApart (state_of g.A.Links.word heap)) c.self.view_is c.law_blocks_apart.ensures

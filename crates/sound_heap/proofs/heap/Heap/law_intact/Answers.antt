use Rattle.std.proofs.Common.{subst}
use Rattle.sound_heap.specs.Heap.{IsIntact}
use Rattle.sound_heap.proofs.heap.Heap.law_intact.Goals as goal

pub returns : goal.returns
returns g c = subst (λ heap. IsIntact g.A.Links.regions g.A.Links.word heap) c.self.view_is c.self.invariant

use Rattle.std.proofs.Common.{subst}
use Rattle.dlmalloc.specs.Order.{KeepsIndex}
use Rattle.sound_heap.proofs.heap.Heap.set_granularity.Goals as goal

pub returns-clause-index : goal.returns-clause-index
returns-clause-index g c = subst (λ heap. KeepsIndex g.A.Links.regions g.A.Links.word heap c.set_granularity.new.self)
    c.self.view_is c.set_granularity.ensures.index

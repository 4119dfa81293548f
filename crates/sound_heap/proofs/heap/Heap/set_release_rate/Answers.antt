use Rattle.std.proofs.Common.{subst}
use Rattle.dlmalloc.specs.Order.{KeepsIndex}
use Rattle.sound_heap.proofs.heap.Heap.set_release_rate.Goals as goal

pub returns-clause-index : goal.returns-clause-index
returns-clause-index g c = subst (λ heap. KeepsIndex g.A.Links.regions g.A.Links.word heap
    c.set_max_release_check_rate.new.self) c.self.view_is c.set_max_release_check_rate.ensures.index

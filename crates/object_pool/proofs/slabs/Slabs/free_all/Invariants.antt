use Rattle.std.proofs.Common.{length}
use Rattle.object_pool.proofs.Emptying.{IsEmptying}
use Rattle.object_pool.proofs.slabs.Slabs.free_all.Given as goal

abbrev pub invariant-loop-address : goal.invariant-loop-address
invariant-loop-address g l = IsEmptying g.A.Links.regions g.A.Links.word g.A.Links.follows
    (g.A.Allocator.frees l.fn.self.heap.system) (g.A.Allocator.parts l.fn.self.heap.system)
    (g.A.Allocator.unit l.fn.self.heap.system)
    l.fn.self.heap l.fn.self.places.items l.fn.self.size l.heap l.places.items

abbrev pub decreases-loop-address : goal.decreases-loop-address
decreases-loop-address g l = length l.places.items

use Rattle.std.proofs.Common.{rules}
use Rattle.object_pool.proofs.Emptying.{emptying_more, emptied}
use Rattle.object_pool.proofs.slabs.Slabs.free_all.Goals as goal

pub loop-address-preserved : goal.loop-address-preserved
loop-address-preserved g c =
    let s = c.args.self in
    emptying_more g.A.Links.regions g.A.Links.word g.A.Links.follows g.A.Links.follows_on g.A.Allocator.zeros
    g.A.Allocator.frees g.A.Allocator.parts g.A.Allocator.unit g.met.A.Allocator.fixed
    s.heap c.loop-address.heap c.free_slab.new.heap s.places.items s.size c.loop-address.places.items c.pop.new.self.items
    c.in-Some.address c.loop-address.invariant c.in-Some.ensures.items c.free_slab.ensures.placed
    c.free_slab.ensures.freed c.free_slab.ensures.linked

pub returns : goal.returns
returns g c =
    let s = c.args.self in
    emptied g.A.Links.regions g.A.Links.word g.A.Links.follows (g.A.Allocator.frees s.heap.system)
    (g.A.Allocator.parts s.heap.system) (g.A.Allocator.unit s.heap.system)
    s.heap c.loop-address.heap s.places.items s.size c.loop-address.places.items (search rules) c.loop-address.invariant

use Rattle.heap_cache.proofs.HeldLemmas.{requested_held, requested_fresh}
use Rattle.heap_cache.proofs.cached.CachedHeap.ask.Goals as goal

pub invariant_of-self : goal.invariant_of-self
invariant_of-self g c =
    requested_held g.A.Links.regions g.A.Links.word g.A.Allocator.zeros g.A.Links.follows g.A.Allocator.refuses g.A.Allocator.denies c.self.inside.heap c.malloc.new.self c.self.inside.stacks.rows c.self.invariant
    c.args.size c.args.align c.malloc.result c.malloc.ensures.ok c.malloc.ensures.err

pub returns-clause-fresh : goal.returns-clause-fresh
returns-clause-fresh g c =
    requested_fresh g.A.Links.regions g.A.Links.word g.A.Allocator.zeros g.A.Links.follows g.A.Allocator.refuses g.A.Allocator.denies c.self.inside.heap c.malloc.new.self c.self.inside.stacks.rows c.self.invariant
    c.args.size c.args.align c.malloc.result c.malloc.ensures.ok

use Rattle.heap_cache.proofs.LiveLemmas.{given_up}
use Rattle.heap_cache.proofs.cached.CachedHeap.free.Goals as goal

pub returns-clause-given_up : goal.returns-clause-given_up
returns-clause-given_up g c = given_up g.A.Links.regions g.A.Links.word g.A.Allocator.zeros g.A.Links.follows g.A.Allocator.refuses g.A.Allocator.denies g.A.Allocator.frees g.A.Allocator.parts g.A.Allocator.unit
    c.args.self.now.0 c.give_back.new.self.0 c.args.self.now.1 c.give_back.new.self.1 c.args.address c.are_held.ensures.within c.are_held-2.ensures.within c.are_held.ensures.held c.requires c.give_back.ensures

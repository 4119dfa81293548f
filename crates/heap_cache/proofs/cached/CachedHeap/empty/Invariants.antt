use Rattle.heap_cache.specs.Stacks.{AreWithin}
use Rattle.heap_cache.specs.Emptied.{HasLetGo}
use Rattle.heap_cache.proofs.EmptyLemmas.{Emptying}
use Rattle.heap_cache.proofs.cached.CachedHeap.empty.Given as goal

abbrev pub invariant-loop-turn : goal.invariant-loop-turn
invariant-loop-turn g l = HasLetGo g.A.Links.regions g.A.Links.word g.A.Links.follows g.A.Allocator.frees g.A.Allocator.parts g.A.Allocator.unit l.fn.self.0 l.fn.self.1 l.self.0 l.self.1
    × AreWithin l.self.1 × Emptying l.turn l.self.1

use Rattle.std.proofs.Common.{List, ℕ, subst}
use Rattle.dlmalloc.specs.declared.heap.Dlmalloc.{Dlmalloc}
use Rattle.dlmalloc.specs.Heap.{state_of}
use Rattle.heap_cache.specs.Stacks.{AreWithin}
use Rattle.heap_cache.specs.Held.{AreHeld}
use Rattle.heap_cache.proofs.cached.CachedHeap.are_held.Goals as goal

pub returns-clause-within : goal.returns-clause-within
returns-clause-within g c = subst (λ (now : Dlmalloc g.row.A.Denot × List ℕ). AreWithin now.1) c.self.view_is c.self.inside.stacks.within

pub returns-clause-held : goal.returns-clause-held
returns-clause-held g c = subst (λ (now : Dlmalloc g.row.A.Denot × List ℕ). AreHeld (state_of g.A.Links.word now.0) now.1) c.self.view_is c.self.invariant

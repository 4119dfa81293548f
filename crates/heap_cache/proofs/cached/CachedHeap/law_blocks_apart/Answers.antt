use Rattle.std.proofs.Common.{List, ℕ, subst}
use Rattle.dlmalloc.specs.declared.heap.Dlmalloc.{Dlmalloc}
use Rattle.dlmalloc.specs.Blocks.{BlocksAreApart}
use Rattle.dlmalloc.specs.Heap.{state_of}
use Rattle.heap_cache.proofs.cached.CachedHeap.law_blocks_apart.Goals as goal

pub returns : goal.returns
returns g c = subst (λ (now : Dlmalloc g.row.A.Denot × List ℕ). BlocksAreApart (state_of g.A.Links.word now.0)) c.self.view_is c.law_blocks_apart.ensures

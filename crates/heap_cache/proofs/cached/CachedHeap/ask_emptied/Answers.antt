use Rattle.std.proofs.Common.{List, ℕ, subst, sym}
use Rattle.dlmalloc.specs.declared.heap.Dlmalloc.{Dlmalloc}
use Rattle.heap_cache.specs.Emptied.{AreEmpty, HasLetGo}
use Rattle.heap_cache.proofs.ServeLemmas.{both_refused}
use Rattle.heap_cache.proofs.cached.CachedHeap.ask_emptied.Goals as goal

pub returns : goal.returns
returns g c = (
  c.self.inside.heap,
  subst (λ (now : Dlmalloc g.row.A.Denot × List ℕ). HasLetGo g.A.Links.regions g.A.Links.word g.A.Links.follows g.A.Allocator.frees g.A.Allocator.parts g.A.Allocator.unit c.args.self.now.0 c.args.self.now.1 now.0 now.1) (sym c.self.view_is) c.empty.ensures.gone,
  subst (λ (now : Dlmalloc g.row.A.Denot × List ℕ). AreEmpty now.1) (sym c.self.view_is) c.empty.ensures.empty,
  c.malloc.ensures.ok,
  both_refused g.A.Links.regions g.A.Links.word g.A.Allocator.zeros g.A.Links.follows g.A.Allocator.refuses g.A.Allocator.denies c.self.inside.heap c.malloc.new.self c.self.inside.stacks.rows c.args.size c.args.align c.malloc.result c.malloc.ensures.err,
)

use Rattle.std.proofs.Common.{List, ℕ, subst, sym}
use Rattle.dlmalloc.specs.Heap.{state_of}
use Rattle.dlmalloc.specs.declared.heap.Dlmalloc.{Dlmalloc}
use Rattle.heap_cache.specs.Emptied.{AreEmpty, HasLetGo}
use Rattle.heap_cache.specs.Live.{StaysForCallers}
use Rattle.heap_cache.proofs.LiveLemmas.{empty_held, stays_then, stays_used}
use Rattle.heap_cache.proofs.cached.CachedHeap.trim.Goals as goal

pub invariant_of-self : goal.invariant_of-self
invariant_of-self g c = empty_held (state_of g.A.Links.word c.trim.new.self) c.self.inside.stacks.rows
    (subst (λ (now : Dlmalloc g.row.A.Denot × List ℕ). AreEmpty now.1) (sym c.self.view_is) c.empty.ensures.empty)

pub returns-clause-trimmed : goal.returns-clause-trimmed
returns-clause-trimmed g c = record {
  emptied = c.self.inside.heap;
  gone = subst (λ (now : Dlmalloc g.row.A.Denot × List ℕ). HasLetGo g.A.Links.regions g.A.Links.word g.A.Links.follows g.A.Allocator.frees g.A.Allocator.parts g.A.Allocator.unit c.args.self.now.0 c.args.self.now.1 now.0 now.1) (sym c.self.view_is) c.empty.ensures.gone;
  empty = subst (λ (now : Dlmalloc g.row.A.Denot × List ℕ). AreEmpty now.1) (sym c.self.view_is) c.empty.ensures.empty;
  trimmed = c.trim.ensures.trimmed;
}

pub returns-clause-stays : goal.returns-clause-stays
returns-clause-stays g c = stays_then g.A.Links.word c.args.self.now.0 c.args.self.now.1 c.self.inside.heap c.self.inside.stacks.rows c.trim.new.self c.self.inside.stacks.rows
    (subst (λ (now : Dlmalloc g.row.A.Denot × List ℕ). StaysForCallers g.A.Links.word c.args.self.now.0 c.args.self.now.1 now.0 now.1) (sym c.self.view_is) c.empty.ensures.stays)
    (stays_used g.A.Links.word c.self.inside.heap c.trim.new.self c.self.inside.stacks.rows c.trim.ensures.trimmed.used c.trim.ensures.trimmed.kept)

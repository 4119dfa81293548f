use Rattle.std.proofs.Common.{List, ℕ, subst, sym}
use Rattle.dlmalloc.specs.declared.heap.Dlmalloc.{Dlmalloc}
use Rattle.dlmalloc.specs.Heap.{state_of}
use Rattle.dlmalloc.specs.State.{HeapState}
use Rattle.dlmalloc.specs.Blocks.{IsBlock}
use Rattle.heap_cache.specs.Served.{IsServed}
use Rattle.heap_cache.specs.Live.{IsGained}
use Rattle.heap_cache.proofs.ClearLemmas.{gained_written}
use Rattle.heap_cache.proofs.ServeLemmas.{block_enough}
use Rattle.heap_cache.proofs.cached.CachedHeap.calloc.Goals as goal

pub clear-requires-clause-block : goal.clear-requires-clause-block
clear-requires-clause-block g c = subst (λ (now : Dlmalloc g.row.A.Denot × List ℕ). IsBlock (state_of g.A.Links.word now.0) c.in-Ok.address c.args.size) (sym c.self.view_is) c.in-Ok.ensures.block

pub returns-in-Ok-clause-ok : goal.returns-in-Ok-clause-ok
returns-in-Ok-clause-ok g c = (
  c.self.inside.heap,
  subst (λ (now : Dlmalloc g.row.A.Denot × List ℕ). IsServed g.A.Links.regions g.A.Links.word g.A.Allocator.zeros g.A.Links.follows g.A.Allocator.refuses g.A.Allocator.denies g.A.Allocator.frees g.A.Allocator.parts g.A.Allocator.unit
      c.args.self.now.0 c.args.self.now.1 c.args.size c.in-Ok.address now.0 now.1) (sym c.self.view_is) c.in-Ok.ensures.ok,
  c.clear.ensures.cleared,
)

pub returns-in-Ok-clause-gained : goal.returns-in-Ok-clause-gained
returns-in-Ok-clause-gained g c =
    gained_written g.A.Links.regions g.A.Links.word g.A.Links.follows c.args.self.now.0 c.args.self.now.1 c.in-Ok.address c.self.inside.heap c.self.inside.stacks.rows c.clear.new.heap
    (subst (λ (now : Dlmalloc g.row.A.Denot × List ℕ). IsGained g.A.Links.word c.args.self.now.0 c.args.self.now.1 c.in-Ok.address now.0 now.1) (sym c.self.view_is) c.in-Ok.ensures.gained)
    c.clear.ensures.cleared.stays c.clear.ensures.others

pub returns-in-Ok-clause-block : goal.returns-in-Ok-clause-block
returns-in-Ok-clause-block g c = subst (λ (state : HeapState). IsBlock state c.in-Ok.address c.args.size) (sym c.clear.ensures.cleared.stays.state)
    (subst (λ (now : Dlmalloc g.row.A.Denot × List ℕ). IsBlock (state_of g.A.Links.word now.0) c.in-Ok.address c.args.size) (sym c.self.view_is) c.in-Ok.ensures.block)

pub returns-in-Ok-clause-enough : goal.returns-in-Ok-clause-enough
returns-in-Ok-clause-enough g c = block_enough (state_of g.A.Links.word c.clear.new.heap) c.in-Ok.address c.args.size (returns-in-Ok-clause-block g c)

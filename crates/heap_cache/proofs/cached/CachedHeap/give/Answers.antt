use Rattle.std.proofs.Common.{◌≡◌, List, ℕ, IfOk, ap, inl, refl, subst, sym}
use Rattle.dlmalloc.specs.Heap.{state_of}
use Rattle.dlmalloc.specs.declared.heap.Dlmalloc.{Dlmalloc}
use Rattle.heap_cache.specs.Held.{AreHeld, HasNoneFor, IsGiven}
use Rattle.heap_cache.proofs.HeldLemmas.{popped_held, popped_was, popped_block, popped_gone, serves, requested_held, requested_given}
use Rattle.heap_cache.proofs.cached.CachedHeap.give.Goals as goal

pub invariant_of-self : goal.invariant_of-self
invariant_of-self g c = let taken = c.in-Some.ensures.some in popped_held c.self.inside.stacks.within taken.low taken.popped _ c.self.invariant

pub returns-in-Some-clause-ok : goal.returns-in-Some-clause-ok
returns-in-Some-clause-ok g c =
    let taken = c.in-Some.ensures.some in
    let within = c.self.inside.stacks.within in
    let heap = c.self.inside.heap in
    let state = state_of g.A.Links.word heap in
    subst (λ (was : Dlmalloc g.row.A.Denot × List ℕ). IsGiven g.A.Links.regions g.A.Links.word g.A.Allocator.zeros g.A.Links.follows was.0 was.1 c.args.size c.in-Some.address heap c.take.new.stacks.rows)
    c.self.view_is
    (inl (record {
      same = refl;
      low = taken.low;
      popped = taken.popped;
      block = serves state _ c.in-Some.address c.args.size taken.holds taken.near (popped_block within taken.low taken.popped state c.self.invariant);
      held = popped_was within taken.low taken.popped;
      gone = popped_gone within taken.low taken.popped state c.self.invariant;
    }))

pub invariant_of-self-in-None : goal.invariant_of-self-in-None
invariant_of-self-in-None g c =
    let rows : c.self.inside.stacks.rows ≡ c.take.new.stacks.rows = ap (λ s. s.rows) (sym c.in-None.ensures.none) in
    subst (λ (rows : List ℕ). AreHeld (state_of g.A.Links.word c.malloc.new.self) rows) rows
    (requested_held g.A.Links.regions g.A.Links.word g.A.Allocator.zeros g.A.Links.follows _ _ c.self.inside.heap c.malloc.new.self c.self.inside.stacks.rows c.self.invariant
    c.args.size 16 c.malloc.result c.malloc.ensures.ok c.malloc.ensures.err)

pub returns-in-None-clause-ok : goal.returns-in-None-clause-ok
returns-in-None-clause-ok g c =
    let heap = c.self.inside.heap in
    let rows : c.self.inside.stacks.rows ≡ c.take.new.stacks.rows = ap (λ s. s.rows) (sym c.in-None.ensures.none) in
    subst (λ (now : List ℕ). IfOk c.malloc.result (λ address. IsGiven g.A.Links.regions g.A.Links.word g.A.Allocator.zeros g.A.Links.follows c.args.self.now.0 c.args.self.now.1 c.args.size address c.malloc.new.self now)) rows
    (subst (λ (was : Dlmalloc g.row.A.Denot × List ℕ). IfOk c.malloc.result (λ address. IsGiven g.A.Links.regions g.A.Links.word g.A.Allocator.zeros g.A.Links.follows was.0 was.1 c.args.size address c.malloc.new.self c.self.inside.stacks.rows)) c.self.view_is
    (requested_given g.A.Links.regions g.A.Links.word g.A.Allocator.zeros g.A.Links.follows g.A.Allocator.refuses g.A.Allocator.denies heap c.malloc.new.self c.self.inside.stacks.rows c.self.invariant
    c.args.size 16 (subst (λ (rows : List ℕ). HasNoneFor rows c.args.size) refl c.in-None.ensures.empty) c.malloc.result c.malloc.ensures.ok))

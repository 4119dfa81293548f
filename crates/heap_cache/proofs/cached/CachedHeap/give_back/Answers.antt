use Rattle.std.proofs.Common.{◌≡◌, List, ℕ, ap, inr, subst, sym}
use Rattle.dlmalloc.specs.Heap.{state_of}
use Rattle.dlmalloc.specs.declared.heap.Dlmalloc.{Dlmalloc}
use Rattle.heap_cache.specs.Held.{AreHeld, IsLive, HasNoRoom, IsGivenBack}
use Rattle.heap_cache.proofs.HeldLemmas.{pushed_held, class_of, less_held}
use Rattle.heap_cache.proofs.cached.CachedHeap.give_back.Goals as goal

pub invariant_of-self : goal.invariant_of-self
invariant_of-self g c =
    let state = state_of g.A.Links.word c.self.inside.heap in
    let live = subst (λ (was : Dlmalloc g.row.A.Denot × List ℕ). IsLive (state_of g.A.Links.word was.0) was.1 c.args.address) (sym c.self.view_is) c.requires in
    let kept = c.keep.ensures.kept c.if-keep.true in
    pushed_held c.self.inside.stacks.within c.keep.new.stacks.within kept.0 kept.1 state
    (class_of state c.args.address c.usable_size.result live.0 c.usable_size.ensures) live.1 c.self.invariant

pub invariant_of-self-2 : goal.invariant_of-self-2
invariant_of-self-2 g c =
    let live = subst (λ (was : Dlmalloc g.row.A.Denot × List ℕ). IsLive (state_of g.A.Links.word was.0) was.1 c.args.address) (sym c.self.view_is) c.requires in
    let rows : c.self.inside.stacks.rows ≡ c.keep.new.stacks.rows = ap (λ s. s.rows) (sym (c.keep.ensures.same c.if-keep.false)) in
    subst (λ (rows : List ℕ). AreHeld (state_of g.A.Links.word c.free.new.self) rows) rows
    (less_held (state_of g.A.Links.word c.free.new.self) c.args.address c.self.invariant live.0.1.low live.1 c.free.ensures.freed.less)

pub returns : goal.returns
returns g c =
    let state = state_of g.A.Links.word c.self.inside.heap in
    let rows : c.keep.new.stacks.rows ≡ c.self.inside.stacks.rows = ap (λ s. s.rows) (c.keep.ensures.same c.if-keep.false) in
    subst (λ (was : Dlmalloc g.row.A.Denot × List ℕ). IsGivenBack g.A.Links.regions g.A.Links.word g.A.Links.follows (g.A.Allocator.frees was.0.system) (g.A.Allocator.parts was.0.system) (g.A.Allocator.unit was.0.system) was.0 was.1 c.args.address c.free.new.self c.keep.new.stacks.rows)
    c.self.view_is
    (inr (subst (λ (bytes : ℕ). HasNoRoom c.self.inside.stacks.rows bytes) c.usable_size.ensures (c.keep.ensures.full c.if-keep.false), c.free.ensures.freed, rows))

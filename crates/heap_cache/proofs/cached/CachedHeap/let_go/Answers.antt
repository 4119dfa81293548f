use Rattle.std.proofs.Common.{◌≡◌, true, List, ℕ, ap, sym, subst}
use Rattle.dlmalloc.specs.AfterFree.{IsFreed}
use Rattle.dlmalloc.specs.Blocks.{HasBlock}
use Rattle.dlmalloc.specs.declared.heap.Dlmalloc.{Dlmalloc}
use Rattle.heap_cache.specs.Stacks.{IsPopped}
use Rattle.dlmalloc.specs.Heap.{state_of}
use Rattle.heap_cache.proofs.HeldLemmas.{popped_held, popped_block, popped_gone, is_block, less_held}
use Rattle.heap_cache.specs.Live.{StaysForCallers}
use Rattle.heap_cache.proofs.EmptyLemmas.{live_freed}
use Rattle.heap_cache.proofs.LiveLemmas.{stays_kept, stays_same}
use Rattle.heap_cache.proofs.cached.CachedHeap.let_go.Goals as goal

pub free-requires : goal.free-requires
free-requires g c =
    let state = state_of g.A.Links.word c.self.inside.heap in
    let popped = c.in-Some.ensures.some in
    record { block = is_block state c.args.class c.in-Some.address (popped_block c.self.inside.stacks.within c.requires popped state c.self.invariant) }

pub invariant_of-self : goal.invariant_of-self
invariant_of-self g c =
    let state = state_of g.A.Links.word c.self.inside.heap in
    let within = c.self.inside.stacks.within in
    let popped = c.in-Some.ensures.some in
    let block = popped_block within c.requires popped state c.self.invariant in
    less_held (state_of g.A.Links.word c.free.new.self) c.in-Some.address (popped_held within c.requires popped state c.self.invariant) block.low
    (popped_gone within c.requires popped state c.self.invariant) c.free.ensures.freed.less

pub returns-in-Some-clause-freed : goal.returns-in-Some-clause-freed
returns-in-Some-clause-freed g c =
    let state = state_of g.A.Links.word c.self.inside.heap in
    let within = c.self.inside.stacks.within in
    let popped = c.in-Some.ensures.some in
    let block = is_block state c.args.class c.in-Some.address (popped_block within c.requires popped state c.self.invariant) in
    subst (λ (was : Dlmalloc g.row.A.Denot × List ℕ). true ≡ true → (address : ℕ) × HasBlock (state_of g.A.Links.word was.0) address × IsPopped was.1 c.args.class address c.pop.new.self.rows
    × IsFreed g.A.Links.regions g.A.Links.word g.A.Links.follows (g.A.Allocator.frees was.0.system) (g.A.Allocator.parts was.0.system) (g.A.Allocator.unit was.0.system) was.0 address c.free.new.self)
    c.self.view_is (λ same. (c.in-Some.address, block, popped, c.free.ensures.freed))

pub returns-in-Some-clause-stays : goal.returns-in-Some-clause-stays
returns-in-Some-clause-stays g c =
    let state = state_of g.A.Links.word c.self.inside.heap in
    let within = c.self.inside.stacks.within in
    let popped = c.in-Some.ensures.some in
    let block = popped_block within c.requires popped state c.self.invariant in
    subst (λ (was : Dlmalloc g.row.A.Denot × List ℕ). StaysForCallers g.A.Links.word was.0 was.1 c.free.new.self c.pop.new.self.rows) c.self.view_is
    (stays_kept g.A.Links.word c.self.inside.heap c.self.inside.stacks.rows c.free.new.self c.pop.new.self.rows
    (live_freed g.A.Links.word c.self.inside.heap c.free.new.self c.self.inside.stacks.rows c.pop.new.self.rows c.args.class c.in-Some.address within c.requires block.low popped c.free.ensures.freed.less c.free.ensures.freed.kept))

pub returns-in-None-clause-stays : goal.returns-in-None-clause-stays
returns-in-None-clause-stays g c =
    let rows : c.self.inside.stacks.rows ≡ c.pop.new.self.rows = ap (λ s. s.rows) (sym c.in-None.ensures.same) in
    subst (λ (now : List ℕ). StaysForCallers g.A.Links.word c.args.self.now.0 c.args.self.now.1 c.self.inside.heap now) rows
    (subst (λ (was : Dlmalloc g.row.A.Denot × List ℕ). StaysForCallers g.A.Links.word was.0 was.1 c.self.inside.heap c.self.inside.stacks.rows) c.self.view_is (stays_same g.A.Links.word c.self.inside.heap c.self.inside.stacks.rows))

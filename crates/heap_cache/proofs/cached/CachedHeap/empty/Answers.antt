use Rattle.std.proofs.Common.{List, ℕ, arith, subst}
use Rattle.dlmalloc.specs.declared.heap.Dlmalloc.{Dlmalloc}
use Rattle.heap_cache.specs.Stacks.{AreWithin}
use Rattle.heap_cache.proofs.EmptyLemmas.{Emptying, gone_none, emptying_begins, emptied, passed}
use Rattle.heap_cache.proofs.LiveLemmas.{stays_kept}
use Rattle.heap_cache.proofs.cached.CachedHeap.empty.Goals as goal

pub loop-turn-init : goal.loop-turn-init
loop-turn-init g c =
    let within : AreWithin c.args.self.now.1 = subst (λ (was : Dlmalloc g.row.A.Denot × List ℕ). AreWithin was.1) c.self.view_is c.self.inside.stacks.within in
    (gone_none g.A.Links.regions g.A.Links.word g.A.Links.follows g.A.Allocator.frees g.A.Allocator.parts g.A.Allocator.unit c.args.self.now.0 c.args.self.now.1, within, emptying_begins c.args.self.now.1 within)

pub loop-turn-preserved : goal.loop-turn-preserved
loop-turn-preserved g c = passed g.A.Links.regions g.A.Links.word g.A.Links.follows g.A.Allocator.frees g.A.Allocator.parts g.A.Allocator.unit c.args.self.now.0 c.args.self.now.1
    c.loop-turn.turn c.loop-turn-test.true c.loop-turn.self c.let_go.new.self c.let_go.result c.let_go.ensures.freed c.let_go.ensures.none c.let_go.ensures.same c.loop-turn.invariant

pub returns-clause-empty : goal.returns-clause-empty
returns-clause-empty g c = emptied c.loop-turn.self.1 (subst (λ (turn : ℕ). Emptying turn c.loop-turn.self.1) (omega (arith, c.loop-turn-test.false, c.loop-turn.auto)) c.loop-turn.invariant.2)

pub returns-clause-stays : goal.returns-clause-stays
returns-clause-stays g c = stays_kept g.A.Links.word c.args.self.now.0 c.args.self.now.1 c.loop-turn.self.0 c.loop-turn.self.1 c.loop-turn.invariant.0.live

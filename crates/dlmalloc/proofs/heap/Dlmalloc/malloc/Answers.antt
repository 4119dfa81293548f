use Rattle.dlmalloc.proofs.Names.{inr, arith}
use Rattle.dlmalloc.proofs.Bins.Members.{on_both, chosen_low, chosen_high}
use Rattle.dlmalloc.proofs.Blocks.HandedOut.{handed_high}
use Rattle.dlmalloc.proofs.Blocks.Allocated.{allocated_low}
use Rattle.dlmalloc.proofs.heap.Dlmalloc.malloc.Goals as goal

pub returns-then-align-le-LEAST_ALIGN-clause-allocated : goal.returns-then-align-le-LEAST_ALIGN-clause-allocated
returns-then-align-le-LEAST_ALIGN-clause-allocated g c =
    on_both c.c_malloc.result (λ address served member. allocated_low c.requires.align c.if-align-le-LEAST_ALIGN.true served member)
    c.c_malloc.ensures.served c.c_malloc.ensures.member

pub returns-else-align-le-LEAST_ALIGN-clause-allocated : goal.returns-else-align-le-LEAST_ALIGN-clause-allocated
returns-else-align-le-LEAST_ALIGN-clause-allocated g c =
    on_both c.memalign.result (λ address served member. record {
      served = inr (c.if-align-le-LEAST_ALIGN.false, served);
      handed = handed_high c.if-align-le-LEAST_ALIGN.false g.A.Links.follows_on served;
      member = member;
    }) c.memalign.ensures.served c.memalign.ensures.member

pub returns-then-align-le-LEAST_ALIGN-clause-counted : goal.returns-then-align-le-LEAST_ALIGN-clause-counted
returns-then-align-le-LEAST_ALIGN-clause-counted g c = λ some.
    let few = c.c_malloc.ensures.counted (λ none. some (chosen_low g.A.Links.regions g.A.Links.word c.args.self.now
    c.args.size c.args.align c.if-align-le-LEAST_ALIGN.true none)) in
    omega arith

pub returns-else-align-le-LEAST_ALIGN-clause-counted : goal.returns-else-align-le-LEAST_ALIGN-clause-counted
returns-else-align-le-LEAST_ALIGN-clause-counted g c = λ some. c.memalign.ensures.counted
    (λ none. some (chosen_high g.A.Links.regions g.A.Links.word c.args.self.now c.args.size c.args.align c.if-align-le-LEAST_ALIGN.false none))

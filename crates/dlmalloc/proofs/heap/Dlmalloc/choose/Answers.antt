use Rattle.dlmalloc.proofs.Names.{◌∙◌, arith, sym, Free, state_of, IsChosen}
use Rattle.dlmalloc.proofs.Cuts.Chosen.{of_place, bins_chosen, victim_first, victim_alone, top_chosen, none_chosen}
use Rattle.dlmalloc.proofs.heap.Dlmalloc.choose.Goals as goal

pub returns-in-Some-clause-chunk : goal.returns-in-Some-clause-chunk
returns-in-Some-clause-chunk g c place is =
    of_place (λ place. IsChosen (state_of g.A.Links.word c.args.self.now) c.args.n (record { at = place.at; size = place.size; kind = Free })) c.in-Some.place
    place is (bins_chosen c.requires.intact.sound c.requires.there c.args.n c.in-Some.place.at c.in-Some.ensures.least
    (sym c.goes_first.ensures ∙ c.if-goes_first.true) c.in-Some.ensures.there c.in-Some.ensures.other)

pub returns-in-Some-2-clause-chunk : goal.returns-in-Some-2-clause-chunk
returns-in-Some-2-clause-chunk g c place is =
    of_place (λ place. IsChosen (state_of g.A.Links.word c.args.self.now) c.args.n (record { at = place.at; size = place.size; kind = Free }))
    (record { at = c.args.self.now.victim; size = c.args.self.now.victim_size }) place is
    (victim_first c.requires.intact.sound c.requires.there c.args.n c.in-Some.ensures.least (sym c.goes_first.ensures ∙ c.if-goes_first.false) (omega arith))

pub returns-in-None-clause-chunk : goal.returns-in-None-clause-chunk
returns-in-None-clause-chunk g c place is =
    of_place (λ place. IsChosen (state_of g.A.Links.word c.args.self.now) c.args.n (record { at = place.at; size = place.size; kind = Free }))
    (record { at = c.args.self.now.victim; size = c.args.self.now.victim_size }) place is
    (victim_alone c.requires.intact.sound c.requires.there c.args.n c.in-None.ensures.least c.if-n-victim.true (omega arith))

pub returns-in-None-2-clause-top : goal.returns-in-None-2-clause-top
returns-in-None-2-clause-top g c is = top_chosen c.requires.intact.sound c.requires.there c.args.n c.in-None.ensures.least (omega arith) c.if-n-self.true

pub returns-in-None-3-clause-none : goal.returns-in-None-3-clause-none
returns-in-None-3-clause-none g c is = none_chosen c.requires.intact.sound c.requires.there c.args.n c.in-None.ensures.least (omega arith) (omega arith)

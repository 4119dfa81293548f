use Rattle.std.proofs.Common.{sym, subst, ap, refl, ◌∙◌, Some}
use Rattle.object_pool.specs.Pool.{StandsForLists}
use Rattle.object_pool.proofs.Standing.{is_some_by, is_none_by, stands_object, stands_nothing}
use Rattle.object_pool.proofs.pool.Pool.read.Goals as goal

pub returns-then-not-has-clause-answer : goal.returns-then-not-has-clause-answer
returns-then-not-has-clause-answer g c = λ lists stands.
    let p = c.self.inside in
    let none = stands_nothing g.A.Links.word p.slabs.heap p.slabs.size p.slabs.places.items p.slots.slots.items
    p.slots.freed.items lists (subst (λ pool. StandsForLists g.A.Links.word pool lists) (sym c.self.view_is) stands)
    c.args.key
    (λ is. absurd (let yes = c.has.ensures.1 is in let no = c.if-not-has.true in cc)) in
    ((λ yes. absurd (cc)), λ some. absurd (is_none_by _ none some))

pub returns-clause-answer : goal.returns-clause-answer
returns-clause-answer g c = λ lists stands.
    let p = c.self.inside in
    let some = stands_object g.A.Links.word p.slabs.heap p.slabs.size p.slabs.places.items p.slots.slots.items
    p.slots.freed.items lists (subst (λ pool. StandsForLists g.A.Links.word pool lists) (sym c.self.view_is) stands)
    c.args.key
    (c.has.ensures.0 c.if-not-has.false) in
    ((λ yes. is_some_by _ _ some), λ there. refl)

pub returns-clause-object : goal.returns-clause-object
returns-clause-object g c = λ lists stands yes.
    let p = c.self.inside in
    stands_object g.A.Links.word p.slabs.heap p.slabs.size p.slabs.places.items p.slots.slots.items p.slots.freed.items
    lists (subst (λ pool. StandsForLists g.A.Links.word pool lists) (sym c.self.view_is) stands) c.args.key
    (c.has.ensures.0 c.if-not-has.false) ∙ ap Some (sym c.read.ensures)

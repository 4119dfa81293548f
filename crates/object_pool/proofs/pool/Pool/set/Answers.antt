use Rattle.std.proofs.Common.{sym, subst, ap, refl}
use Rattle.object_pool.specs.Pool.{StandsForLists, Keeps}
use Rattle.object_pool.proofs.Standing.{is_some_by, is_none_by, stands_object, stands_nothing, stands_replaced, pooled}
use Rattle.object_pool.proofs.pool.Pool.set.Goals as goal

pub returns-then-not-has-clause-answer : goal.returns-then-not-has-clause-answer
returns-then-not-has-clause-answer g c = λ lists stands.
    let p = c.self.inside in
    let none = stands_nothing g.A.Links.word p.slabs.heap p.slabs.size p.slabs.places.items p.slots.slots.items
    p.slots.freed.items lists (subst (λ pool. StandsForLists g.A.Links.word pool lists) (sym c.self.view_is) stands)
    c.args.key
    (λ is. absurd (let yes = c.has.ensures.1 is in let no = c.if-not-has.true in cc)) in
    ((λ yes. absurd (cc)), λ some. absurd (is_none_by _ none some))

pub returns-clause-answer : goal.returns-clause-answer
returns-clause-answer g c = λ lists stands.
    let p = c.self.inside in
    let some = stands_object g.A.Links.word p.slabs.heap p.slabs.size p.slabs.places.items p.slots.slots.items
    p.slots.freed.items lists (subst (λ pool. StandsForLists g.A.Links.word pool lists) (sym c.self.view_is) stands)
    c.args.key
    (c.has.ensures.0 c.if-not-has.false) in
    ((λ yes. is_some_by _ _ some), λ there. refl)

pub returns-clause-after : goal.returns-clause-after
returns-clause-after g c = λ lists stands yes.
    let p = c.self.inside in
    stands_replaced g.A.Links.word p.slabs.heap p.slabs.size p.slabs.places.items p.slots.slots.items p.slots.freed.items
    lists (subst (λ pool. StandsForLists g.A.Links.word pool lists) (sym c.self.view_is) stands)
    c.write.new.self.heap c.write.new.self.size c.write.new.self.places.items c.args.key c.args.bytes.now
    c.write.ensures.size (ap (λ places. places.items) c.write.ensures.places) c.self.invariant.within p.slots.freed_are
    (c.has.ensures.0 c.if-not-has.false) c.write.ensures.put.here c.write.ensures.put.others

pub returns-clause-kept : goal.returns-clause-kept
returns-clause-kept g c = subst (λ pool. Keeps g.A.Links.word pool (pooled c.write.new.self.heap c.write.new.self.size
    c.write.new.self.places.items c.self.inside.slots.slots.items c.self.inside.slots.freed.items)) c.self.view_is
    (record { size = c.write.ensures.size; blocks = c.write.ensures.put.kept })

pub returns-then-not-has-clause-heap : goal.returns-then-not-has-clause-heap
returns-then-not-has-clause-heap g c = record {
  state = refl;
  regions_same = refl;
  followed = g.A.Links.follows_none c.args.self.now.heap.system;
  index = λ before. (before, λ n. refl);
}

use Rattle.std.proofs.Common.{length, ap, sym, subst, arith}
use Rattle.object_pool.specs.Pool.{HasFreeSlot}
use Rattle.object_pool.proofs.Standing.{made_key, made_stands, made_slab, made_keeps, key_there, slots_within}
use Rattle.object_pool.proofs.pool.Pool.insert.Goals as goal

pub returns-in_err-make_room-clause-kept : goal.returns-in_err-make_room-clause-kept
returns-in_err-make_room-clause-kept g c = record {
  size = ap (λ p. p.size) c.make_room.ensures.changed.others;
  blocks = λ address n block none. c.make_room.ensures.changed.kept address n block;
}

pub write-requires-clause-slot : goal.write-requires-clause-slot
write-requires-clause-slot g c =
    let p = c.self.inside in
    record {
      laid = c.self.invariant.laid;
      there = key_there g.A.Links.regions g.A.Links.word g.A.Links.follows c.args.self.now p.slabs.heap p.slabs.size
          p.slabs.places.items p.slots.slots.items p.slots.freed.items c.make_room.ensures.slots.laid
          (subst (λ mid. HasFreeSlot g.A.Links.regions g.A.Links.word g.A.Links.follows c.args.self.now mid) (sym c.self.view_is)
          c.in_ok-make_room.ensures.room) c.self.invariant.within
          c.take-key.result c.take-key.new.self.slots.items c.take-key.new.self.freed.items c.take-key.ensures.next c.take-key.ensures.taken;
    }

pub invariant_of-self : goal.invariant_of-self
invariant_of-self g c =
    let p = c.self.inside in
    let same = ap (λ places. length places.items) c.write.ensures.places in
    let within = slots_within g.A.Links.regions g.A.Links.word g.A.Links.follows c.args.self.now p.slabs.heap p.slabs.size
    p.slabs.places.items p.slots.slots.items p.slots.freed.items c.make_room.ensures.slots.laid
    (subst (λ mid. HasFreeSlot g.A.Links.regions g.A.Links.word g.A.Links.follows c.args.self.now mid) (sym c.self.view_is)
    c.in_ok-make_room.ensures.room) c.self.invariant.within
    c.take-key.result c.take-key.new.self.slots.items c.take-key.new.self.freed.items c.take-key.ensures.next c.take-key.ensures.taken in
    record {
      laid = c.write.ensures.laid;
      within = omega (arith, same, within);
      most = omega (arith, same, c.self.invariant.most);
      room = omega (arith, same, c.self.invariant.room, c.take-key.ensures.places.room);
      freed_room = omega (arith, same, c.self.invariant.freed_room, c.take-key.ensures.places.freed_room);
    }

pub returns-clause-key : goal.returns-clause-key
returns-clause-key g c = λ lists stands.
    let p = c.self.inside in
    made_key g.A.Links.regions g.A.Links.word g.A.Links.follows c.args.self.now p.slabs.heap p.slabs.size
    p.slabs.places.items p.slots.slots.items p.slots.freed.items c.make_room.ensures.slots.laid
    (subst (λ mid. HasFreeSlot g.A.Links.regions g.A.Links.word g.A.Links.follows c.args.self.now mid) (sym c.self.view_is)
    c.in_ok-make_room.ensures.room) c.self.invariant.within
    c.take-key.result c.take-key.new.self.slots.items c.take-key.new.self.freed.items c.take-key.ensures.next c.take-key.ensures.taken lists stands

pub returns-clause-after : goal.returns-clause-after
returns-clause-after g c = λ lists stands.
    let p = c.self.inside in
    made_stands g.A.Links.regions g.A.Links.word g.A.Links.follows c.args.self.now p.slabs.heap p.slabs.size
    p.slabs.places.items p.slots.slots.items p.slots.freed.items c.make_room.ensures.slots.laid
    (subst (λ mid. HasFreeSlot g.A.Links.regions g.A.Links.word g.A.Links.follows c.args.self.now mid) (sym c.self.view_is)
    c.in_ok-make_room.ensures.room) c.self.invariant.within
    c.take-key.result c.take-key.new.self.slots.items c.take-key.new.self.freed.items c.take-key.ensures.next c.take-key.ensures.taken
    c.write.new.self.heap c.write.new.self.size c.write.new.self.places.items c.args.bytes.now c.write.ensures.size
    (ap (λ places. places.items) c.write.ensures.places)
    lists stands c.make_room.ensures.slots.within c.take-key.new.self.freed_are c.write.ensures.put.here c.write.ensures.put.others

pub returns-clause-kept : goal.returns-clause-kept
returns-clause-kept g c =
    let p = c.self.inside in
    made_keeps g.A.Links.regions g.A.Links.word g.A.Links.follows c.args.self.now p.slabs.heap p.slabs.size
    p.slabs.places.items p.slots.slots.items p.slots.freed.items c.make_room.ensures.slots.laid
    (subst (λ mid. HasFreeSlot g.A.Links.regions g.A.Links.word g.A.Links.follows c.args.self.now mid) (sym c.self.view_is)
    c.in_ok-make_room.ensures.room) c.self.invariant.within
    c.take-key.result c.take-key.new.self.slots.items c.take-key.new.self.freed.items c.take-key.ensures.next c.take-key.ensures.taken
    c.write.new.self.heap c.write.new.self.size c.write.new.self.places.items c.args.bytes.now c.write.ensures.size
    (ap (λ places. places.items) c.write.ensures.places) c.write.ensures.put.kept

pub returns-clause-slab : goal.returns-clause-slab
returns-clause-slab g c = λ lists stands.
    let p = c.self.inside in
    made_slab g.A.Links.regions g.A.Links.word g.A.Links.follows c.args.self.now p.slabs.heap p.slabs.size
    p.slabs.places.items p.slots.slots.items p.slots.freed.items c.make_room.ensures.slots.laid
    (subst (λ mid. HasFreeSlot g.A.Links.regions g.A.Links.word g.A.Links.follows c.args.self.now mid) (sym c.self.view_is)
    c.in_ok-make_room.ensures.room) c.self.invariant.within
    c.take-key.result c.take-key.new.self.slots.items c.take-key.new.self.freed.items c.take-key.ensures.next c.take-key.ensures.taken
    c.write.new.self.heap c.write.new.self.size c.write.new.self.places.items c.args.bytes.now c.write.ensures.size
    (ap (λ places. places.items) c.write.ensures.places)
    g.A.Links.follows_on c.write.ensures.put.stays lists stands

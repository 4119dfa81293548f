use Rattle.std.proofs.Common.{◌≡◌, ◌+◌, ◌∷◌, [], length, true, cond, ap, ◌∙◌, arith}
use Rattle.std.proofs.lemmas.List.{get_or_read, length-set, length-append}
use Rattle.object_pool.specs.Slots.{slot_at}
use Rattle.object_pool.proofs.SlotLists.{none, one_used, free_is, freed_last, free_there, freed_taken, changed_set, young_changed, used_set}
use Rattle.object_pool.proofs.slots.Slots.take.Goals as goal

pub index-requires : goal.index-requires
index-requires c =
    let s = c.args.self.now in
    let there = free_there s.slots.items c.in-Some.index (freed_last s.slots.items s.freed.items c.pop.new.self.items
    c.in-Some.index s.freed_are c.in-Some.ensures.items) in
    omega (arith, s.slots.ok.0, there)

pub invariant_of-self : goal.invariant_of-self
invariant_of-self c =
    let s = c.args.self.now in
    let last = freed_last s.slots.items s.freed.items c.pop.new.self.items c.in-Some.index s.freed_are c.in-Some.ensures.items in
    let there = free_there s.slots.items c.in-Some.index last in
    let slot : c.index.result.now ≡ slot_at s.slots.items c.in-Some.index =
    get_or_read s.slots.items c.in-Some.index c.index.result.now there c.index.ensures none in
    let is = free_is (slot_at s.slots.items c.in-Some.index) last in
    let generation = ap (λ slot. slot.generation) slot in
    let count = used_set s.slots.items c.in-Some.index (record { generation = c.index.result.now.generation; used = true }) there in
    let before : one_used (slot_at s.slots.items c.in-Some.index) ≡ 0 = ap (λ b. cond b 1 0) is.0 in
    let fewer : length s.freed.items ≡ length c.pop.new.self.items + 1 = ap length c.in-Some.ensures.items
    ∙ length-append c.pop.new.self.items (c.in-Some.index ∷ []) in
    let many = length-set s.slots.items c.in-Some.index (record { generation = c.index.result.now.generation; used = true }) in
    let all = s.others in
    let few = s.few in
    let room = s.room in
    record {
      freed_are = freed_taken s.slots.items _ s.freed.items c.pop.new.self.items c.in-Some.index
          c.index.result.now.generation s.freed_are c.in-Some.ensures.items
          (changed_set s.slots.items c.in-Some.index _ there);
      young = young_changed s.slots.items _ c.in-Some.index _ s.young (λ used. omega (arith, generation, is.2))
          (changed_set s.slots.items c.in-Some.index _ there);
      used_is = omega (arith, count, before, s.used_is);
      others = omega (arith, fewer, many, all);
      few = omega (arith, many, few);
      room = omega (arith, many, room, c.in-Some.ensures.capacity);
    }

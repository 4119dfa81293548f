use Rattle.std.proofs.Common.{◌≡◌, ◌+◌, ◌*◌, ◌/◌, ◌≤◌, sym, ap, ◌∙◌, arith}
use Rattle.paging_core.specs.Walk.{reach}
use Rattle.paging_core.specs.Large.{slot_of}
use Rattle.page_ranges.proofs.SlotLoop.{no_table, slots_start, slot_empty, slot_room, slots_skip, slots_next, slots_to}
use Rattle.page_ranges.proofs.mapping.map_slots.Goals as goal
use Rattle.page_ranges.proofs.mapping.map_slots.Goals.{else-not-has_table-via-then-not-has_table+else-not-map_slot, else-not-has_table-via-else-not-has_table}

pub loop-slot-init : goal.loop-slot-init
loop-slot-init c = let e = c.div_ceil-start.ensures in let n = c.number-2.ensures.value in record {
  added = slots_start c.args.frames.now c.args.pool.now c.args.root c.args.first c.args.pages c.div_ceil-start.result
      c.args.rights c.requires.standing.tree (omega arith);
  from = omega arith;
}

pub map_slot-requires-clause-empty : goal.map_slot-requires-clause-empty
map_slot-requires-clause-empty c =
    let n = c.number-in-loop-slot.ensures.value in
    let a = c.after.ensures in
    let e : c.slot_at-page.result ≡ c.loop-slot.slot = let b = c.slot_at-page.ensures in let f = c.loop-slot.invariant.from in omega arith in
    let t = no_table (reach c.loop-slot.frames c.args.root 3 (slot_of c.slot_at-page.result)) c.has_table.result
    c.has_table.ensures.1 c.if-not-has_table.true in
    rw e
    (slot_empty c.args.frames.now c.loop-slot.frames c.args.pool.now c.loop-slot.pool c.args.root c.args.first c.args.pages c.loop-slot.slot c.args.rights
    c.requires.mappable.range c.requires.standing.known c.requires.mappable.unmapped c.requires.mappable.room c.loop-slot.invariant.added c.loop-slot.invariant.from
    (let x = c.loop-slot-test.true in let m = c.number.ensures.value in omega arith) (ap (λ s. reach c.loop-slot.frames c.args.root 3 (slot_of s)) (sym e) ∙ t))

pub map_slot-requires-clause-room : goal.map_slot-requires-clause-room
map_slot-requires-clause-room c =
    let n = c.number-in-loop-slot.ensures.value in
    let a = c.after.ensures in
    let e : c.slot_at-page.result ≡ c.loop-slot.slot = let b = c.slot_at-page.ensures in let f = c.loop-slot.invariant.from in omega arith in
    rw e
    (slot_room c.args.frames.now c.loop-slot.frames c.args.pool.now c.loop-slot.pool c.args.root c.args.first c.args.pages c.loop-slot.slot c.args.rights
    c.requires.mappable.range c.requires.standing.known c.requires.mappable.unmapped c.requires.mappable.room c.loop-slot.invariant.added c.loop-slot.invariant.from
    (let x = c.loop-slot-test.true in let m = c.number.ensures.value in omega arith))

pub returns-then-not-map_slot-clause-full : goal.returns-then-not-map_slot-clause-full
returns-then-not-map_slot-clause-full c = λ slot whole le run h.
    let f = c.map_slot.ensures.full c.if-not-map_slot.true in
    f.0 run (rw f.2 at h)

pub loop-slot-preserved : goal.loop-slot-preserved
loop-slot-preserved c =
    let n = c.number-in-loop-slot.ensures.value in
    let a = c.after.ensures in
    let e : c.slot_at-page.result ≡ c.loop-slot.slot = let b = c.slot_at-page.ensures in let f = c.loop-slot.invariant.from in omega arith in
    let to : 512 * c.loop-slot.slot + 512 ≤ c.args.first + c.args.pages = let x = c.loop-slot-test.true in let m = c.number.ensures.value in omega arith in
    record {
      from = let f = c.loop-slot.invariant.from in omega arith;
      added = elim c.else-not-has_table.branch [
        | else-not-has_table-via-then-not-has_table+else-not-map_slot w ↦
            let t = no_table (reach c.loop-slot.frames c.args.root 3 (slot_of c.slot_at-page.result)) c.has_table.result
            c.has_table.ensures.1 w.if-not-has_table.true in
            rw (w.frames-is, w.pool-is)
            (slots_next c.args.frames.now c.loop-slot.frames c.args.pool.now c.loop-slot.pool c.args.root c.args.first
            c.args.pages c.loop-slot.slot c.args.rights
            c.requires.mappable.range c.requires.standing.known c.requires.mappable.unmapped c.requires.mappable.room c.loop-slot.invariant.added c.loop-slot.invariant.from to
            w.map_slot.new.frames w.map_slot.new.pool (ap (λ s. reach c.loop-slot.frames c.args.root 3 (slot_of s)) (sym e) ∙ t)
            (rw e at ((w.map_slot.ensures.mapped w.if-not-map_slot.false).added)) w.map_slot.ensures.standing.tree
            (rw e at ((w.map_slot.ensures.mapped w.if-not-map_slot.false).missing c.args.first c.args.pages c.requires.mappable.range
            (rw e c.loop-slot.invariant.from) (rw e to)))
            (rw e at ((w.map_slot.ensures.mapped w.if-not-map_slot.false).count)))
        | else-not-has_table-via-else-not-has_table w ↦
            rw (w.frames-is, w.pool-is)
            (slots_skip c.args.frames.now c.loop-slot.frames c.args.pool.now c.loop-slot.pool c.args.root c.args.first
            c.args.pages c.loop-slot.slot c.args.rights
            c.requires.mappable.range c.requires.standing.known c.requires.mappable.unmapped c.requires.mappable.room c.loop-slot.invariant.added c.loop-slot.invariant.from to
            (rw e at (c.has_table.ensures.0 w.if-not-has_table.false)))
      ];
    }

pub returns-clause-added : goal.returns-clause-added
returns-clause-added c =
    let n : c.number.result ≡ c.args.first = c.number.ensures.value in
    let at_end : (c.number.result + c.args.pages) / 512 ≤ c.loop-slot.slot = let x = c.loop-slot-test.false in omega arith in
    slots_to c.args.frames.now c.loop-slot.frames c.args.pool.now c.loop-slot.pool c.args.root c.args.first c.args.pages
    c.loop-slot.slot ((c.number.result + c.args.pages) / 512) c.args.rights
    c.loop-slot.invariant.added
    (λ s whole lt. let to : 512 * s + 512 ≤ c.args.first + c.args.pages = whole.to in omega (arith, to, n))
    (λ s whole lt. omega (arith, lt, at_end))

use Rattle.std.proofs.Common.{◌≡◌, ◌+◌, ◌-◌, ◌*◌, ◌/◌, ◌^◌, ◌≤◌, inl, inr, ap, subst, sym, ◌∙◌, arith}
use Rattle.std.proofs.lemmas.Bool.{cases_lt}
use Rattle.paging_core.specs.Large.{slot_of}
use Rattle.paging_core.specs.Walk.{large_of}
use Rattle.page_ranges.proofs.Found.{none_of, some_of}
use Rattle.machine_model.specs.Slots.{slot_number}
use Rattle.machine_model.specs.Machine.{AreLargeSlots}
use Rattle.machine_model.proofs.Slots.{slot_among}
use Rattle.mapped_regions.proofs.LargeSlots.{slots_more, slots_skip, slots_of}
use Rattle.mapped_regions.proofs.large_slots.list_large.Goals as goal
use Rattle.mapped_regions.proofs.large_slots.list_large.Goals.{then-is_some, else-is_some}

pub loop-slot-preserved : goal.loop-slot-preserved
loop-slot-preserved c =
    let words = c.args.frames.now in
    let root = c.args.root in
    let start = c.args.region.start in
    let slot = c.loop-slot.slot in
    let whole = c.requires.range.0 in
    let from = c.loop-slot.invariant.from in
    let less = c.loop-slot-test.true in
    let stop = c.requires.stop in
    let places = c.loop-slot.invariant.places in
    let to : 512 * slot + 512 ≤ start / 4096 + c.args.region.pages = omega arith in
    let of = slot_among start c.args.region.pages slot whole c.requires.range.1 from to in
    let next : slot * 2 ^ 21 ≡ start + 4096 * (512 * slot - start / 4096) = omega arith in
    let pages : 512 * slot - start / 4096 + 512 ≡ 512 * (slot + 1) - start / 4096 = omega arith in
    let page = c.containing_address-page.ensures in
    let address = c.new.ensures in
    let number : slot_of c.containing_address-page.result ≡ slot_number (slot * 2 ^ 21) = omega arith in
    let found = c.large_page.ensures ∙ ap (large_of words root) number in
    let listed = c.loop-slot.invariant.listed in
    record {
      listed = subst (λ n. AreLargeSlots words root start n c.if-is_some.slots.items) pages (elim c.if-is_some.branch [
        | then-is_some w ↦ rw w.slots-is (rw w.push_reserved.ensures.items
            (slots_more words root start (512 * slot - start / 4096) (slot * 2 ^ 21) c.loop-slot.slots.items next of.is_slot listed
            (some_of c.large_page.result (large_of words root (slot_number (slot * 2 ^ 21))) found (sym c.is_some.ensures ∙ w.if-is_some.true))))
        | else-is_some w ↦ rw w.slots-is
            (slots_skip words root start (512 * slot - start / 4096) (slot * 2 ^ 21) c.loop-slot.slots.items next of.is_slot listed
            (none_of c.large_page.result (large_of words root (slot_number (slot * 2 ^ 21))) found (sym c.is_some.ensures ∙ w.if-is_some.false)))
      ]);
      from = omega arith;
      within = inr (omega arith);
      places = elim c.if-is_some.branch [
        | then-is_some w ↦ rw w.slots-is (let len = w.push_reserved.ensures.len in let capacity = w.push_reserved.ensures.capacity in omega arith)
        | else-is_some w ↦ rw w.slots-is (omega arith)
      ];
    }

pub returns : goal.returns
returns c =
    let start = c.args.region.start in
    let slot = c.loop-slot.slot in
    let whole = c.requires.range.0 in
    let from = c.loop-slot.invariant.from in
    let past = c.loop-slot-test.false in
    slots_of c.args.frames.now c.args.root start (512 * slot - start / 4096) c.args.region.pages c.loop-slot.slots.items c.loop-slot.invariant.listed
    (λ one of. elim (cases_lt (one / 2 ^ 21) slot) [
      | inl before ↦ (let a = of.is_slot.aligned in let f = of.from in inl (record { is_slot = of.is_slot; from = of.from; within = omega arith }))
      | inr behind ↦ inr (c.requires.rest one of (omega arith))
    ])
    (λ one of. elim c.loop-slot.invariant.within [
      | inl early ↦ (let f = of.from in let t = of.within in absurd (omega arith))
      | inr inside ↦ (let t = of.within in record { is_slot = of.is_slot; from = of.from; within = omega arith })
    ])

-- The slots of a range that was mapped: which of them are large, and which may be.
use Rattle.std.proofs.Common.{◌≡◌, ℕ, ◌+◌, ◌-◌, ◌*◌, ◌/◌, ◌%◌, ◌^◌, ◌≤◌, inl, inr, Bool, List, None, sym, ap, subst, ◌∙◌, arith}
use Rattle.std.proofs.lemmas.Bool.{cases_lt}
use Rattle.paging_core.specs.Prefix.{prefix_of}
use Rattle.paging_core.specs.Runs.{IsRunFree}
use Rattle.paging_core.specs.Walk.{reach, large_of, walk_of}
use Rattle.paging_core.specs.Large.{slot_of}
use Rattle.paging_core.specs.declared.page_table.PageBits.{PageBits}
use Rattle.paging_core.proofs.Reach.{small_slot}
use Rattle.paging_core.proofs.Reached.{some_not_none}
use Rattle.paging_core.proofs.Prefixes.{walk_reach}
use Rattle.page_ranges.specs.RangeMapping.{IsOpenSlot, IsRangeMapped}
use Rattle.machine_model.specs.Slots.{IsSlotOf, slot_number}
use Rattle.machine_model.specs.Machine.{Paged}
use Rattle.machine_model.proofs.Slots.{same_slot, slot_among}
use Rattle.mapped_regions.specs.Mapped.{IsMapped, CanMap}
use Rattle.mapped_regions.proofs.Mapped.{unmapped}

-- a slot that lies whole in the range and had no table is one that may be large
open_slot : (words : List ℕ) (root start pages slot : ℕ) → start % 4096 ≡ 0 → IsSlotOf start pages slot →
    reach words root 3 (slot_number slot) ≡ None → IsOpenSlot words root (start / 4096) pages (slot / 2 ^ 21)
open_slot words root start pages slot whole of none =
    let aligned = of.is_slot.aligned in
    let from = of.from in
    let to = of.within in
    let number : slot_of (slot / 2 ^ 21) ≡ slot_number slot = omega arith in
    record { from = omega arith; to = omega arith; no_table = ap (reach words root 3) number ∙ none }

pub runs_used : (old new : List ℕ) (free free' : List Bool) (root start pages stop : ℕ) (rights : PageBits) →
    start % 4096 ≡ 0 → IsRangeMapped old new free free' root (start / 4096) pages stop rights →
    (slot : ℕ) → IsSlotOf start pages slot → reach old root 3 (slot_number slot) ≡ None →
    large_of new root (slot_number slot) ≡ None → (run : ℕ) → IsRunFree free' run → ⊥
runs_used old new free free' root start pages stop rights whole added slot of no_table none run is = elim (cases_lt (slot / 2 ^ 21) stop) [
  | inr behind ↦ added.no_run (slot / 2 ^ 21) (open_slot old root start pages slot whole of no_table) behind run is
  | inl before ↦ (
      let aligned = of.is_slot.aligned in
      let number : slot_of (slot / 2 ^ 21) ≡ slot_number slot = omega arith in
      let some = added.slots.large (slot / 2 ^ 21) (open_slot old root start pages slot whole of no_table) before in
      some_not_none (large_of new root (slot_of (slot / 2 ^ 21))) some (ap (large_of new root) number ∙ none))
]

-- a range, by the address of its first page
pub by_address : (old new : List ℕ) (free free' : List Bool) (root page start pages stop : ℕ) (rights : PageBits) → page ≡ start / 4096 →
    IsRangeMapped old new free free' root page pages stop rights → IsRangeMapped old new free free' root (start / 4096) pages stop rights
by_address old new free free' root page start pages stop rights at mapped = subst (λ f. IsRangeMapped old new free free' root f pages stop rights) at mapped

-- no slot is large from the one on at which mapping them ended
pub none_behind : (p : Paged) (new : List ℕ) (free' : List Bool) (start pages stop : ℕ) (rights : PageBits) → IsMapped p → CanMap p start pages →
    IsRangeMapped p.words new p.free free' p.root (start / 4096) pages stop rights → (slot : ℕ) →
    IsSlotOf start pages slot → stop ≤ slot / 2 ^ 21 → large_of new p.root (slot_number slot) ≡ None
none_behind p new free' start pages stop rights m can added slot of behind =
    let whole = can.range.0 in
    let aligned = of.is_slot.aligned in
    let from = of.from in
    let to = of.within in
    let page : start / 4096 + (slot / 4096 - start / 4096) ≡ slot / 4096 = omega arith in
    let none = subst (λ q. walk_of p.words p.root q ≡ None) page (unmapped p start pages (slot / 4096 - start / 4096) m can (omega arith)) in
    let number : prefix_of (slot / 4096) 4 / 512 ≡ slot_number slot = omega arith in
    let was : large_of p.words p.root (slot_number slot) ≡ None =
    ap (large_of p.words p.root) (sym number) ∙ small_slot p.words p.root (prefix_of (slot / 4096) 4) (sym (walk_reach p.words p.root (slot / 4096)) ∙ none) in
    added.slots.small (slot_number slot)
    (λ count wide less e. (
    let one = slot_among start pages count whole can.range.1 wide.from wide.to in
    let its : slot_number (count * 2 ^ 21) ≡ count % 2 ^ 27 = omega arith in
    let same = same_slot slot (count * 2 ^ 21) of.is_slot one.is_slot (e ∙ sym its) in
    let half : count * 2 ^ 21 / 2 ^ 21 ≡ count = omega arith in
    omega arith)) ∙ was

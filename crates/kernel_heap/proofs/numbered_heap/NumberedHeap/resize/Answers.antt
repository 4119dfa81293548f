use Rattle.std.proofs.Common.{rules, arith, ℕ, Bool, true, false, None, ◌+◌, ◌≤◌, vec_capacity, ◌≡◌, ◌∙◌, ap, refl, sym, subst, length}
use Rattle.std.proofs.lemmas.Result.{IfOk-weaker, on_err_weaker}
use Rattle.dlmalloc_chunks.specs.Request.{padded}
use Rattle.dlmalloc.specs.Requested.{asked}
use Rattle.machine_model.proofs.Shortened.{length_cut}
use Rattle.paged_systems.specs.System.{paged}
use Rattle.machine_model.specs.declared.answer.Reply.TheVariants.{Block as Placed}
use Rattle.machine_model.specs.Machine.{IsStep}
use Rattle.kernel_heap.specs.Machine.{seen_with}
use Rattle.kernel_heap.specs.Numbered.{live_at}
use Rattle.kernel_heap.specs.Blocks.{resizing, align_kept}
use Rattle.kernel_heap.specs.Moves.{AreRegionsTold}
use Rattle.kernel_heap.specs.declared.numbered_heap.Marks.{Marks}
use Rattle.kernel_heap.proofs.Laid.{laid_resized, laid_denied, seen_denied}
use Rattle.kernel_heap.proofs.Found.{few_regions}
use Rattle.kernel_heap.proofs.Resized.{step_resized, step_not_resized, step_unknown, kept_power, moves_resizing, moved_shortened}
use Rattle.kernel_heap.proofs.Told.{slots_told, step_told, told_from}
use Rattle.kernel_heap.proofs.LastingPages.{AsksForNone}
use Rattle.kernel_heap.proofs.Served.{served, served_refused, unserved, answered}
use Rattle.kernel_heap.proofs.WantOfRoom.{none_beside, left_refused, resizing_refused_moves, unknown_moves}
use Rattle.machine_model.specs.declared.answer.Refusal.TheVariants.{UnknownBlock}
use Rattle.kernel_heap.proofs.numbered_heap.NumberedHeap.resize.Goals as goal

pub resize_live-requires : goal.resize_live-requires
resize_live-requires c = record { block = c.requires.sound.lives c.args.number c.in-Some.live (sym c.live.ensures ∙ c.in-Some.is) }

-- the list has a place for one region more
pub changed_regions-requires-clause-places : goal.changed_regions-requires-clause-places
changed_regions-requires-clause-places c =
    let out = c.in-Ok.ensures.ok.given in
    let few = few_regions c.args.self.now.heap out.middle (padded (asked c.args.size (align_kept c.args.keeps_alignment c.in-Some.live))) out.found in
    let cut = length_cut (paged out.middle.system).regions (paged c.resize_live.new.heap.system).regions
    (moved_shortened c.args.self.now.heap c.resize_live.new.heap c.in-Some.live.address c.in-Some.live.size
    (align_kept c.args.keeps_alignment c.in-Some.live) c.args.size c.in-Ok.address out).short.cut in
    let count : c.region_count-count.result ≡ length (paged c.args.self.now.heap.system).regions =
    c.region_count-count.ensures.count ∙ ap (λ system. length (paged system).regions) c.system.ensures in
    let places : c.region_count-count.result + 1 ≤ vec_capacity c.reserve.new.self = search rules in
    omega arith

pub new_slots-requires : goal.new_slots-requires
new_slots-requires c =
    let is = sym c.live.ensures ∙ c.in-Some.is in
    let power = kept_power c.args.keeps_alignment c.in-Some.live (c.requires.sound.lives c.args.number c.in-Some.live is).align in
    record {
      sound = rw (c.changed_regions.ensures.heap, c.changed_regions.ensures.blocks, c.change.ensures, c.alignment_kept-align.ensures)
          (laid_resized c.args.self.now.heap c.resize_live.new.heap c.args.self.now.blocks.items c.args.number
          c.in-Some.live c.args.size (align_kept c.args.keeps_alignment c.in-Some.live) c.in-Ok.address c.requires.sound
          is c.in-Ok.ensures.ok.given power);
    }

pub returns-in-Ok-clause-sound : goal.returns-in-Ok-clause-sound
returns-in-Ok-clause-sound c = c.new_slots.ensures.sound

-- no page is new by it
asks_none : (keeps : Bool) (number size : ℕ) → AsksForNone (resizing keeps number size)
asks_none true number size = tt
asks_none false number size = tt

pub returns-in-Ok-clause-served : goal.returns-in-Ok-clause-served
returns-in-Ok-clause-served c = answered (
    let is = sym c.live.ensures ∙ c.in-Some.is in
    let power = kept_power c.args.keeps_alignment c.in-Some.live (c.requires.sound.lives c.args.number c.in-Some.live is).align in
    let told = c.new_slots.ensures.told in
    let heap = c.changed_regions.ensures.heap in
    let regions = subst (λ (m : Marks). AreRegionsTold (paged c.resize_live.new.heap.system) m c.changed_regions.result) c.marks-before.ensures
    c.changed_regions.ensures.told in
    let slots = slots_told c.changed_regions.new.self c.new_slots.new.self told c.args.self.now.heap c.resize_live.new.heap c.marks-before.ensures heap in
    served (asks_none c.args.keeps_alignment c.args.number c.args.size) tt
    (λ top s good stands.
    let before : IsStep s (resizing c.args.keeps_alignment c.args.number c.args.size)
    (record { reply = Placed c.args.number c.in-Ok.address; regions = c.changed_regions.result; large = c.new_slots.result })
    (seen_with top c.changed_regions.new.self) =
    rw (heap, c.changed_regions.ensures.blocks, c.change.ensures, c.alignment_kept-align.ensures)
    (step_resized c.args.self.now.heap c.resize_live.new.heap c.args.self.now.blocks.items c.args.number
    c.in-Some.live c.args.keeps_alignment c.args.size c.in-Ok.address c.requires.sound is c.in-Ok.ensures.ok.given
    c.law_blocks_placed.ensures c.law_blocks_placed-in-Ok.ensures c.resize_live.ensures.apart s good stands power
    (λ grant some is. c.in-Ok.ensures.ok.given.still grant is) c.changed_regions.result c.new_slots.result regions slots) in
    step_told c.changed_regions.new.self c.new_slots.new.self told top s (resizing c.args.keeps_alignment c.args.number c.args.size) _ before)
    (moves_resizing c.args.keeps_alignment c.args.self.now c.args.number c.args.size c.in-Ok.address c.in-Some.live
    c.new_slots.result c.new_slots.new.self is c.resize_live.new.heap c.in-Ok.ensures.ok.resized
    (told_from c.changed_regions.new.self c.new_slots.new.self told c.resize_live.new.heap heap) slots c.in-Ok.ensures.ok.member)
    (λ same. absurd (cc)))

pub returns-in-Err-clause-sound : goal.returns-in-Err-clause-sound
returns-in-Err-clause-sound c =
    laid_denied c.args.self.now.heap c.resize_live.new.heap c.args.self.now.blocks.items
    (asked c.args.size (align_kept c.args.keeps_alignment c.in-Some.live)) c.in-Err.error c.in-Err.ensures.err.refused
    c.requires.sound

pub returns-in-Err-clause-served : goal.returns-in-Err-clause-served
returns-in-Err-clause-served c =
    let is = sym c.live.ensures ∙ c.in-Some.is in
    let align = align_kept c.args.keeps_alignment c.in-Some.live in
    let power = kept_power c.args.keeps_alignment c.in-Some.live (c.requires.sound.lives c.args.number c.in-Some.live is).align in
    let denied = c.in-Err.ensures.err.refused in
    record {
      ok = IfOk-weaker c.refused_by.result _ _ (λ answer given. served_refused given.0 given.2
          (λ top s good stands. step_not_resized c.args.self.now.heap c.resize_live.new.heap c.law_intact.ensures.sound.granularity
          c.args.self.now.blocks.items c.args.number c.args.size c.args.keeps_alignment c.in-Some.live c.requires.sound is s
          good stands power c.in-Err.error denied given.0 given.1)
          (resizing_refused_moves c.args.keeps_alignment c.args.self.now c.args.number c.args.size given.0 None _ c.in-Some.live
          is (left_refused c.args.self.now.heap c.resize_live.new.heap (asked c.args.size align) c.in-Err.error given.0 given.1 denied)
          (none_beside c.args.self.now.heap c.args.size align c.in-Some.live.address
          c.in-Err.error given.0 given.1 denied.refused c.in-Err.ensures.err.tried))
          (seen_denied c.args.self.now.heap c.resize_live.new.heap c.args.self.now.blocks.items (asked c.args.size align) c.in-Err.error denied))
          c.refused_by.ensures.ok;
      err = on_err_weaker c.refused_by.result (λ none. record {
        same = seen_denied c.args.self.now.heap c.resize_live.new.heap c.args.self.now.blocks.items
            (asked c.args.size (align_kept c.args.keeps_alignment c.in-Some.live)) c.in-Err.error denied;
        still = (denied.same.state, denied.same.index);
      }) c.refused_by.ensures.err;
    }

pub returns-in_default-clause-served : goal.returns-in_default-clause-served
returns-in_default-clause-served c = answered (
    let none : live_at c.args.self.now.blocks.items c.args.number ≡ None = search rules in
    served_refused UnknownBlock c.refused.ensures
    (λ top s good stands. step_unknown c.args.self.now.heap c.args.self.now.blocks.items c.args.number c.args.size c.args.keeps_alignment s good stands none)
    (unknown_moves c.args.keeps_alignment c.args.self.now c.args.number c.args.size UnknownBlock None c.args.self.now none refl) (λ top. refl))

pub returns-in_err-reserve-clause-served : goal.returns-in_err-reserve-clause-served
returns-in_err-reserve-clause-served c = unserved c.from_residual.result _ c.from_residual.ensures.1 refl refl

use Rattle.std.proofs.Common.{rules, arith, ◌≤◌, vec_capacity, ◌≡◌, ◌∙◌, ap, refl, sym, subst, length, None}
use Rattle.machine_model.proofs.Shortened.{length_cut}
use Rattle.paged_systems.specs.System.{paged}
use Rattle.kernel_heap.proofs.Laid.{laid_ended}
use Rattle.kernel_heap.proofs.Ended.{free_shortened, step_ended}
use Rattle.machine_model.specs.declared.call.Call.TheVariants.{Free}
use Rattle.machine_model.specs.declared.answer.Refusal.TheVariants.{UnknownBlock}
use Rattle.machine_model.specs.Refusal.{refuse_block}
use Rattle.kernel_heap.specs.Machine.{seen_with}
use Rattle.kernel_heap.specs.Numbered.{live_at}
use Rattle.kernel_heap.proofs.BlockBytes.{unknown_same}
use Rattle.kernel_heap.proofs.Refused.{step_refused}
use Rattle.kernel_heap.proofs.Served.{served, served_refused, unserved, answered}
use Rattle.kernel_heap.specs.Moves.{AreRegionsTold}
use Rattle.kernel_heap.specs.declared.numbered_heap.Marks.{Marks}
use Rattle.kernel_heap.proofs.numbered_heap.NumberedHeap.free.Goals as goal

pub free-requires : goal.free-requires
free-requires c = record { block = (c.in-Some.live.size, (c.requires.sound.lives c.args.number c.in-Some.live (sym c.live.ensures ∙ c.in-Some.is)).block) }

-- there are no more regions than before
pub changed_regions-requires-clause-places : goal.changed_regions-requires-clause-places
changed_regions-requires-clause-places c =
    let short = free_shortened c.args.self.now.heap c.free.new.self c.in-Some.live.address c.free.ensures.freed in
    let few = length_cut (paged c.args.self.now.heap.system).regions (paged c.free.new.self.system).regions short.short.cut in
    let count : c.region_count-count.result ≡ length (paged c.args.self.now.heap.system).regions =
    c.region_count-count.ensures.count ∙ ap (λ system. length (paged system).regions) c.system.ensures in
    let places : c.region_count-count.result ≤ vec_capacity c.reserve.new.self = search rules in
    omega arith

pub returns-clause-sound : goal.returns-clause-sound
returns-clause-sound c =
    let is = sym c.live.ensures ∙ c.in-Some.is in
    rw (c.changed_regions.ensures.heap, c.changed_regions.ensures.blocks, c.end.ensures)
    (laid_ended c.args.self.now.heap c.free.new.self c.args.self.now.blocks.items c.args.number c.in-Some.live c.requires.sound is c.free.ensures.freed)

pub returns-clause-served : goal.returns-clause-served
returns-clause-served c = answered (
    let is = sym c.live.ensures ∙ c.in-Some.is in
    let told = subst (λ (m : Marks). AreRegionsTold (paged c.free.new.self.system) m c.changed_regions.result) c.marks-before.ensures c.changed_regions.ensures.told in
    served tt tt
    (λ top s good stands. rw (c.changed_regions.ensures.heap, c.changed_regions.ensures.blocks, c.end.ensures)
    (step_ended c.args.self.now.heap c.free.new.self c.args.self.now.blocks.items c.args.number c.in-Some.live
    c.requires.sound is c.free.ensures.freed c.law_blocks_placed.ensures c.law_blocks_placed-2.ensures s good stands
    c.changed_regions.result told))
    (rw (is, c.changed_regions.ensures.heap) c.free.ensures.freed) (λ same. absurd (cc)))

pub returns-in_default-clause-served : goal.returns-in_default-clause-served
returns-in_default-clause-served c = answered (
    let none : live_at c.args.self.now.blocks.items c.args.number ≡ None = search rules in
    served_refused UnknownBlock c.refused.ensures
    (λ top s good stands. step_refused (seen_with top c.args.self.now) s (Free c.args.number) UnknownBlock
    (ap refuse_block (unknown_same (seen_with top c.args.self.now) s c.args.number stands none)) good stands) refl (λ top. refl))

pub returns-in_err-reserve-clause-served : goal.returns-in_err-reserve-clause-served
returns-in_err-reserve-clause-served c = unserved c.from_residual.result _ c.from_residual.ensures.1 refl refl

use Rattle.std.proofs.Common.{rules, arith, ◌≤◌, vec_capacity, ◌≡◌, ◌∙◌, ap, refl, subst, length}
use Rattle.paged_systems.specs.System.{paged}
use Rattle.kernel_heap.proofs.Trimmed.{laid_trimmed, few_left, step_trimmed}
use Rattle.kernel_heap.proofs.Served.{served, unserved, answered}
use Rattle.kernel_heap.specs.Moves.{AreRegionsTold}
use Rattle.kernel_heap.specs.declared.numbered_heap.Marks.{Marks}
use Rattle.kernel_heap.proofs.numbered_heap.NumberedHeap.trim.Goals as goal

-- the list has a place for each region that is left
pub changed_regions-regions-requires-clause-places : goal.changed_regions-regions-requires-clause-places
changed_regions-regions-requires-clause-places c =
    let few = few_left c.args.self.now.heap c.trim.new.self c.args.self.now.blocks.items c.args.pad c.trim.result c.requires.sound c.trim.ensures.trimmed in
    let count : c.region_count-count.result ≡ length (paged c.args.self.now.heap.system).regions =
    c.region_count-count.ensures.count ∙ ap (λ system. length (paged system).regions) c.system.ensures in
    let places : c.region_count-count.result ≤ vec_capacity c.reserve.new.self = search rules in
    omega arith

pub returns-clause-sound : goal.returns-clause-sound
returns-clause-sound c =
    rw (c.changed_regions-regions.ensures.heap, c.changed_regions-regions.ensures.blocks)
    (laid_trimmed c.args.self.now.heap c.trim.new.self c.args.self.now.blocks.items c.args.pad c.trim.result c.requires.sound c.trim.ensures.trimmed)

pub returns-clause-served : goal.returns-clause-served
returns-clause-served c = answered (
    let regions = c.changed_regions-regions in
    let told = subst (λ (m : Marks). AreRegionsTold (paged c.trim.new.self.system) m regions.result) c.marks-before.ensures regions.ensures.told in
    served tt tt
    (λ top s good stands. rw (c.is_some.ensures, regions.ensures.heap, regions.ensures.blocks)
    (step_trimmed c.args.self.now.heap c.trim.new.self c.args.self.now.blocks.items c.args.pad c.trim.result
    c.requires.sound c.trim.ensures.trimmed c.law_blocks_placed.ensures c.law_blocks_placed-2.ensures s good stands regions.result told))
    (rw regions.ensures.heap (c.trim.result, c.trim.ensures.trimmed)) (λ same. absurd (cc)))

pub returns-in_err-reserve-clause-served : goal.returns-in_err-reserve-clause-served
returns-in_err-reserve-clause-served c = unserved c.from_residual.result _ c.from_residual.ensures.1 refl refl

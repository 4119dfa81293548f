use Rattle.std.proofs.Common.{◌≡◌, ◌∙◌, [], ap, subst}
use Rattle.dlmalloc.specs.declared.heap.Dlmalloc.{Dlmalloc}
use Rattle.machine_model.specs.Slots.{listed_slots}
use Rattle.paged_systems.specs.Beside.{KeepsHeapWords}
use Rattle.kernel_heap.specs.Moves.{IsKeptBeside}
use Rattle.paged_systems.specs.System.{paged}
use Rattle.paged_systems.specs.declared.paged_system.PagedSystem.{PagedSystem}
use Rattle.kernel_heap.proofs.Laid.{intact_beside, kept_beside}
use Rattle.kernel_heap.proofs.beside.take_slots.Goals as goal

pub invariant_of-heap : goal.invariant_of-heap
invariant_of-heap c =
    intact_beside c.heap.inside.heap c.heap.invariant c.take_slots.new.self
    (subst (λ (s : PagedSystem). KeepsHeapWords (paged s) (paged c.take_slots.new.self)) c.allocator_mut.ensures.value
    c.take_slots.ensures.beside) c.law_rests_outside.ensures

pub returns-clause-slots : goal.returns-clause-slots
returns-clause-slots c =
    subst (λ (s : PagedSystem). c.take_slots.result ≡ listed_slots (paged s).slots)
    (c.allocator_mut.ensures.value ∙ ap (λ (h : Dlmalloc PagedSystem). h.system) c.heap.view_is)
    c.take_slots.ensures.slots

pub returns-clause-others : goal.returns-clause-others
returns-clause-others c =
    subst (λ (s : PagedSystem). paged c.take_slots.new.self ≡ record (paged s) { slots = [] })
    (c.allocator_mut.ensures.value ∙ ap (λ (h : Dlmalloc PagedSystem). h.system) c.heap.view_is)
    c.take_slots.ensures.others

pub returns-clause-kept : goal.returns-clause-kept
returns-clause-kept c =
    subst (λ (h : Dlmalloc PagedSystem). IsKeptBeside h (record c.heap.inside.heap { system = c.take_slots.new.self })) c.heap.view_is
    (kept_beside c.heap.inside.heap c.heap.invariant c.take_slots.new.self
    (subst (λ (s : PagedSystem). KeepsHeapWords (paged s) (paged c.take_slots.new.self)) c.allocator_mut.ensures.value
    c.take_slots.ensures.beside) c.law_rests_outside.ensures c.law_order_rests_outside.ensures)

use Rattle.std.proofs.Common.{subst}
use Rattle.dlmalloc.specs.declared.heap.Dlmalloc.{Dlmalloc}
use Rattle.paged_systems.specs.Beside.{KeepsHeapWords}
use Rattle.kernel_heap.specs.Moves.{IsKeptBeside}
use Rattle.paged_systems.specs.System.{paged}
use Rattle.paged_systems.specs.declared.paged_system.PagedSystem.{PagedSystem}
use Rattle.kernel_heap.proofs.Laid.{intact_beside, kept_beside}
use Rattle.paged_systems_rows.proofs.beside.map_beside.Goals as goal

pub invariant_of-heap : goal.invariant_of-heap
invariant_of-heap c =
    intact_beside c.heap.inside.heap c.heap.invariant c.map.new.self (subst
    (λ (s : PagedSystem). KeepsHeapWords (paged s) (paged c.map.new.self)) c.allocator_mut.ensures.value
    c.map.ensures.beside)
    c.law_rests_outside.ensures

pub returns : goal.returns
returns c = record {
  kept =
      subst (λ (h : Dlmalloc PagedSystem). IsKeptBeside h (record c.heap.inside.heap { system = c.map.new.self })) c.heap.view_is
      (kept_beside c.heap.inside.heap c.heap.invariant c.map.new.self (subst
      (λ (s : PagedSystem). KeepsHeapWords (paged s) (paged c.map.new.self)) c.allocator_mut.ensures.value
      c.map.ensures.beside) c.law_rests_outside.ensures c.law_order_rests_outside.ensures);
}

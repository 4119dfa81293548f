use Rattle.std.proofs.Common.{◌∙◌, ap, subst}
use Rattle.std.specs.Prelude.{IfErr, OnOk}
use Rattle.dlmalloc.specs.declared.heap.Dlmalloc.{Dlmalloc}
use Rattle.paged_systems.specs.Beside.{KeepsHeapWords, IsUserMapped, IsMapDenied}
use Rattle.kernel_heap.specs.Moves.{IsKeptBeside}
use Rattle.paged_systems.specs.System.{paged}
use Rattle.paged_systems.specs.declared.paged_system.PagedSystem.{PagedSystem}
use Rattle.kernel_heap.proofs.Outcomes.{both_ok, both_err}
use Rattle.kernel_heap.proofs.Laid.{intact_beside, kept_beside}
use Rattle.kernel_heap.proofs.beside.map.Goals as goal

pub invariant_of-heap : goal.invariant_of-heap
invariant_of-heap c =
    intact_beside c.heap.inside.heap c.heap.invariant c.map.new.self (subst
    (λ (s : PagedSystem). KeepsHeapWords (paged s) (paged c.map.new.self)) c.allocator_mut.ensures.value
    c.map.ensures.beside)
    c.law_rests_outside.ensures

pub returns-clause-ok : goal.returns-clause-ok
returns-clause-ok c =
    subst (λ (s : PagedSystem). OnOk c.map.result (IsUserMapped (paged s) (paged c.map.new.self) c.args.start c.args.pages c.args.rights))
    (c.allocator_mut.ensures.value ∙ ap (λ (h : Dlmalloc PagedSystem). h.system) c.heap.view_is)
    (both_ok c.map.result _ _ _ c.map.ensures.can c.map.ensures.ok (λ can now. record { can = can; joined = now }))

pub returns-clause-err : goal.returns-clause-err
returns-clause-err c =
    subst (λ (s : PagedSystem). IfErr c.map.result (λ fault. IsMapDenied (paged s) (paged c.map.new.self) c.args.start c.args.pages fault))
    (c.allocator_mut.ensures.value ∙ ap (λ (h : Dlmalloc PagedSystem). h.system) c.heap.view_is)
    (both_err c.map.result _ _ _ c.map.ensures.err c.map.ensures.refused (λ fault same why. record { why = why; same = same }))

pub returns-clause-kept : goal.returns-clause-kept
returns-clause-kept c =
    subst (λ (h : Dlmalloc PagedSystem). IsKeptBeside h (record c.heap.inside.heap { system = c.map.new.self })) c.heap.view_is
    (kept_beside c.heap.inside.heap c.heap.invariant c.map.new.self (subst
    (λ (s : PagedSystem). KeepsHeapWords (paged s) (paged c.map.new.self)) c.allocator_mut.ensures.value
    c.map.ensures.beside)
    c.law_rests_outside.ensures c.law_order_rests_outside.ensures)

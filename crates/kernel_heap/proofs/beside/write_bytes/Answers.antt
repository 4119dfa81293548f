use Rattle.std.proofs.Common.{◌∙◌, ap, length, refl, subst, sym}
use Rattle.dlmalloc.specs.declared.heap.Dlmalloc.{Dlmalloc}
use Rattle.sound_heap.specs.Heap.{AreInBlock}
use Rattle.kernel_heap.specs.Heap.{heap_state}
use Rattle.kernel_heap.specs.Moves.{IsKeptBeside}
use Rattle.paged_systems.specs.System.{paged}
use Rattle.paged_systems.specs.Words.{grants_of}
use Rattle.paged_systems.specs.Written.{AreHeapBytes, AreBytesWritten}
use Rattle.paged_systems.specs.declared.paged_system.PagedSystem.{PagedSystem}
use Rattle.kernel_heap.proofs.BlockBytes.{block_inside, only_blocks}
use Rattle.kernel_heap.proofs.Laid.{intact_outside, kept_outside}
use Rattle.kernel_heap.proofs.beside.write_bytes.Goals as goal

pub write_bytes-requires : goal.write_bytes-requires
write_bytes-requires c =
    let inside = subst (λ (h : Dlmalloc PagedSystem). AreInBlock (heap_state h) c.args.address (length c.args.bytes.now))
    (sym c.heap.view_is) c.requires.inside in
    subst (λ (s : PagedSystem). AreHeapBytes (paged s) c.args.address (length c.args.bytes.now)) (sym c.allocator_mut.ensures.value)
    (block_inside c.heap.inside.heap c.law_blocks_placed.ensures c.args.address (length c.args.bytes.now) inside)

pub invariant_of-heap : goal.invariant_of-heap
invariant_of-heap c =
    let inside = subst (λ (h : Dlmalloc PagedSystem). AreInBlock (heap_state h) c.args.address (length c.args.bytes.now))
    (sym c.heap.view_is) c.requires.inside in
    let written = subst (λ (s : PagedSystem). AreBytesWritten (paged s) (paged c.write_bytes.new.self) c.args.address
    c.args.bytes.now (length c.args.bytes.now)) c.allocator_mut.ensures.value c.write_bytes.ensures in
    intact_outside c.heap.inside.heap c.heap.invariant c.write_bytes.new.self (ap grants_of written.still.others)
    (only_blocks c.heap.inside.heap c.law_blocks_placed.ensures c.args.address (length c.args.bytes.now) inside
    c.write_bytes.new.self c.args.bytes.now refl written) c.law_rests_outside.ensures

pub returns-clause-written : goal.returns-clause-written
returns-clause-written c =
    subst (λ (s : PagedSystem). AreBytesWritten (paged s) (paged c.write_bytes.new.self) c.args.address c.args.bytes.now (length c.args.bytes.now))
    (c.allocator_mut.ensures.value ∙ ap (λ (h : Dlmalloc PagedSystem). h.system) c.heap.view_is) c.write_bytes.ensures

pub returns-clause-kept : goal.returns-clause-kept
returns-clause-kept c =
    let inside = subst (λ (h : Dlmalloc PagedSystem). AreInBlock (heap_state h) c.args.address (length c.args.bytes.now))
    (sym c.heap.view_is) c.requires.inside in
    let written = subst (λ (s : PagedSystem). AreBytesWritten (paged s) (paged c.write_bytes.new.self) c.args.address
    c.args.bytes.now (length c.args.bytes.now)) c.allocator_mut.ensures.value c.write_bytes.ensures in
    subst (λ (h : Dlmalloc PagedSystem). IsKeptBeside h (record c.heap.inside.heap { system = c.write_bytes.new.self })) c.heap.view_is
    (kept_outside c.heap.inside.heap c.heap.invariant c.write_bytes.new.self (ap grants_of written.still.others)
    (only_blocks c.heap.inside.heap c.law_blocks_placed.ensures c.args.address (length c.args.bytes.now) inside
    c.write_bytes.new.self c.args.bytes.now refl written) c.law_rests_outside.ensures c.law_order_rests_outside.ensures)

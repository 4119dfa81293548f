-- The extents of a machine's heap.
use Rattle.std.specs.Prelude.{List}
use Rattle.dlmalloc.specs.Served.{IsListed}
use Rattle.dlmalloc_chunks.specs.declared.extent.Extent.{Extent}
use Rattle.kernel_heap.specs.declared.machine.Machine.{Machine}
use Rattle.kernel_heap.specs.Heap.{word}

-- Each chunk of the machine's heap, by ascending address, as the heap itself has it: in use, free in a bin, the victim, the top, the
-- record of a segment, or the foot of the top.
abbrev pub AreTheHeapsExtents : Machine → List Extent → Type 0
AreTheHeapsExtents machine extents = IsListed word machine.heap.heap extents

-- What contracts see of a machine and of its numbered heap.
use Rattle.std.specs.Prelude.{ℕ, List, Option}
use Rattle.dlmalloc.specs.State.{HeapState}
use Rattle.dlmalloc.specs.declared.heap.Dlmalloc.{Dlmalloc}
use Rattle.machine_model.specs.declared.live.Live.{Live}
use Rattle.machine_model.specs.Machine.{Seen}
use Rattle.x86_registers.specs.Cr3.{root_of}
use Rattle.paged_systems.specs.System.{paged}
use Rattle.kernel_heap.specs.Heap.{heap_state}
use Rattle.paged_systems.specs.declared.paged_system.PagedSystem.{PagedSystem}
use Rattle.kernel_heap.specs.declared.numbered_heap.NumberedHeap.{NumberedHeap}
use Rattle.kernel_heap.specs.Parts.{Parts}

-- the system that a numbered heap runs over
abbrev pub system_of : NumberedHeap → PagedSystem
system_of numbered = numbered.heap.system

-- what is seen of a machine with this frame in CR3, this heap and these blocks
abbrev pub seen_of : ℕ → Dlmalloc PagedSystem → List (Option Live) → Seen
seen_of top heap blocks = record { paged = paged heap.system; granularity = heap.granularity; blocks = blocks; top = top }

-- with this numbered heap
abbrev pub seen_with : ℕ → NumberedHeap → Seen
seen_with top numbered = seen_of top numbered.heap numbered.blocks.items

-- what is seen of a machine, through the root that CR3 names
abbrev pub seen : Parts → Seen
seen machine = seen_with (root_of machine.cpu.cr3) machine.heap

-- the state of the heap
abbrev pub heap_of : NumberedHeap → HeapState
heap_of numbered = heap_state numbered.heap

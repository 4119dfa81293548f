use Rattle.std.proofs.Common.{◌-◌, ◌≤◌}
use Rattle.heap_memory.specs.Words.{AreCopied}
use Rattle.machine_model.specs.Machine.{OnlyHeapBytesChange}
use Rattle.mapped_regions.specs.Mapped.{word_reached}
use Rattle.paged_systems.specs.System.{paged}
use Rattle.paged_systems.specs.Words.{grants_of}
use Rattle.paged_systems.proofs.paged_system.PagedSystem.copy_words.Given as goal

abbrev pub invariant-loop-done : goal.invariant-loop-done
invariant-loop-done l =
    OnlyHeapBytesChange (paged l.fn.self) (paged l.self) × AreCopied (grants_of (paged l.fn.self))
    (word_reached (paged l.fn.self)) l.from l.to l.done (word_reached (paged l.self)) × (l.done ≤ l.count)

abbrev pub decreases-loop-done : goal.decreases-loop-done
decreases-loop-done l = l.count - l.done

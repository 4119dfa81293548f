-- A heap over a paged system, and what its calls leave.
use Rattle.std.specs.Prelude.{◌≡◌, ℕ, Bool, true, List}
use Rattle.heap_memory.specs.declared.grant.Grant.{Grant}
use Rattle.heap_memory.specs.declared.grant.GrantFault.{GrantFault}
use Rattle.heap_memory.specs.Events.{Event}
use Rattle.dlmalloc.specs.State.{HeapState}
use Rattle.dlmalloc.specs.Heap.{state_of}
use Rattle.dlmalloc.specs.declared.heap.Dlmalloc.{Dlmalloc}
use Rattle.paged_systems.specs.Layout.{MayDeny}
use Rattle.paged_systems.specs.Words.{grants_of}
use Rattle.mapped_regions.specs.Mapped.{word_reached}
use Rattle.paged_systems.specs.Follows.{Follows}
use Rattle.paged_systems.specs.System.{paged}
use Rattle.paged_systems.specs.declared.paged_system.PagedSystem.{PagedSystem}

-- a paged system, as a heap over it sees it
abbrev pub regions : PagedSystem → List Grant
regions system = grants_of (paged system)

-- the word that a walk of the tables reaches at an address
abbrev pub word : PagedSystem → ℕ → ℕ
word system at = word_reached (paged system) at

abbrev pub follows : PagedSystem → List Event → PagedSystem → Type 0
follows old events new = Follows (paged old) events (paged new)

abbrev pub denies : PagedSystem → ℕ → GrantFault → Type 0
denies system size fault = MayDeny (paged system) size fault

abbrev pub zeros : PagedSystem → Bool
zeros system = true

abbrev pub refuses : PagedSystem → PagedSystem → Type 0
refuses old new = paged new ≡ paged old

abbrev pub heap_state : Dlmalloc PagedSystem → HeapState
heap_state heap = state_of word heap

-- How the heap moves in a step.
use Rattle.std.specs.Prelude.{◌≡◌, ◌≢◌, ℕ, Bool, true, false, List, [], Option, Some, None, MatchOption, if◌then◌else◌}
use Rattle.dlmalloc.specs.Requested.{asked, IsMemberServed}
use Rattle.dlmalloc.specs.State.{countdown_from}
use Rattle.dlmalloc.specs.AfterFree.{IsFreed}
use Rattle.dlmalloc.specs.Shortened.{IsTrimmed}
use Rattle.dlmalloc.specs.Order.{KeepsIndex}
use Rattle.dlmalloc.specs.Served.{IsRefusedWith, IsListed}
use Rattle.dlmalloc.specs.declared.heap.Dlmalloc.{Dlmalloc}
use Rattle.sound_heap.specs.Heap.{fresh_heap}
use Rattle.machine_model.specs.Slots.{listed_slots}
use Rattle.machine_model.specs.Machine.{Paged, AreLargeSlots}
use Rattle.machine_model.specs.declared.call.Call.{Call}
use Rattle.machine_model.specs.declared.call.Call.TheVariants.{Malloc, Calloc, Realloc, CRealloc, Free, Map, Trim, SetRate, SetGranularity, Reset, Extents}
use Rattle.machine_model.specs.declared.answer.Reply.{Reply}
use Rattle.machine_model.specs.declared.answer.Reply.TheVariants.{Block as Placed, Done, Trimmed, Accepted, Released, Extents as Listed, Refused}
use Rattle.machine_model.specs.declared.answer.Refusal.{Refusal}
use Rattle.machine_model.specs.declared.region.Region.{Region}
use Rattle.paged_systems.specs.System.{paged, pageless_frames}
use Rattle.paged_systems.specs.Words.{heap_regions}
use Rattle.kernel_heap.specs.Heap.{regions, word, follows, denies, refuses, heap_state}
use Rattle.paged_systems.specs.declared.paged_system.PagedSystem.{PagedSystem}
use Rattle.kernel_heap.specs.declared.numbered_heap.Marks.{Marks}
use Rattle.kernel_heap.specs.declared.numbered_heap.NumberedHeap.{NumberedHeap}
use Rattle.kernel_heap.specs.Machine.{heap_of, system_of}
use Rattle.kernel_heap.specs.Numbered.{live_at}
use Rattle.kernel_heap.specs.Refusing.{error_of, HasNoneFor, HasNoneBeside}
use Rattle.kernel_heap.specs.Blocks.{IsServedFor, IsResizedTo}

-- A heap stays in its state, and each size of its bins keeps its chunks, in their order.
abbrev pub KeepsStateAndBins : Dlmalloc PagedSystem → Dlmalloc PagedSystem → Type 0
KeepsStateAndBins old new = (heap_state new ≡ heap_state old) × KeepsIndex regions word old new

-- A heap once the slots of the region that joined last are told: its system keeps them no more, and nothing else is different.
pub record IsToldFrom (before now : Dlmalloc PagedSystem) : Type 0 where
  pub system : paged now.system ≡ record (paged before.system) { slots = (paged now.system).slots }
  pub rest : now ≡ record before { system = now.system }

-- The slots that a call tells: none if no region joined, and else those of the new region that it mapped as large pages, also where
-- the call cut one again.
pub record AreSlotsTold (old new : Dlmalloc PagedSystem) (large : Option (List ℕ)) : Type 0 where
  pub none : (paged new.system).joins ≡ (paged old.system).joins → large ≡ None
  pub joined : ((paged new.system).joins ≡ (paged old.system).joins → ⊥) → large ≡ listed_slots (paged new.system).slots

-- by what it is seen whether regions come or go after this moment
abbrev pub marks_of : Paged → Marks
marks_of p = record { joins = p.joins; pageless = pageless_frames p }

-- The regions that a call lists: none if none came or went since the marks, and else all of the heap.
pub record AreRegionsTold (p : Paged) (before : Marks) (told : Option (List Region)) : Type 0 where
  pub none : p.joins ≡ before.joins → pageless_frames p ≡ before.pageless → told ≡ None
  pub changed : (p.joins ≡ before.joins → pageless_frames p ≡ before.pageless → ⊥) → told ≡ Some (heap_regions p.regions)

-- The slots of a region that joined since the marks were told: the system keeps them no more. Where none joined, nothing was done.
pub record HasToldSlots (old : NumberedHeap) (before : Marks) (told : Option (List ℕ)) (new : NumberedHeap) : Type 0 where
  pub none : (paged (system_of old)).joins ≡ before.joins → told ≡ None × new ≡ old
  pub slots : ((paged (system_of old)).joins ≡ before.joins → ⊥) → told ≡ listed_slots (paged (system_of old)).slots
  pub taken : ((paged (system_of old)).joins ≡ before.joins → ⊥) → paged (system_of new) ≡ record (paged (system_of old)) { slots = [] }
  pub rest : new.heap ≡ record old.heap { system = new.heap.system }
  pub blocks : new.blocks ≡ old.blocks
  pub still : KeepsStateAndBins old.heap new.heap

-- The slots that a map tells: exactly those among its pages that one entry maps now, by ascending address, or none if there are
-- none. No page of them was mapped before, so this call made each of them large.
pub record AreMapSlotsTold (p : Paged) (start pages : ℕ) (large : Option (List ℕ)) : Type 0 where
  pub slots : List ℕ
  pub exactly : AreLargeSlots p.words p.root start pages slots
  pub listed : large ≡ listed_slots slots

-- Something was done to the system of a heap, beside it: the heap's regions stay, and so it stays in its state.
pub record IsKeptBeside (old new : Dlmalloc PagedSystem) : Type 0 where
  pub rest : new ≡ record old { system = new.system }
  pub regions_same : regions new.system ≡ regions old.system
  pub still : KeepsStateAndBins old new

-- A refused call leaves the heap: the heap refused it `size` bytes, or was not asked.
abbrev pub IsLeftByRefusal : Dlmalloc PagedSystem → ℕ → Refusal → Dlmalloc PagedSystem → Type 0
IsLeftByRefusal old size why new = MatchOption (error_of why) (new ≡ old) (λ error. IsRefusedWith regions word follows refuses denies old size error new)

-- How the heap moves in a step, as the heap itself tells it: a block is handed out, gets another size or is freed, memory that
-- none needs goes back, a setting is another, the heap is a new one with the settings in force, and nothing else changes its state.
-- A binned chunk for a block is the one that the bins' order names. Slots are told if a block is handed out, and by a map. Room is
-- wanting only if the heap itself has none. The extents that are listed are the heap's.
abbrev pub HeapMoves : NumberedHeap → Call → Reply → Option (List ℕ) → NumberedHeap → Type 0
HeapMoves old (Malloc size align) (Placed number address) large new =
    (heap : Dlmalloc PagedSystem) × IsServedFor false old.heap size align address heap × IsToldFrom heap new.heap × AreSlotsTold old.heap heap large × IsMemberServed regions word old.heap size align address
HeapMoves old (Calloc size align) (Placed number address) large new =
    (heap : Dlmalloc PagedSystem) × IsServedFor true old.heap size align address heap × IsToldFrom heap new.heap × AreSlotsTold old.heap heap large × IsMemberServed regions word old.heap size align address
HeapMoves old (Realloc number size) (Placed given address) large new =
    MatchOption (live_at old.blocks.items number) ⊥ (λ live. (heap : Dlmalloc PagedSystem) × IsResizedTo true old.heap live size address heap × IsToldFrom heap new.heap × AreSlotsTold old.heap heap large
    × (address ≢ live.address → IsMemberServed regions word old.heap size live.align address))
HeapMoves old (CRealloc number size) (Placed given address) large new =
    MatchOption (live_at old.blocks.items number) ⊥ (λ live. (heap : Dlmalloc PagedSystem) × IsResizedTo false old.heap live size address heap × IsToldFrom heap new.heap × AreSlotsTold old.heap heap large
    × (address ≢ live.address → IsMemberServed regions word old.heap size 16 address))
HeapMoves old (Malloc size align) (Refused why) large new = IsLeftByRefusal old.heap (asked size align) why new.heap × HasNoneFor (heap_of old) size align why
HeapMoves old (Calloc size align) (Refused why) large new = IsLeftByRefusal old.heap (asked size align) why new.heap × HasNoneFor (heap_of old) size align why
HeapMoves old (Realloc number size) (Refused why) large new =
    MatchOption (live_at old.blocks.items number) (new.heap ≡ old.heap) (λ live. IsLeftByRefusal old.heap (asked size live.align) why new.heap × HasNoneBeside (heap_of old) live.address size live.align why)
HeapMoves old (CRealloc number size) (Refused why) large new =
    MatchOption (live_at old.blocks.items number) (new.heap ≡ old.heap) (λ live. IsLeftByRefusal old.heap size why new.heap × HasNoneBeside (heap_of old) live.address size 16 why)
HeapMoves old (Free number) Done large new = MatchOption (live_at old.blocks.items number) ⊥ (λ live. IsFreed regions word follows true true 4096 old.heap live.address new.heap)
HeapMoves old (Free number) (Refused why) large new = new.heap ≡ old.heap
HeapMoves old (Map start pages rights) Done large new = KeepsStateAndBins old.heap new.heap × AreMapSlotsTold (paged new.heap.system) start pages large
HeapMoves old (Trim pad) (Trimmed released) large new = (gave : Bool) × IsTrimmed regions word follows true true 4096 old.heap pad gave new.heap
HeapMoves old (SetRate rate) Done large new = (heap_of new ≡ record (heap_of old) { rate = rate; countdown = countdown_from rate }) × KeepsIndex regions word old.heap new.heap
HeapMoves old (SetGranularity granularity) (Accepted accepted) large new =
    (heap_of new ≡ record (heap_of old) { granularity = if accepted then granularity else (heap_of old).granularity }) × KeepsIndex regions word old.heap new.heap
HeapMoves old Reset (Released bytes) large new = heap_of new ≡ fresh_heap (heap_of old).granularity (heap_of old).rate
HeapMoves old Extents (Listed list) large new = (new.heap ≡ old.heap) × IsListed word old.heap list
HeapMoves old call reply large new = KeepsStateAndBins old.heap new.heap

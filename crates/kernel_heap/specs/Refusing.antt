-- Why a call is refused, and what the heap then lacks.
use Rattle.std.specs.Prelude.{◌≡◌, ℕ, ◌-◌, ◌≤◌, Bool, true, false, Option, Some, None, IsTrue}
use Rattle.dlmalloc.specs.Choice.{chosen}
use Rattle.dlmalloc.specs.Requested.{asked}
use Rattle.dlmalloc.specs.State.{HeapState}
use Rattle.dlmalloc_chunks.specs.Request.{padded}
use Rattle.dlmalloc.specs.Resized.{in_place}
use Rattle.dlmalloc.specs.declared.malloc_error.MallocError.{MallocError}
use Rattle.dlmalloc.specs.declared.malloc_error.MallocError.TheVariants.{TooLarge, System}
use Rattle.heap_memory.specs.declared.grant.GrantFault.TheVariants.{NoSpace, NoFrames, OutOfMemory}
use Rattle.machine_model.specs.declared.answer.Answer.{Answer}
use Rattle.machine_model.specs.declared.answer.Reply.TheVariants.{Refused}
use Rattle.machine_model.specs.declared.answer.Refusal.{Refusal}
use Rattle.machine_model.specs.declared.answer.Refusal.TheVariants.{TooLarge as IsTooLarge, NoSpace as HasNoSpace, NoFrames as HasNoFrames, BadRange, HeapRegion, Overlap, UnknownRegion}
use Rattle.mapped_regions.specs.declared.map_fault.MapFault.{MapFault}
use Rattle.mapped_regions.specs.declared.map_fault.MapFault.TheVariants as Mapping
use Rattle.mapped_regions.specs.declared.map_fault.UnmapFault.{UnmapFault}
use Rattle.mapped_regions.specs.declared.map_fault.UnmapFault.TheVariants as Unmapping

-- the refusal that the heap gives; want of memory is none
abbrev pub refusal_of : MallocError → Option Refusal
refusal_of TooLarge = Some IsTooLarge
refusal_of (System NoSpace) = Some HasNoSpace
refusal_of (System NoFrames) = Some HasNoFrames
refusal_of (System OutOfMemory) = None

-- the heap's error that a refusal tells of, if it is one of the heap's
abbrev pub error_of : Refusal → Option MallocError
error_of IsTooLarge = Some TooLarge
error_of HasNoSpace = Some (System NoSpace)
error_of HasNoFrames = Some (System NoFrames)
error_of why = None

-- whether a refusal is for want of room: of addresses, or of frames
abbrev pub is_for_room : Refusal → Bool
is_for_room HasNoSpace = true
is_for_room HasNoFrames = true
is_for_room why = false

-- a request is refused for want of room only if no extent of the heap is chosen for it
abbrev pub HasNoneFor : HeapState → ℕ → ℕ → Refusal → Type 0
HasNoneFor heap size align why = IsTrue (is_for_room why) → chosen heap (padded (asked size align)) ≡ None

-- So a block is refused another size: no extent is chosen for it, and up to alignment 16 it cannot get that size where it stands.
abbrev pub HasNoneBeside : HeapState → ℕ → ℕ → ℕ → Refusal → Type 0
HasNoneBeside heap from size align why = HasNoneFor heap size align why × (IsTrue (is_for_room why) → align ≤ 16 → in_place heap (from - 16) (padded size) ≡ None)

-- an answer is a refusal
abbrev pub IsRefusal : Option Refusal → Answer → Type 0
IsRefusal why answer = (refusal : Refusal) × (why ≡ Some refusal) × (answer ≡ record { reply = Refused refusal; regions = None; large = None })

-- it is the one that the heap gave
abbrev pub IsRefusalOf : MallocError → Answer → Type 0
IsRefusalOf error answer = IsRefusal (refusal_of error) answer

-- the refusal of a map that is not made; want of memory is none
abbrev pub map_refusal : MapFault → Option Refusal
map_refusal Mapping.BadRange = Some BadRange
map_refusal Mapping.HeapRegion = Some HeapRegion
map_refusal Mapping.Overlap = Some Overlap
map_refusal Mapping.NoFrames = Some HasNoFrames
map_refusal Mapping.OutOfMemory = None

-- the refusal of an unmap that is not made
abbrev pub unmap_refusal : UnmapFault → Refusal
unmap_refusal Unmapping.BadRange = BadRange
unmap_refusal Unmapping.HeapRegion = HeapRegion
unmap_refusal Unmapping.UnknownRegion = UnknownRegion

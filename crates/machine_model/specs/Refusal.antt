-- When a call is refused.
use Rattle.std.specs.Prelude.{ℕ, ◌+◌, ◌-◌, ◌*◌, ◌/◌, ◌%◌, ◌^◌, ◌<◌, Bool, ◌&&◌, ◌==◌, nat_lt, nat_le, length, option_map, Option, Some, None, if◌then◌else◌}
use Rattle.std.specs.Int.{is_power_of_two}
use Rattle.std.specs.List.{list_any}
use Rattle.std.specs.Option.{option_or}
use Rattle.machine_model.specs.declared.call.Call.{Call}
use Rattle.machine_model.specs.declared.call.Call.TheVariants.{Malloc, Calloc, Realloc, CRealloc, Free, Write, Read, Map, Unmap, Probe, Trim, SetRate, SetGranularity, Reset, Extents}
use Rattle.machine_model.specs.declared.answer.Refusal.{Refusal}
use Rattle.machine_model.specs.declared.answer.Refusal.TheVariants.{BadAlign, TooLarge, NoSpace, NoFrames, UnknownBlock, OutOfBlock, BadRange, HeapRegion, Overlap, UnknownRegion, NotCanonical}
use Rattle.paging_core.specs.Address.{is_canonical}
use Rattle.dlmalloc_chunks.specs.Request.{limit, enlarged, wanted}
use Rattle.machine_model.specs.Request.{pages_for}
use Rattle.machine_model.specs.State.{State, Block, block_at}
use Rattle.machine_model.specs.Tables.{missing, free_frames}
use Rattle.machine_model.specs.Place.{meets_any, is_at, all_regions, IsPlace, HasNoPlace}
use Rattle.machine_model.specs.Room.{HasRoom}

-- sizes that no heap serves; above 16 the alignment counts too
abbrev pub is_too_large : ℕ → ℕ → ℕ → Bool
is_too_large granularity size align = if nat_le align 16 then nat_le (limit granularity) size else nat_le (limit granularity) (enlarged size align)

-- why no block of a size at an alignment is handed out, whatever is free
abbrev pub refuse_request : ℕ → ℕ → ℕ → Option Refusal
refuse_request granularity size align = if is_power_of_two align then (if is_too_large granularity size align then Some TooLarge else None) else Some BadAlign

-- the alignment that a block has with another size: its own, or the least
abbrev pub own_align : Block → ℕ
own_align block = block.align

abbrev pub least_align : Block → ℕ
least_align block = 16

-- why a block gets no other size at an alignment, whatever is free
abbrev pub refuse_resizing : ℕ → ℕ → (Block → ℕ) → Option Block → Option Refusal
refuse_resizing granularity size align None = Some UnknownBlock
refuse_resizing granularity size align (Some block) = if is_too_large granularity size (align block) then Some TooLarge else None

-- why a block cannot be freed, if it cannot
abbrev pub refuse_block : Option Block → Option Refusal
refuse_block None = Some UnknownBlock
refuse_block (Some block) = None

-- why bytes of a block are out of reach, if they are; the sum is a whole number, and never wraps
abbrev pub refuse_bytes : Option Block → ℕ → ℕ → Option Refusal
refuse_bytes None offset count = Some UnknownBlock
refuse_bytes (Some block) offset count = if nat_lt block.size (offset + count) then Some OutOfBlock else None

-- whether these are whole pages, at least one, and all in one canonical half
abbrev pub is_page_range : ℕ → ℕ → Bool
is_page_range start pages = start % 4096 == 0 && (nat_lt 0 pages && (is_canonical start && (start + 4096 * pages - 1) / 2 ^ 47 == start / 2 ^ 47))

-- why a range of pages is not the user's to map and unmap, if it is not
abbrev pub refuse_range : State → ℕ → ℕ → Option Refusal
refuse_range s start pages = if is_page_range start pages then (if meets_any start pages s.heap then Some HeapRegion else None) else Some BadRange

-- why no region of the user is mapped there
abbrev pub refuse_map : State → ℕ → ℕ → Option Refusal
refuse_map s start pages =
    if meets_any start pages s.users then Some Overlap else
    if nat_lt (free_frames s) (pages + missing s.tables start pages) then Some NoFrames else None

-- why none is unmapped there: only a whole region is
abbrev pub refuse_unmap : State → ℕ → ℕ → Option Refusal
refuse_unmap s start pages = if list_any (is_at start pages) s.users then None else Some UnknownRegion

-- the refusal that must come, if any: it depends only on the call and the state
abbrev pub must_refuse : State → Call → Option Refusal
must_refuse s (Malloc size align) = refuse_request s.granularity size align
must_refuse s (Calloc size align) = refuse_request s.granularity size align
must_refuse s (Realloc number size) = refuse_resizing s.granularity size own_align (block_at s.blocks number)
must_refuse s (CRealloc number size) = refuse_resizing s.granularity size least_align (block_at s.blocks number)
must_refuse s (Free number) = refuse_block (block_at s.blocks number)
must_refuse s (Write number offset bytes) = refuse_bytes (block_at s.blocks number) offset (length bytes)
must_refuse s (Read number offset count) = refuse_bytes (block_at s.blocks number) offset count
must_refuse s (Map start pages rights) = option_or (refuse_range s start pages) (refuse_map s start pages)
must_refuse s (Unmap start pages) = option_or (refuse_range s start pages) (refuse_unmap s start pages)
must_refuse s (Probe at access user) = if is_canonical at then None else Some NotCanonical
must_refuse s (Trim pad) = None
must_refuse s (SetRate rate) = None
must_refuse s (SetGranularity granularity) = None
must_refuse s Reset = None
must_refuse s Extents = None

-- the chunk that a heap call needs, if it is one
abbrev pub wanted_by : State → Call → Option ℕ
wanted_by s (Malloc size align) = Some (wanted size align)
wanted_by s (Calloc size align) = Some (wanted size align)
wanted_by s (Realloc number size) = option_map (λ block. wanted size (own_align block)) (block_at s.blocks number)
wanted_by s (CRealloc number size) = option_map (λ block. wanted size (least_align block)) (block_at s.blocks number)
wanted_by s (Free number) = None
wanted_by s (Write number offset bytes) = None
wanted_by s (Read number offset count) = None
wanted_by s (Map start pages rights) = None
wanted_by s (Unmap start pages) = None
wanted_by s (Probe at access user) = None
wanted_by s (Trim pad) = None
wanted_by s (SetRate rate) = None
wanted_by s (SetGranularity granularity) = None
wanted_by s Reset = None
wanted_by s Extents = None

-- a heap call that has no room may be refused if its pages have no place, or if frames are lacking at their place
abbrev pub MayRefuse : State → Option ℕ → Refusal → Type 0
MayRefuse s (Some n) NoSpace = (HasRoom s n → ⊥) × HasNoPlace s.base s.pages (all_regions s) (pages_for n s.granularity)
MayRefuse s (Some n) NoFrames = (HasRoom s n → ⊥) × ((address : ℕ) × IsPlace s.base s.pages (all_regions s) (pages_for n s.granularity) address × (free_frames s < pages_for n s.granularity + missing s.tables address (pages_for n s.granularity)))
MayRefuse s (Some n) BadAlign = ⊥
MayRefuse s (Some n) TooLarge = ⊥
MayRefuse s (Some n) UnknownBlock = ⊥
MayRefuse s (Some n) OutOfBlock = ⊥
MayRefuse s (Some n) BadRange = ⊥
MayRefuse s (Some n) HeapRegion = ⊥
MayRefuse s (Some n) Overlap = ⊥
MayRefuse s (Some n) UnknownRegion = ⊥
MayRefuse s (Some n) NotCanonical = ⊥
MayRefuse s None refusal = ⊥

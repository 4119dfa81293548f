-- Why a page is not mapped, or not changed: the first of the causes that holds.
use Rattle.std.specs.Prelude.{ℕ, ◌+◌, ◌-◌, ◌*◌, ◌/◌, ◌≡◌, ◌<◌, ◌≤◌, ◌&&◌, Bool, false, not, nat_lt, is_some, is_none, if◌then◌else◌, Option, Some, None}
use Rattle.paging_core.specs.Area.{in_area, area_meets}
use Rattle.paging_core.specs.Large.{slot_of, missing_above, IsSlotEmpty}
use Rattle.paging_core.specs.Missing.{missing_of}
use Rattle.paging_core.specs.Pool.{free_count}
use Rattle.paging_core.specs.Walk.{large_of, reach}
use Rattle.kernel_tables.specs.TableState.{TableState, leads, limit_of, misses, gives_area, sees_area}
use Rattle.kernel_tables.specs.declared.faults.MapFault.{MapFault}
use Rattle.kernel_tables.specs.declared.faults.MapFault.TheVariants.{IsMapped, HasTable, PastLimit, InArea, NoFrames}
use Rattle.kernel_tables.specs.declared.faults.EntryFault.{EntryFault}
use Rattle.kernel_tables.specs.declared.faults.EntryFault.TheVariants as Entry

-- the page is mapped; the frame is not below the limit, or is one of the area, into which the page may not lead; the free
-- frames are too few for the tables that the page misses: the fault says how many are wanting
abbrev pub map_fault : TableState → ℕ → ℕ → Bool → Option MapFault
map_fault state page frame user =
    (if is_some (leads state page) then Some IsMapped
    else if not (nat_lt frame (limit_of state)) then Some PastLimit
    else if not (sees_area state user) && in_area state.area frame then Some InArea
    else if nat_lt (free_count state.free) (missing_of state.words state.root page 1)
    then Some (NoFrames (missing_of state.words state.root page 1 - free_count state.free))
    else None)

-- Nothing hinders that the page is mapped to the frame, for users or not.
pub record IsPageMappable (state : TableState) (page frame : ℕ) (user : Bool) : Type 0 where
  pub unmapped : leads state page ≡ None
  pub below : frame < limit_of state
  pub outside : sees_area state user ≡ false → in_area state.area frame ≡ false
  pub room : misses state page ≤ free_count state.free

-- the slot is mapped by one entry, or has a table; one of the 512 frames is not below the limit, or is one of the area, into
-- which the pages may not lead; the free frames are too few for the tables that the slot misses above it: the fault says how many
-- are wanting
abbrev pub map_large_fault : TableState → ℕ → ℕ → Bool → Option MapFault
map_large_fault state page frame user =
    (if is_some (large_of state.words state.root (slot_of page)) then Some IsMapped
    else if is_some (reach state.words state.root 3 (slot_of page)) then Some HasTable
    else if not (nat_lt (512 * frame + 511) (limit_of state)) then Some PastLimit
    else if not (sees_area state user) && area_meets state.area (512 * frame) 512 then Some InArea
    else if nat_lt (free_count state.free) (missing_above state.words state.root page)
    then Some (NoFrames (missing_above state.words state.root page - free_count state.free))
    else None)

-- Nothing hinders that the large page is mapped to the frames, for users or not.
pub record IsLargeMappable (state : TableState) (page frame : ℕ) (user : Bool) : Type 0 where
  pub empty : IsSlotEmpty state.words state.root page
  pub below : 512 * frame + 511 < limit_of state
  pub outside : sees_area state user ≡ false → area_meets state.area (512 * frame) 512 ≡ false
  pub room : missing_above state.words state.root page ≤ free_count state.free

-- how many frames it takes to give the page an entry of its own: one if it is part of a large page
abbrev pub split_of : TableState → ℕ → ℕ
split_of state page = (if is_some (large_of state.words state.root (slot_of (page / 512))) then 1 else 0)

-- the page is not mapped; it is part of a large page, and no frame is free for the table that splits it
abbrev pub entry_fault : TableState → ℕ → Option EntryFault
entry_fault state page =
    (if is_none (leads state page) then Some Entry.NotMapped
    else if nat_lt (free_count state.free) (split_of state page) then Some Entry.NoFrames
    else None)

-- the page is not mapped; users would reach the area by it; it is part of a large page, and no frame is free for the table that
-- splits it
abbrev pub protect_fault : TableState → ℕ → Bool → Option EntryFault
protect_fault state page user =
    (if is_none (leads state page) then Some Entry.NotMapped
    else if gives_area state page user then Some Entry.InArea
    else if nat_lt (free_count state.free) (split_of state page) then Some Entry.NoFrames
    else None)

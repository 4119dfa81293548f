-- What a paged system keeps, beside what its state says.
use Rattle.std.specs.Prelude.{◌≡◌, ◌≢◌, ℕ, ◌+◌, ◌*◌, ◌/◌, ◌%◌, ◌^◌, ◌<◌, ◌≤◌, List, [], ◌∷◌, None}
use Rattle.paging_core.specs.Memory.{frame_count}
use Rattle.paging_core.specs.Pool.{free_count}
use Rattle.paging_core.specs.Walk.{reach, large_of, walk_of}
use Rattle.paging_core.specs.Missing.{missing_of}
use Rattle.heap_memory.specs.declared.grant.Grant.{Grant}
use Rattle.heap_memory.specs.declared.grant.GrantFault.{GrantFault}
use Rattle.heap_memory.specs.declared.grant.GrantFault.TheVariants.{NoSpace, NoFrames, OutOfMemory}
use Rattle.machine_model.specs.declared.region.Region.{Region}
use Rattle.machine_model.specs.Request.{pages_in}
use Rattle.machine_model.specs.State.{end_of_region}
use Rattle.machine_model.specs.Place.{with_region, IsPlace, HasNoPlace}
use Rattle.machine_model.specs.Room.{heap_region}
use Rattle.machine_model.specs.Machine.{Paged, IsPagedGrant}
use Rattle.mapped_regions.specs.Regions.{AreLaid}
use Rattle.mapped_regions.specs.Mapped.{IsMapped, IsMapped-prop, AreRunsUsed}
use Rattle.std.proofs.Props.{props}
use Rattle.paged_systems.specs.Window.{IsHeapWindow}

-- The window is good; the walk finds the pages of the regions, and no others; and the regions lie by ascending address.
pub record IsPagedKept (p : Paged) : Type 0 where
  pub window : IsHeapWindow p.base p.pages
  pub mapped : IsMapped p
  pub laid : AreLaid 0 p.regions (2 ^ 64)

-- The system is new: nothing is mapped, and all frames but that of the root are free.
pub record IsNew (p : Paged) (base pages frames : ℕ) : Type 0 where
  pub kept : IsPagedKept p
  pub base_is : p.base ≡ base
  pub pages_is : p.pages ≡ pages
  pub regions_is : p.regions ≡ []
  pub tables_is : p.tables ≡ 1
  pub frames_are : frame_count p.words ≡ frames
  pub free_frames : free_count p.free + 1 ≡ frames
  pub no_tables : (level number : ℕ) → 0 < level → reach p.words p.root level number ≡ None
  pub no_larges : (number : ℕ) → large_of p.words p.root number ≡ None
  pub unmapped : (page : ℕ) → walk_of p.words p.root page ≡ None

-- `pages` pages have their place at an address, and there are frames for them and the tables that they lack.
pub record CanGrant (p : Paged) (pages address : ℕ) : Type 0 where
  pub some : 0 < pages
  pub place : IsPlace p.base p.pages p.regions pages address
  pub frames : pages + missing_of p.words p.root (address / 4096) pages ≤ free_count p.free

-- Why a number of pages cannot be granted: they have no place; or they have one, and there are too few free frames for them
-- and the tables that they lack.
abbrev pub LacksPlaceOrFrames : Paged → ℕ → GrantFault → Type 0
LacksPlaceOrFrames p pages NoSpace = HasNoPlace p.base p.pages p.regions pages
LacksPlaceOrFrames p pages NoFrames = (address : ℕ) × IsPlace p.base p.pages p.regions pages address × (free_count p.free < pages + missing_of p.words p.root (address / 4096) pages)
LacksPlaceOrFrames p pages OutOfMemory = ⊥

-- Why a request for a number of bytes may be denied. Want of the host's memory may come at any time.
abbrev pub MayDeny : Paged → ℕ → GrantFault → Type 0
MayDeny p asked fault = fault ≢ OutOfMemory → LacksPlaceOrFrames p (pages_in asked) fault

-- `pages` pages were granted at an address, and their region joined the others. Slots that lie whole in it and had no table were
-- mapped by one entry each, as long as a run of frames was free.
pub record IsGranted (old new : Paged) (pages address : ℕ) : Type 0 where
  pub grant : IsPagedGrant old new address pages
  pub runs : AreRunsUsed old new address pages
  pub joins : new.joins ≡ (old.joins + 1) % 2 ^ 64
  pub regions : new.regions ≡ with_region (heap_region address pages) old.regions

-- A request for a number of bytes was granted: its pages had a place and frames, and they are the grant.
pub record IsGrantedFor (old new : Paged) (asked : ℕ) (grant : Grant) : Type 0 where
  pub can : CanGrant old (pages_in asked) grant.base
  pub granted : IsGranted old new (pages_in asked) grant.base
  pub size : grant.size ≡ 4096 * pages_in asked
  pub flags : grant.flags ≡ 0

-- ---- a system keeps this in one way

AreLaid-prop : (from : ℕ) (list : List Region) (to : ℕ) → IsProp (AreLaid from list to)
AreLaid-prop from [] to = hlevel props
AreLaid-prop from (region ∷ rest) to = hlevel (props, AreLaid-prop (end_of_region region) rest to)

pub IsPagedKept-prop : (p : Paged) → IsProp (IsPagedKept p)
IsPagedKept-prop p = hlevel (props, IsMapped-prop p, AreLaid-prop 0 p.regions (2 ^ 64))

-- A request is served, or it is refused (dlmalloc: `malloc`).
use Rattle.std.specs.Prelude.{◌≡◌, ℕ, ◌+◌, ◌-◌, ◌%◌, ◌^◌, ◌<◌, ◌≤◌, ◌⊎◌, max, Bool, true, false, List, [], ◌∷◌, None, Some, IsTrue}
use Rattle.std.specs.List.{AllByRecursion}
use Rattle.heap_memory.specs.declared.allocator.Allocator.{Ghosts as Allocator}
use Rattle.heap_memory.specs.declared.links.Links.{Ghosts as Links}
use Rattle.heap_memory.specs.declared.grant.Grant.{Grant}
use Rattle.heap_memory.specs.declared.grant.GrantFault.{GrantFault}
use Rattle.heap_memory.specs.Events.{Event, Granted, Refused}
use Rattle.heap_memory.specs.Regions.{with_grant, is_granted, IsApart}
use Rattle.dlmalloc_chunks.specs.Request.{padded, limit, round_up}
use Rattle.dlmalloc_chunks.specs.declared.extent.Extent.{Extent}
use Rattle.dlmalloc_chunks.specs.declared.extent.Kind.TheVariants.{Top}
use Rattle.dlmalloc.specs.Extents.{extent_at}
use Rattle.dlmalloc.specs.State.{HeapState, extents_in, is_top}
use Rattle.dlmalloc.specs.Choice.{chosen, IsChosen}
use Rattle.dlmalloc.specs.Taken.{taken}
use Rattle.dlmalloc.specs.Granted.{is_behind_head, is_put_before, granted}
use Rattle.dlmalloc.specs.Blocks.{IsBlock, HasOneMore, IsFull, KeepsBlocks}
use Rattle.dlmalloc.specs.Boundaries.{OnlyOwnChange, OnlyOwnOrTagsChange, NewWordsAreZero}
use Rattle.dlmalloc.specs.Order.{KeepsOrder}
use Rattle.dlmalloc.specs.Heap.{state_of, IsSound}
use Rattle.dlmalloc.specs.Grown.{IsAsItWas}
pub use Rattle.dlmalloc.specs.Listed.{AreSpans, IsListed}
pub use Rattle.dlmalloc.specs.Resting.{regions_in, KeepsRegions, OnlyBlocksChange, RestsOutside, OrderRestsOutside}
use Rattle.dlmalloc.specs.declared.heap.Dlmalloc.{Dlmalloc}
use Rattle.dlmalloc.specs.declared.malloc_error.MallocError.{MallocError}
use Rattle.dlmalloc.specs.declared.malloc_error.MallocError.TheVariants.{TooLarge, System}

-- a chunk of n bytes at an address was cut from an extent that is chosen for it
pub record IsTakenFromExtent (old : HeapState) (n at : ℕ) (new : HeapState) : Type 0 where
  pub extent : Extent
  pub is_chosen : IsChosen old n extent
  pub place : at ≡ extent.at
  pub state : new ≡ taken old extent n

-- a chunk of n bytes at an address was cut from the top
pub record IsTopTaken (old : HeapState) (n at : ℕ) (new : HeapState) : Type 0 where
  pub top : Extent
  pub is : IsTrue (is_top top.kind)
  pub there : extent_at top.at (extents_in old) ≡ Some top
  pub place : at ≡ top.at
  pub state : new ≡ taken old top n

-- a grant is after the head segment, and the top begins at an address
abbrev pub IsBehindTop : HeapState → Grant → ℕ → Type 0
IsBehindTop heap grant at = (is_behind_head grant heap.segments ≡ true) × ((size : ℕ) × (extent_at at (extents_in heap) ≡ Some (record { at = at; size = size; kind = Top })))

-- None was chosen, and so blocks leave no run of n + 256 bytes: a region was granted. If it is put before a segment,
-- the chunk is cut from its start, and else from the top that it makes.
pub record IsTakenFromGrant (old : HeapState) (n at : ℕ) (grant : Grant) (new : HeapState) : Type 0 where
  pub none_chosen : chosen old n ≡ None
  pub full : IsFull old (n + 256)
  pub of_grant : is_put_before grant old.segments ≡ true → (at ≡ grant.base) × (new ≡ granted grant n old)
  pub of_top : is_put_before grant old.segments ≡ false → IsTopTaken (granted grant n old) n at new
  -- the region has room for the chunk, which begins with it; or it is after the head segment, and the chunk begins
  -- where the top did
  pub room : n + 96 ≤ grant.size
  pub place : (at ≡ grant.base) ⊎ IsBehindTop old grant at

-- A chunk of n bytes was cut at an address, with what the system says of the time, and its regions at the end. No byte of a
-- region that was granted had been granted before.
abbrev pub IsObtained : {A : Type 0} → (A → List Event → A → Type 0) → (A → List Grant) → A → HeapState → ℕ → ℕ → A → HeapState → Type 0
IsObtained follows regions system old n at system' new =
    (IsTakenFromExtent old n at new × follows system [] system' × (regions system' ≡ regions system))
    ⊎ ((grant : Grant) × IsTakenFromGrant old n at grant new × follows system (Granted (round_up (n + 96) old.granularity) grant ∷ []) system'
    × (regions system' ≡ with_grant grant (regions system)) × AllByRecursion (IsApart grant.base (grant.base + grant.size)) (regions system))

-- The system denied what the heap asked it for, since nothing was chosen, and blocks leave no run of n + 256 bytes.
pub record IsDenied {A : Type 0} (denies : A → ℕ → GrantFault → Type 0) (system : A) (old : HeapState) (n : ℕ) (fault : GrantFault) : Type 0 where
  pub none_chosen : chosen old n ≡ None
  pub full : IsFull old (n + 256)
  pub denied : denies system (round_up (n + 96) old.granularity) fault

-- why a request is refused
abbrev pub IsMallocRefused : {A : Type 0} → (A → ℕ → GrantFault → Type 0) → A → HeapState → ℕ → MallocError → Type 0
IsMallocRefused denies system old size TooLarge = limit old.granularity ≤ size
IsMallocRefused denies system old size (System fault) = (size < limit old.granularity) × IsDenied denies system old (padded size) fault

-- A chunk of n bytes was cut at an address: it holds each block whose padded size it is. If no region was granted, only
-- own words changed, and else words of records too.
pub record IsCutOut {A : Type 0} (regions : A → List Grant) (word : A → ℕ → ℕ) (zeros : A → Bool) (follows : A → List Event → A → Type 0) (old : Dlmalloc A) (n at : ℕ) (new : Dlmalloc A) : Type 0 where
  pub cut : IsObtained follows regions old.system (state_of word old) n at new.system (state_of word new)
  pub small : at + 16 < 2 ^ 64
  pub more : HasOneMore (state_of word old) (state_of word new) at
  pub holds : (size : ℕ) → size + 8 ≤ n → n ≤ size + 32 → IsBlock (state_of word new) (at + 16) size
  pub kept : KeepsBlocks (extents_in (state_of word old)) (word old.system) (word new.system)
  pub words : OnlyOwnOrTagsChange (regions old.system) (state_of word old) (state_of word new) (word old.system) (word new.system)
  pub own : regions new.system ≡ regions old.system → OnlyOwnChange (regions old.system) (state_of word old) (state_of word new) (word old.system) (word new.system)
  pub new_words : zeros old.system ≡ true → NewWordsAreZero (regions old.system) (regions new.system) (state_of word new) (word new.system)
  pub sound : IsSound regions word new

-- A block of `size` bytes was handed out at an address.
pub record IsServed {A : Type 0} (regions : A → List Grant) (word : A → ℕ → ℕ) (zeros : A → Bool) (follows : A → List Event → A → Type 0) (old : Dlmalloc A) (size address : ℕ) (new : Dlmalloc A) : Type 0 where
  pub cut : IsObtained follows regions old.system (state_of word old) (padded size) (address - 16) new.system (state_of word new)
  pub low : 16 ≤ address
  pub small : size < limit old.granularity
  pub block : IsBlock (state_of word new) address size
  pub aligned : address % 16 ≡ 0
  pub granted : (k : ℕ) → address ≤ k → k < address + max size 1 → IsTrue (is_granted (regions new.system) k)
  pub more : HasOneMore (state_of word old) (state_of word new) (address - 16)
  pub kept : KeepsBlocks (extents_in (state_of word old)) (word old.system) (word new.system)
  pub words : OnlyOwnOrTagsChange (regions old.system) (state_of word old) (state_of word new) (word old.system) (word new.system)
  pub own : regions new.system ≡ regions old.system → OnlyOwnChange (regions old.system) (state_of word old) (state_of word new) (word old.system) (word new.system)
  pub new_words : zeros old.system ≡ true → NewWordsAreZero (regions old.system) (regions new.system) (state_of word new) (word new.system)
  pub sound : IsSound regions word new
  pub order : KeepsOrder regions word old new

-- what a refusal asked of the system: nothing if the size is too large, and else one region, which was refused
abbrev pub refused_events : HeapState → ℕ → MallocError → List Event
refused_events heap size TooLarge = []
refused_events heap size (System fault) = Refused (round_up (padded size + 96) heap.granularity) fault ∷ []

-- A block of `size` bytes was refused, and all is as it was; one that is too large did not even touch the heap.
pub record IsRefusedWith {A : Type 0} (regions : A → List Grant) (word : A → ℕ → ℕ) (follows : A → List Event → A → Type 0) (refuses : A → A → Type 0) (denies : A → ℕ → GrantFault → Type 0) (old : Dlmalloc A) (size : ℕ) (error : MallocError) (new : Dlmalloc A) : Type 0 where
  pub refused : IsMallocRefused denies old.system (state_of word old) size error
  pub same : IsAsItWas regions word follows refuses (refused_events (state_of word old) size error) old new
  pub untouched : error ≡ TooLarge → new ≡ old

-- so say what its system means by its regions and words, and what it denies
abbrev pub IsRefusedBy : {A : Type 0} → Links A → Allocator A → Dlmalloc A → ℕ → MallocError → Dlmalloc A → Type 0
IsRefusedBy links allocator old size error new = IsRefusedWith links.regions links.word links.follows allocator.refuses allocator.denies old size error new

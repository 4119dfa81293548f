-- What a free does further, once its chunk is merged (dlmalloc: `Dlmalloc::free`).
use Rattle.std.specs.Prelude.{◌≡◌, ℕ, ◌+◌, ◌-◌, ◌<◌, ◌≤◌, ◌⊎◌, Bool, ◌&&◌, nat_le, nat_lt, if◌then◌else◌, List, Some}
use Rattle.heap_memory.specs.declared.allocator.Allocator.{Ghosts as Allocator}
use Rattle.heap_memory.specs.declared.links.Links.{Ghosts as Links}
use Rattle.heap_memory.specs.declared.grant.Grant.{Grant}
use Rattle.heap_memory.specs.Regions.{IsWordOf}
use Rattle.heap_memory.specs.Events.{Event}
use Rattle.dlmalloc_chunks.specs.declared.extent.Extent.{Extent}
use Rattle.dlmalloc_chunks.specs.declared.extent.Kind.TheVariants.{Used}
use Rattle.dlmalloc.specs.Extents.{extent_at}
use Rattle.dlmalloc.specs.State.{HeapState, extents_in, is_top, size_where}
use Rattle.dlmalloc.specs.Blocks.{HasOneMore, KeepsBlocks}
use Rattle.dlmalloc.specs.Boundaries.{IsInFree, IsOwn, IsInRecord}
use Rattle.dlmalloc.specs.Freed.{freed}
use Rattle.dlmalloc.specs.Released.{releases, regions_without, counted, left_by_count}
use Rattle.dlmalloc.specs.Trimmed.{trimmed, trim_releases, regions_trimmed}
use Rattle.dlmalloc.specs.Grown.{HasSameUsed}
use Rattle.dlmalloc.specs.Binned.{HoldsBinned, IsBinned}
use Rattle.dlmalloc.specs.Order.{AreInOrder, after_count, after_trim, IsReindexed}
use Rattle.dlmalloc.specs.Heap.{state_of, IsSound}
use Rattle.dlmalloc.specs.declared.heap.Dlmalloc.{Dlmalloc}

-- whether an extent is the top, and has the byte at an address
abbrev pub is_top_with : ℕ → Extent → Bool
is_top_with at extent = is_top extent.kind && (nat_le extent.at at && nat_lt at (extent.at + extent.size))

-- whether the freed chunk at an address became part of the top, and left it above the trim check
abbrev pub is_above_check : HeapState → ℕ → Bool
is_above_check heap at = nat_lt heap.trim_check (size_where (is_top_with at) (extents_in heap))

-- Then the heap is trimmed; any other freed chunk is counted.
abbrev pub after_free : Bool → Bool → ℕ → HeapState → ℕ → HeapState
after_free frees parts unit heap at = if is_above_check heap at then trimmed frees parts unit 0 heap else counted frees parts heap at

-- what the system gets by it
abbrev pub free_releases : Bool → Bool → ℕ → HeapState → ℕ → List Event
free_releases frees parts unit heap at = if is_above_check heap at then trim_releases frees parts unit 0 heap else releases (left_by_count frees parts heap at)

abbrev pub regions_after : Bool → Bool → ℕ → HeapState → ℕ → List Grant → List Grant
regions_after frees parts unit heap at regions =
    if is_above_check heap at then regions_trimmed frees parts unit 0 heap regions else regions_without (left_by_count frees parts heap at) regions

-- and the index after it
abbrev pub index_after : Bool → Bool → HeapState → ℕ → (ℕ → List ℕ) → ℕ → List ℕ
index_after frees parts heap at index = if is_above_check heap at then after_trim frees parts 0 heap index else after_count frees parts heap at index

-- The bins keep their order as a block's chunk is freed, and then change by what a free does further.
abbrev pub FreesInOrder : {A : Type 0} → (A → List Grant) → (A → ℕ → ℕ) → Bool → Bool → Dlmalloc A → ℕ → Dlmalloc A → Type 0
FreesInOrder regions word frees parts old address new = (before : IsBinned regions word old) →
    (middle : ℕ → List ℕ) × HoldsBinned (freed (state_of word old) (address - 16)) middle × AreInOrder before.index middle
    × ((after : IsBinned regions word new) × ((n : ℕ) → after.index n ≡ index_after frees parts (freed (state_of word old) (address - 16)) (address - 16) middle n))

-- A free did what it does further, with the chunk at an address. The extents in use are the same, and blocks have their
-- bytes.
pub record IsSettled {A : Type 0} (regions : A → List Grant) (word : A → ℕ → ℕ) (follows : A → List Event → A → Type 0) (frees parts : Bool) (unit : ℕ) (old : Dlmalloc A) (at : ℕ) (new : Dlmalloc A) : Type 0 where
  pub state : state_of word new ≡ after_free frees parts unit (state_of word old) at
  pub sound : IsSound regions word new
  pub used : HasSameUsed (state_of word old) (state_of word new)
  pub kept : KeepsBlocks (extents_in (state_of word old)) (word old.system) (word new.system)
  pub words : (k : ℕ) → IsWordOf (regions new.system) k → (IsInFree (state_of word old) k → ⊥) → (IsOwn (state_of word new) k → ⊥) → (IsInRecord (state_of word old) k → ⊥) → word new.system k ≡ word old.system k
  pub regions_are : regions new.system ≡ regions_after frees parts unit (state_of word old) at (regions old.system)
  pub followed : follows old.system (free_releases frees parts unit (state_of word old) at) new.system
  pub index : IsReindexed regions word (index_after frees parts (state_of word old) at) old new

-- An address is in the head segment, and of the extents that are in use there none is after it.
pub record IsBehindUsed {A : Type 0} (heap : Dlmalloc A) (left : HeapState) (at : ℕ) : Type 0 where
  pub within : at < heap.base + heap.size
  pub behind : (used : Extent) → used.kind ≡ Used → extent_at used.at (extents_in left) ≡ Some used → (used.at + used.size ≤ at) ⊎ (heap.base + heap.size ≤ used.at)

-- The block at an address was freed: its chunk became one with the free ones beside it, and what a free does further
-- was done with it. Of the words that are still granted only those changed that were in free extents, own ones before
-- or after that, and those of records.
pub record IsFreed {A : Type 0} (regions : A → List Grant) (word : A → ℕ → ℕ) (follows : A → List Event → A → Type 0) (frees parts : Bool) (unit : ℕ) (old : Dlmalloc A) (address : ℕ) (new : Dlmalloc A) : Type 0 where
  pub state : state_of word new ≡ after_free frees parts unit (freed (state_of word old) (address - 16)) (address - 16)
  pub less : HasOneMore (state_of word new) (state_of word old) (address - 16)
  pub kept : KeepsBlocks (extents_in (state_of word new)) (word old.system) (word new.system)
  pub words : (k : ℕ) → IsWordOf (regions new.system) k → (IsInFree (state_of word old) k → ⊥) → (IsOwn (freed (state_of word old) (address - 16)) k → ⊥) → (IsOwn (state_of word new) k → ⊥) →
      (IsInRecord (freed (state_of word old) (address - 16)) k → ⊥) → word new.system k ≡ word old.system k
  pub sound : IsSound regions word new
  pub granularity : new.granularity ≡ old.granularity
  -- the head segment stays whole, unless the chunk was the last one in use there
  pub head : ((new.base ≡ old.base) × (new.size ≡ old.size)) ⊎ IsBehindUsed old (state_of word new) (address - 16)
  pub regions_are : regions new.system ≡ regions_after frees parts unit (freed (state_of word old) (address - 16)) (address - 16) (regions old.system)
  pub followed : follows old.system (free_releases frees parts unit (freed (state_of word old) (address - 16)) (address - 16)) new.system
  pub order : FreesInOrder regions word frees parts old address new

-- so say what its system means by its regions and words, and what it takes back
abbrev pub IsFreedBy : {A : Type 0} → Links A → Allocator A → Dlmalloc A → ℕ → Dlmalloc A → Type 0
IsFreedBy links allocator old address new = IsFreed links.regions links.word links.follows (allocator.frees old.system) (allocator.parts old.system) (allocator.unit old.system) old address new

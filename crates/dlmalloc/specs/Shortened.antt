-- A heap before and after the end of its top went back to the system.
use Rattle.std.specs.Prelude.{◌≡◌, ◌≢◌, ℕ, ◌+◌, ◌-◌, ◌&&◌, Bool, List, [], ◌∷◌, Some}
use Rattle.heap_memory.specs.declared.allocator.Allocator.{Ghosts as Allocator}
use Rattle.heap_memory.specs.declared.links.Links.{Ghosts as Links}
use Rattle.heap_memory.specs.declared.grant.Grant.{Grant}
use Rattle.heap_memory.specs.Regions.{IsWordOf}
use Rattle.heap_memory.specs.Runs.{without_run}
use Rattle.heap_memory.specs.Events.{Event, Released}
use Rattle.dlmalloc_chunks.specs.declared.extent.Extent.{Extent}
use Rattle.dlmalloc_chunks.specs.declared.extent.Kind.TheVariants.{Record}
use Rattle.dlmalloc.specs.Extents.{extent_at}
use Rattle.dlmalloc.specs.State.{extents_in}
use Rattle.dlmalloc.specs.Blocks.{KeepsBlocks}
use Rattle.dlmalloc.specs.Boundaries.{IsInFree, IsOwn, IsInRecord}
use Rattle.dlmalloc.specs.Trimmed.{cut_top, after_cut, cut_off, regions_cut, is_trimmed, gives_back, trimmed, trim_releases, regions_trimmed}
use Rattle.dlmalloc.specs.Grown.{HasSameUsed}
use Rattle.dlmalloc.specs.Order.{after_trim, IsReindexed}
use Rattle.dlmalloc.specs.Binned.{FreeMoves}
use Rattle.dlmalloc.specs.Heap.{state_of, IsSound}
use Rattle.dlmalloc.specs.declared.heap.Dlmalloc.{Dlmalloc}

-- What stays of a heap whose top may be another: the extents in use, the bytes of their blocks, the other free extents
-- with their bins, and the records. Of the words that are still granted only the heads of the top and of its foot
-- changed.
pub record KeepsAllButTop {A : Type 0} (regions : A → List Grant) (word : A → ℕ → ℕ) (old new : Dlmalloc A) : Type 0 where
  pub sound : IsSound regions word new
  pub used : HasSameUsed (state_of word old) (state_of word new)
  pub kept : KeepsBlocks (extents_in (state_of word old)) (word old.system) (word new.system)
  pub free : FreeMoves (state_of word old) (state_of word new) [] []
  pub victim_same : new.victim ≡ old.victim
  pub bins_same : new.bins ≡ old.bins
  pub records : (one : Extent) → one.kind ≡ Record → extent_at one.at (extents_in (state_of word new)) ≡ Some one → extent_at one.at (extents_in (state_of word old)) ≡ Some one
  pub words : (k : ℕ) → IsWordOf (regions new.system) k → k ≢ new.top + 8 → k ≢ new.top + new.top_size + 8 → word new.system k ≡ word old.system k

-- A number of bytes at the end of the head segment went back, and are granted no longer.
pub record IsShortened {A : Type 0} (regions : A → List Grant) (word : A → ℕ → ℕ) (follows : A → List Event → A → Type 0) (old : Dlmalloc A) (less : ℕ) (new : Dlmalloc A) : Type 0 where
  pub state : state_of word new ≡ cut_top less (state_of word old)
  pub stays : KeepsAllButTop regions word old new
  pub regions_are : regions new.system ≡ without_run (old.base + (old.size - less)) (old.base + old.size) (regions old.system)
  pub followed : follows old.system (Released old.base old.size (old.size - less) ∷ []) new.system

-- The top was cut as a trim cuts it, or was not.
pub record IsCutBack {A : Type 0} (regions : A → List Grant) (word : A → ℕ → ℕ) (follows : A → List Event → A → Type 0) (parts : Bool) (unit : ℕ) (old : Dlmalloc A) (pad : ℕ) (new : Dlmalloc A) : Type 0 where
  pub state : state_of word new ≡ after_cut parts unit pad (state_of word old)
  pub stays : KeepsAllButTop regions word old new
  pub regions_are : regions new.system ≡ regions_cut parts unit pad (state_of word old) (regions old.system)
  pub followed : follows old.system (cut_off parts unit pad (state_of word old)) new.system

-- The heap was trimmed, and it was answered whether bytes went back. The extents in use are the same, and blocks have
-- their bytes. Of the words that are still granted only own ones and those of records changed.
pub record IsTrimmed {A : Type 0} (regions : A → List Grant) (word : A → ℕ → ℕ) (follows : A → List Event → A → Type 0) (frees parts : Bool) (unit : ℕ) (old : Dlmalloc A) (pad : ℕ) (answer : Bool) (new : Dlmalloc A) : Type 0 where
  pub answer_is : answer ≡ (is_trimmed pad (state_of word old) && gives_back frees parts unit pad (state_of word old))
  pub state : state_of word new ≡ trimmed frees parts unit pad (state_of word old)
  pub sound : IsSound regions word new
  pub used : HasSameUsed (state_of word old) (state_of word new)
  pub kept : KeepsBlocks (extents_in (state_of word old)) (word old.system) (word new.system)
  pub words : (k : ℕ) → IsWordOf (regions new.system) k → (IsInFree (state_of word old) k → ⊥) → (IsOwn (state_of word new) k → ⊥) → (IsInRecord (state_of word old) k → ⊥) → word new.system k ≡ word old.system k
  pub regions_are : regions new.system ≡ regions_trimmed frees parts unit pad (state_of word old) (regions old.system)
  pub followed : follows old.system (trim_releases frees parts unit pad (state_of word old)) new.system
  pub index : IsReindexed regions word (after_trim frees parts pad (state_of word old)) old new

-- so say what its system means by its regions and words, and what it takes back
abbrev pub IsTrimmedBy : {A : Type 0} → Links A → Allocator A → Dlmalloc A → ℕ → Bool → Dlmalloc A → Type 0
IsTrimmedBy links allocator old pad answer new = IsTrimmed links.regions links.word links.follows (allocator.frees old.system) (allocator.parts old.system) (allocator.unit old.system) old pad answer new

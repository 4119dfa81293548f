-- A heap before and after it asked its system for a region.
use Rattle.std.specs.Prelude.{◌≡◌, ◌≢◌, ℕ, ◌+◌, ◌-◌, ◌%◌, ◌^◌, ◌<◌, ◌≤◌, ◌⊎◌, true, false, List, [], None, Some}
use Rattle.std.specs.List.{AllByRecursion}
use Rattle.heap_memory.specs.declared.grant.Grant.{Grant}
use Rattle.heap_memory.specs.declared.links.Links.{Ghosts as Links}
use Rattle.heap_memory.specs.Regions.{IsWordOf}
use Rattle.heap_memory.specs.Events.{Event}
use Rattle.dlmalloc_chunks.specs.declared.extent.Extent.{Extent}
use Rattle.dlmalloc_chunks.specs.declared.extent.Kind.TheVariants.{Used}
use Rattle.dlmalloc.specs.Extents.{extent_at, IsChunkSize}
use Rattle.dlmalloc.specs.State.{HeapState, Segment, extents_in}
use Rattle.dlmalloc.specs.Boundaries.{IsInRecord, OnlyTagsChange, IsInFree, IsOwn, OnlyOwnOrTagsChange}
use Rattle.dlmalloc.specs.Granted.{opened, is_behind, is_put_before, prepended, granted}
use Rattle.dlmalloc.specs.Freed.{freed}
use Rattle.dlmalloc.specs.Blocks.{HasOneMore}
use Rattle.dlmalloc.specs.Segments.{IsFlaggedRun, IsApartFrom}
use Rattle.dlmalloc.specs.Heap.{state_of, segments_of, IsSound}
use Rattle.dlmalloc.specs.Order.{KeepsIndex}
use Rattle.dlmalloc.specs.Binned.{IsSameBins, FreeMoves, IsIntactBy}
use Rattle.dlmalloc.specs.Choice.{chosen}
use Rattle.dlmalloc.specs.declared.heap.Dlmalloc.{Dlmalloc}

-- A grant is a region that no segment has.
pub record IsFreshGrant (regions : List Grant) (segments : List Segment) (grant : Grant) : Type 0 where
  pub run : IsFlaggedRun regions grant.base grant.size grant.flags
  pub apart : AllByRecursion (λ (segment : Segment). IsApartFrom segment (opened grant)) segments
  pub long : 128 ≤ grant.size
  pub base_aligned : grant.base % 16 ≡ 0
  pub size_aligned : grant.size % 16 ≡ 0
  pub low : 4096 ≤ grant.base
  pub high : grant.base + grant.size < 2 ^ 64

-- A fresh grant has room for a chunk of n bytes, and for the end of a segment.
pub record HasRoomFor (n : ℕ) (regions : List Grant) (segments : List Segment) (grant : Grant) : Type 0 where
  pub fresh : IsFreshGrant regions segments grant
  pub bytes : IsChunkSize n
  pub room : n + 96 ≤ grant.size

-- the same extents are in use
pub record HasSameUsed (old new : HeapState) : Type 0 where
  pub still : (used : Extent) → used.kind ≡ Used → extent_at used.at (extents_in old) ≡ Some used → extent_at used.at (extents_in new) ≡ Some used
  pub before : (used : Extent) → used.kind ≡ Used → extent_at used.at (extents_in new) ≡ Some used → extent_at used.at (extents_in old) ≡ Some used

-- A top that a grant makes begins with it; or the grant is after the head segment, and it begins where the top did.
abbrev pub BeginsTop : {A : Type 0} → Dlmalloc A → Grant → ℕ → Type 0
BeginsTop old grant top =
    (top ≡ grant.base) ⊎ ((0 < old.size) × (is_behind grant (record { base = old.base; size = old.size; flags = old.flags; extents = [] }) ≡ true) × (top ≡ old.top))

-- A grant became part of a heap, and the top is in it.
pub record IsGrantJoined {A : Type 0} (regions : A → List Grant) (word : A → ℕ → ℕ) (follows : A → List Event → A → Type 0) (old : Dlmalloc A) (grant : Grant) (new : Dlmalloc A) : Type 0 where
  pub state : (n : ℕ) → state_of word new ≡ granted grant n (state_of word old)
  pub sound : IsSound regions word new
  pub there : 0 < new.size
  pub room : grant.size ≤ new.top_size + 80
  pub begins : BeginsTop old grant new.top
  pub regions_same : regions new.system ≡ regions old.system
  pub followed : follows old.system [] new.system
  pub used : HasSameUsed (state_of word old) (state_of word new)
  pub words : OnlyOwnOrTagsChange (regions old.system) (state_of word old) (state_of word new) (word old.system) (word new.system)
  -- of the grant only the heads of the top and of its foot are written
  pub new_words : (k : ℕ) → IsWordOf (regions old.system) k → grant.base ≤ k → k < grant.base + grant.size → k ≢ new.top + 8 → k ≢ new.top + new.top_size + 8 → word new.system k ≡ word old.system k

-- The same, with no change of bins: only words at boundaries and of records changed.
pub record IsAdmitted {A : Type 0} (regions : A → List Grant) (word : A → ℕ → ℕ) (follows : A → List Event → A → Type 0) (old : Dlmalloc A) (grant : Grant) (new : Dlmalloc A) : Type 0 where
  pub state : (n : ℕ) → state_of word new ≡ granted grant n (state_of word old)
  pub sound : IsSound regions word new
  pub there : 0 < new.size
  pub room : grant.size ≤ new.top_size + 80
  pub begins : BeginsTop old grant new.top
  pub regions_same : regions new.system ≡ regions old.system
  pub followed : follows old.system [] new.system
  pub used : HasSameUsed (state_of word old) (state_of word new)
  pub words : OnlyTagsChange (regions old.system) (state_of word new) (word old.system) (word new.system)
  -- of the grant only the heads of the top and of its foot are written
  pub new_words : (k : ℕ) → IsWordOf (regions old.system) k → grant.base ≤ k → k < grant.base + grant.size → k ≢ new.top + 8 → k ≢ new.top + new.top_size + 8 → word new.system k ≡ word old.system k

-- A grant was admitted so beside the bins: nothing was done to them, and free extents came at some addresses.
pub record IsAdmittedBesideBins {A : Type 0} (regions : A → List Grant) (word : A → ℕ → ℕ) (follows : A → List Event → A → Type 0) (old : Dlmalloc A) (grant : Grant) (more : List ℕ) (new : Dlmalloc A) : Type 0 where
  pub joined : IsAdmitted regions word follows old grant new
  pub free : FreeMoves (state_of word old) (state_of word new) [] more
  pub same : IsSameBins old new

-- A grant stands before a segment of a heap, in two parts that are in use.
pub record IsPrepended {A : Type 0} (regions : A → List Grant) (word : A → ℕ → ℕ) (follows : A → List Event → A → Type 0) (old : Dlmalloc A) (grant : Grant) (n : ℕ) (new : Dlmalloc A) : Type 0 where
  pub state : state_of word new ≡ prepended grant n (state_of word old)
  pub sound : IsSound regions word new
  pub regions_same : regions new.system ≡ regions old.system
  pub followed : follows old.system [] new.system
  pub chunk : extent_at grant.base (extents_in (state_of word new)) ≡ Some (record { at = grant.base; size = n; kind = Used })
  pub rest : extent_at (grant.base + n) (extents_in (state_of word new)) ≡ Some (record { at = grant.base + n; size = grant.size - n; kind = Used })
  -- what was found still is, and nothing else but those two is
  pub still : (one : Extent) → extent_at one.at (extents_in (state_of word old)) ≡ Some one → extent_at one.at (extents_in (state_of word new)) ≡ Some one
  pub before : (one : Extent) → one.at ≢ grant.base → one.at ≢ grant.base + n → extent_at one.at (extents_in (state_of word new)) ≡ Some one → extent_at one.at (extents_in (state_of word old)) ≡ Some one
  pub apart : (one : Extent) → extent_at one.at (extents_in (state_of word old)) ≡ Some one → (one.at ≢ grant.base) × (one.at ≢ grant.base + n)
  pub words : (k : ℕ) → IsWordOf (regions old.system) k → (k < grant.base) ⊎ (grant.base + grant.size ≤ k) → (IsInRecord (state_of word new) k → ⊥) → word new.system k ≡ word old.system k
  pub new_words : (k : ℕ) → IsWordOf (regions old.system) k → grant.base ≤ k → k < grant.base + grant.size → k ≢ grant.base + 8 → k ≢ grant.base + n + 8 → word new.system k ≡ word old.system k

-- A grant was put so before a segment beside the bins: nothing was done to them.
pub record IsPrependedBesideBins {A : Type 0} (regions : A → List Grant) (word : A → ℕ → ℕ) (follows : A → List Event → A → Type 0) (old : Dlmalloc A) (grant : Grant) (n : ℕ) (new : Dlmalloc A) : Type 0 where
  pub prepended : IsPrepended regions word follows old grant n new
  pub same : IsSameBins old new

-- Of such a grant the first part is a block's, and the other was freed.
pub record IsPutBefore {A : Type 0} (regions : A → List Grant) (word : A → ℕ → ℕ) (follows : A → List Event → A → Type 0) (old : Dlmalloc A) (grant : Grant) (n : ℕ) (new : Dlmalloc A) : Type 0 where
  pub state : state_of word new ≡ freed (prepended grant n (state_of word old)) (grant.base + n)
  pub sound : IsSound regions word new
  pub regions_same : regions new.system ≡ regions old.system
  pub followed : follows old.system [] new.system
  pub chunk : extent_at grant.base (extents_in (state_of word new)) ≡ Some (record { at = grant.base; size = n; kind = Used })
  pub more : HasOneMore (state_of word old) (state_of word new) grant.base
  pub words : (k : ℕ) → IsWordOf (regions old.system) k → (k < grant.base) ⊎ (grant.base + grant.size ≤ k) → (IsInFree (state_of word old) k → ⊥) → (IsOwn (state_of word new) k → ⊥) → (IsInRecord (state_of word new) k → ⊥) → word new.system k ≡ word old.system k
  pub new_words : (k : ℕ) → IsWordOf (regions old.system) k → grant.base ≤ k → k < grant.base + grant.size → (IsOwn (state_of word new) k → ⊥) → word new.system k ≡ word old.system k

-- A chunk of n bytes is to be cut, and no free extent serves: the system is asked for a region.
pub record MustGrow {A : Type 0} (links : Links A) (heap : Dlmalloc A) (n : ℕ) : Type 0 where
  pub intact : IsIntactBy links heap
  pub none : chosen (state_of links.word heap) n ≡ None
  pub bytes : IsChunkSize n
  pub small : n + 96 + heap.granularity ≤ 2 ^ 64

-- A fresh grant is to be a segment of its own: there is one, and the grant neither stands before one nor becomes part of the head.
pub record IsNewSegment {A : Type 0} (links : Links A) (heap : Dlmalloc A) (grant : Grant) : Type 0 where
  pub there : 0 < heap.size
  pub fresh : IsFreshGrant (links.regions heap.system) (segments_of links.word heap) grant
  pub apart : is_put_before grant (segments_of links.word heap) ≡ false
  pub beside : is_behind grant (record { base = heap.base; size = heap.size; flags = heap.flags; extents = [] }) ≡ false

-- After some events nothing was granted, and all is as it was.
pub record IsAsItWas {A : Type 0} (regions : A → List Grant) (word : A → ℕ → ℕ) (follows : A → List Event → A → Type 0) (refuses : A → A → Type 0) (events : List Event) (old new : Dlmalloc A) : Type 0 where
  pub followed : follows old.system events new.system
  pub refused : refuses old.system new.system
  pub state : state_of word new ≡ state_of word old
  pub sound : IsSound regions word new
  pub regions_same : regions new.system ≡ regions old.system
  pub words : (k : ℕ) → IsWordOf (regions old.system) k → word new.system k ≡ word old.system k
  pub index : KeepsIndex regions word old new

-- The bins of a heap: which of its extents they hold (dlmalloc: `smallbins`, `treebins`).
use Rattle.std.specs.Prelude.{◌≡◌, ◌≢◌, ℕ, ◌+◌, ◌-◌, ◌<◌, ◌≤◌, ◌⊎◌, List, [], ◌∷◌, Some}
use Rattle.heap_memory.specs.declared.grant.Grant.{Grant}
use Rattle.heap_memory.specs.declared.links.Links.{Ghosts as Links}
use Rattle.heap_memory.specs.Events.{Event}
use Rattle.heap_memory.specs.Regions.{IsWordOf}
use Rattle.bins.specs.Index.{IsIn, IsLeastFit, with_chunk, without_chunk}
use Rattle.bins.specs.Linked.{IsLinked}
use Rattle.dlmalloc.specs.State.{HeapState}
pub use Rattle.dlmalloc.specs.FreeExtents.{IsFreeAt}
use Rattle.dlmalloc.specs.Choice.{OfBins, chosen}
use Rattle.dlmalloc.specs.Heap.{state_of, IsSound, IsSoundBy}
use Rattle.dlmalloc.specs.declared.heap.Dlmalloc.{Dlmalloc}

-- ---- an index of extents

-- An index has the free extents of a heap, each in the list of its size, but for the top, the victim, and those that begin at
-- some addresses. It has no other chunk.
pub record HoldsBut (loose : List ℕ) (heap : HeapState) (index : ℕ → List ℕ) : Type 0 where
  pub all : (at size : ℕ) → IsFreeAt heap at size → at ≢ heap.victim → (IsIn at loose → ⊥) → IsIn at (index size)
  pub free : (at size : ℕ) → IsIn at (index size) → IsFreeAt heap at size
  pub no_victim : (at size : ℕ) → IsIn at (index size) → at ≢ heap.victim
  pub not_loose : (at size : ℕ) → IsIn at (index size) → IsIn at loose → ⊥

-- it has all but the top and the victim
abbrev pub HoldsBinned : HeapState → (ℕ → List ℕ) → Type 0
HoldsBinned heap index = HoldsBut [] heap index

-- ---- the bins of a heap

-- They are linked in its memory, and hold the free extents but for the top, the victim, and those at some addresses.
pub record IsBinnedBut {A : Type 0} (loose : List ℕ) (regions : A → List Grant) (word : A → ℕ → ℕ) (heap : Dlmalloc A) : Type 0 where
  pub index : ℕ → List ℕ
  pub linked : IsLinked (regions heap.system) (word heap.system) heap.bins index
  pub holds : HoldsBut loose (state_of word heap) index

-- They hold each free extent but the top and the victim.
abbrev pub IsBinned : {A : Type 0} → (A → List Grant) → (A → ℕ → ℕ) → Dlmalloc A → Type 0
IsBinned regions word heap = IsBinnedBut [] regions word heap

-- A heap is sound, and its bins hold its free extents.
pub record IsIntact {A : Type 0} (regions : A → List Grant) (word : A → ℕ → ℕ) (heap : Dlmalloc A) : Type 0 where
  pub sound : IsSound regions word heap
  pub linked : IsBinned regions word heap

-- so say what its system means by its regions and words
abbrev pub IsBinnedBy : {A : Type 0} → Links A → Dlmalloc A → Type 0
IsBinnedBy links heap = IsBinned links.regions links.word heap

-- the same, with the regions and words of a store
abbrev pub IsIntactBy : {A : Type 0} → Links A → Dlmalloc A → Type 0
IsIntactBy links heap = IsIntact links.regions links.word heap

-- what begins at an address is the top, or else a free extent of the given size
abbrev pub IsJoint : HeapState → ℕ → ℕ → ℕ → Type 0
IsJoint heap top at size = ((at ≡ top) × ((n : ℕ) → IsFreeAt heap at n → ⊥)) ⊎ ((at ≢ top) × IsFreeAt heap at size)

-- A chunk is the one that is named by each index that is linked in the heap's memory: of the least size that is at
-- least n bytes, the newest below 256, and the oldest from 256 on.
abbrev pub IsMember : {A : Type 0} → (A → List Grant) → (A → ℕ → ℕ) → Dlmalloc A → ℕ → ℕ → Type 0
IsMember regions word heap n at = (index : ℕ → List ℕ) → IsLinked (regions heap.system) (word heap.system) heap.bins index → IsLeastFit index n at

-- if a binned extent is chosen for n bytes, it is that one
abbrev pub IsMemberChosen : {A : Type 0} → (A → List Grant) → (A → ℕ → ℕ) → Dlmalloc A → ℕ → ℕ → Type 0
IsMemberChosen regions word heap n at = (size : ℕ) → chosen (state_of word heap) n ≡ Some (OfBins size) → IsMember regions word heap n at

-- nothing was done to the bins, or to the victim
pub record IsSameBins {A : Type 0} (old new : Dlmalloc A) : Type 0 where
  pub bins : new.bins ≡ old.bins
  pub victim : new.victim ≡ old.victim

-- ---- what changes

-- Of the granted words only those in free extents change, from 16 bytes after the extent's beginning on.
abbrev pub OnlyFreeChange : List Grant → HeapState → (ℕ → ℕ) → (ℕ → ℕ) → Type 0
OnlyFreeChange regions heap old new = (k : ℕ) → IsWordOf regions k → ((at size : ℕ) → IsFreeAt heap at size → (k < at + 16) ⊎ (at + size ≤ k)) → new k ≡ old k

-- The victim stays; or it was in a range of bytes, and is what begins that, or none.
abbrev pub IsVictimAfter : ℕ → ℕ → ℕ → ℕ → Type 0
IsVictimAfter from to old new = (new ≡ old) ⊎ ((from ≤ old) × (old < to) × ((new ≡ 0) ⊎ (new ≡ from)))

-- Chunks went into bins or left them. The heap is in the same state.
pub record IsRebinned {A : Type 0} (regions : A → List Grant) (word : A → ℕ → ℕ) (follows : A → List Event → A → Type 0) (old new : Dlmalloc A) : Type 0 where
  pub sound : IsSound regions word new
  pub state : state_of word new ≡ state_of word old
  pub fields : new ≡ record old { system = new.system; bins = new.bins }
  pub words : OnlyFreeChange (regions old.system) (state_of word old) (word old.system) (word new.system)
  pub regions_same : regions new.system ≡ regions old.system
  pub followed : follows old.system [] new.system

-- ---- one chunk

-- A free chunk that is neither the top nor the victim is in no bin: it can go into its own.
pub record CanJoinBin {A : Type 0} (links : Links A) (heap : Dlmalloc A) (at size : ℕ) : Type 0 where
  pub sound : IsSoundBy links heap
  pub free : IsFreeAt (state_of links.word heap) at size
  pub other : at ≢ heap.victim
  pub loose : (loose : List ℕ) × IsBinnedBut (at ∷ loose) links.regions links.word heap

-- The same of one that is there if it has bytes; else no free chunk begins there.
pub record CanJoinBinIfAny {A : Type 0} (links : Links A) (heap : Dlmalloc A) (at size : ℕ) : Type 0 where
  pub sound : IsSoundBy links heap
  pub free : size ≢ 0 → IsFreeAt (state_of links.word heap) at size
  pub none : size ≡ 0 → (n : ℕ) → IsFreeAt (state_of links.word heap) at n → ⊥
  pub other : size ≢ 0 → at ≢ heap.victim
  pub loose : (loose : List ℕ) × IsBinnedBut (at ∷ loose) links.regions links.word heap

-- A free chunk is in its bin, or it is the top or the victim.
pub record CanLeaveBin {A : Type 0} (links : Links A) (heap : Dlmalloc A) (at size : ℕ) : Type 0 where
  pub sound : IsSoundBy links heap
  pub free : IsFreeAt (state_of links.word heap) at size
  pub binned : (loose : List ℕ) × IsBinnedBut loose links.regions links.word heap × (IsIn at loose → ⊥)

-- The same of one that a search of the bins named.
pub record CanLeaveAsFit {A : Type 0} (links : Links A) (heap : Dlmalloc A) (at size : ℕ) : Type 0 where
  pub sound : IsSoundBy links heap
  pub free : IsFreeAt (state_of links.word heap) at size
  pub other : at ≢ heap.victim
  pub member : (n : ℕ) × IsMember links.regions links.word heap n at
  pub binned : (loose : List ℕ) × IsBinnedBut loose links.regions links.word heap × (IsIn at loose → ⊥)

-- The same of one between two addresses, if there is one.
pub record CanLeaveBetween {A : Type 0} (links : Links A) (heap : Dlmalloc A) (from to : ℕ) : Type 0 where
  pub sound : IsSoundBy links heap
  pub free : from < to → IsFreeAt (state_of links.word heap) from (to - from)
  pub none : to ≤ from → (size : ℕ) → IsFreeAt (state_of links.word heap) from size → ⊥
  pub binned : (loose : List ℕ) × IsBinnedBut loose links.regions links.word heap × (IsIn from loose → ⊥)

-- an index with one chunk more, as the newest of its size, and with one less
abbrev pub HasJoined : ℕ → ℕ → (ℕ → List ℕ) → (ℕ → List ℕ) → Type 0
HasJoined size at old new = (n : ℕ) → new n ≡ with_chunk size at old n

abbrev pub HasLeft : ℕ → ℕ → (ℕ → List ℕ) → (ℕ → List ℕ) → Type 0
HasLeft size at old new = (n : ℕ) → new n ≡ without_chunk size at old n

-- The chunk at an address went into its bin, which changed the index so, and the heap is in the same state.
pub record JoinsBin {A : Type 0} (links : Links A) (at : ℕ) (changed : (ℕ → List ℕ) → (ℕ → List ℕ) → Type 0) (old new : Dlmalloc A) : Type 0 where
  pub binned : (loose : List ℕ) → (before : IsBinnedBut (at ∷ loose) links.regions links.word old) → (IsIn at loose → ⊥) →
      (after : IsBinnedBut loose links.regions links.word new) × changed before.index after.index
  pub same : IsRebinned links.regions links.word links.follows old new

-- The chunk at an address left its bin, which changed the index so, and the heap is in the same state.
pub record LeavesBin {A : Type 0} (links : Links A) (at : ℕ) (changed : (ℕ → List ℕ) → (ℕ → List ℕ) → Type 0) (old new : Dlmalloc A) : Type 0 where
  pub loose : (loose : List ℕ) → (before : IsBinnedBut loose links.regions links.word old) → (IsIn at loose → ⊥) →
      (after : IsBinnedBut (at ∷ loose) links.regions links.word new) × changed before.index after.index
  pub same : IsRebinned links.regions links.word links.follows old new

-- The free extents of one heap are those of another without the ones at some addresses, and with those at others.
pub record FreeMoves (old new : HeapState) (less more : List ℕ) : Type 0 where
  pub stays : (at size : ℕ) → IsFreeAt old at size → (IsIn at less → ⊥) → IsFreeAt new at size × (IsIn at more → ⊥)
  pub was : (at size : ℕ) → IsFreeAt new at size → (IsIn at more → ⊥) → IsFreeAt old at size × (IsIn at less → ⊥)

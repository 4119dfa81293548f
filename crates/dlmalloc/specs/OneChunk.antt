-- What a step on one chunk needs, and what it leaves in the heap.
use Rattle.std.specs.Prelude.{◌≡◌, ◌≢◌, ℕ, ◌+◌, ◌-◌, ◌%◌, ◌^◌, ◌<◌, ◌≤◌, ◌⊎◌, ◌==◌, nat_le, if◌then◌else◌, List, [], ◌∷◌, Some}
use Rattle.std.specs.Int.{IsPowerOfTwo}
use Rattle.heap_memory.specs.declared.grant.Grant.{Grant}
use Rattle.heap_memory.specs.declared.links.Links.{Ghosts as Links}
use Rattle.heap_memory.specs.Asks.{AsksNothing}
use Rattle.heap_memory.specs.Events.{Event}
use Rattle.heap_memory.specs.Regions.{IsWordOf}
use Rattle.dlmalloc_chunks.specs.declared.extent.Extent.{Extent}
use Rattle.dlmalloc_chunks.specs.declared.extent.Kind.TheVariants.{Used, Free, Top, Record}
use Rattle.dlmalloc.specs.Extents.{extent_at, IsChunkSize}
use Rattle.dlmalloc.specs.State.{HeapState, extents_in, size_where}
use Rattle.dlmalloc.specs.Aligned.{aligned_place, lead_freed, aligned, HasOneMoved, KeepsOthers}
use Rattle.dlmalloc.specs.Binned.{IsFreeAt, IsIntactBy}
use Rattle.dlmalloc.specs.Blocks.{HasBlock, HasOneMore}
use Rattle.dlmalloc.specs.Boundaries.{IsBoundary}
use Rattle.dlmalloc.specs.Freed.{freed}
use Rattle.dlmalloc.specs.Heap.{state_of, IsSound, IsSoundBy}
use Rattle.dlmalloc.specs.Order.{KeepsBinsInOrder, KeepsOrderThrough, TurnsInOrder}
use Rattle.dlmalloc.specs.Requested.{IsPassedOver}
use Rattle.dlmalloc.specs.Resized.{exchanged, halves, grown_into, HasSameOthers}
use Rattle.dlmalloc.specs.Taken.{IsTaken}
use Rattle.dlmalloc.specs.Turned.{MovesBesideBins}
use Rattle.dlmalloc.specs.declared.heap.Dlmalloc.{Dlmalloc}

-- a chunk in use stands at an address
abbrev pub IsUsedAt : HeapState → ℕ → ℕ → Type 0
IsUsedAt heap at size = extent_at at (extents_in heap) ≡ Some (record { at = at; size = size; kind = Used })

-- An intact heap has a block of at least so many bytes at an address, which are to be had at a multiple of a power of two.
pub record HoldsBytes {A : Type 0} (links : Links A) (heap : Dlmalloc A) (ptr bytes multiple : ℕ) : Type 0 where
  pub intact : IsIntactBy links heap
  pub align : IsPowerOfTwo multiple
  pub block : HasBlock (state_of links.word heap) ptr
  pub held : bytes + 8 ≤ size_where (λ extent. extent.at == ptr - 16) (extents_in (state_of links.word heap))

-- The chunk in use at an address got another size, and no other did. The heap moved with its bins.
pub record ResizesOne {A : Type 0} (links : Links A) (old : Dlmalloc A) (at : ℕ) (new : Dlmalloc A) : Type 0 where
  pub others : HasSameOthers (state_of links.word old) (state_of links.word new) at at
  pub turned : TurnsInOrder links.regions links.word links.follows old new

-- ---- a chunk is freed

-- A chunk in use was freed: its block is in use no more, and records stay.
pub record IsChunkFreed (old : HeapState) (at : ℕ) (new : HeapState) : Type 0 where
  pub state : new ≡ freed old at
  pub less : HasOneMore new old at
  pub records : (one : Extent) → one.kind ≡ Record → extent_at one.at (extents_in old) ≡ Some one → extent_at one.at (extents_in new) ≡ Some one

-- ---- a free chunk is cut

-- n bytes of a free chunk other than the top were taken, or all if less than 32 would be left. Its rest is free, and no bin changed.
pub record IsChunkCut {A : Type 0} (regions : A → List Grant) (word : A → ℕ → ℕ) (follows : A → List Event → A → Type 0) (old : Dlmalloc A) (at size n : ℕ) (new : Dlmalloc A) : Type 0 where
  pub taken : IsTaken (state_of word old) (record { at = at; size = size; kind = Free }) n (state_of word new)
  pub rest : n + 32 ≤ size → IsFreeAt (state_of word new) (at + n) (size - n)
  pub moves : MovesBesideBins regions word follows old (at ∷ []) (if nat_le (n + 32) size then (at + n) ∷ [] else []) new

-- n bytes of a free chunk other than the top were taken, and the heap moved with its bins.
pub record IsChunkTaken {A : Type 0} (links : Links A) (old : Dlmalloc A) (at size n : ℕ) (new : Dlmalloc A) : Type 0 where
  pub taken : IsTaken (state_of links.word old) (record { at = at; size = size; kind = Free }) n (state_of links.word new)
  pub turned : TurnsInOrder links.regions links.word links.follows old new

-- n bytes can be cut from the top, and leave a rest.
pub record CanCutTop {A : Type 0} (links : Links A) (heap : Dlmalloc A) (n : ℕ) : Type 0 where
  pub sound : IsSoundBy links heap
  pub there : 0 < heap.size
  pub bytes : IsChunkSize n
  pub fits : n < heap.top_size

-- n bytes were cut from the top: its head, and that of its foot, are at boundaries, and other extents stay.
pub record IsTopCut {A : Type 0} (links : Links A) (old : Dlmalloc A) (n : ℕ) (new : Dlmalloc A) : Type 0 where
  pub taken : IsTaken (state_of links.word old) (record { at = old.top; size = old.top_size; kind = Top }) n (state_of links.word new)
  pub head : IsBoundary (state_of links.word new) (old.top + 8)
  pub foot : IsBoundary (state_of links.word new) (old.top + old.top_size + 8)
  pub others : (one : Extent) → one.at ≢ old.top → extent_at one.at (extents_in (state_of links.word old)) ≡ Some one → extent_at one.at (extents_in (state_of links.word new)) ≡ Some one
  pub moves : MovesBesideBins links.regions links.word links.follows old [] [] new

-- ---- a chunk in use is split

-- A chunk in use became two: its first n bytes, and the rest.
pub record IsSplit {A : Type 0} (regions : A → List Grant) (word : A → ℕ → ℕ) (follows : A → List Event → A → Type 0) (old : Dlmalloc A) (at size n : ℕ) (new : Dlmalloc A) : Type 0 where
  pub state : state_of word new ≡ exchanged (state_of word old) at (halves n)
  pub first : IsUsedAt (state_of word new) at n
  pub second : IsUsedAt (state_of word new) (at + n) (size - n)
  pub others : HasSameOthers (state_of word old) (state_of word new) at (at + n)
  pub words : (k : ℕ) → IsWordOf (regions old.system) k → k ≢ at + 8 → k ≢ at + n + 8 → word new.system k ≡ word old.system k
  pub moves : MovesBesideBins regions word follows old [] [] new

-- What stands before a place in a chunk in use can be freed: there are no bytes, or at least 32.
pub record CanLoseLead (heap : HeapState) (at size place : ℕ) : Type 0 where
  pub chunk : IsUsedAt heap at size
  pub lead : (place ≡ at) ⊎ (at + 32 ≤ place)
  pub whole : (place - at) % 16 ≡ 0
  pub room : place - at + 32 ≤ size

-- What stood before a place in a chunk in use was freed: what is left of the chunk begins there. Other blocks keep their words, and the
-- system was asked for nothing.
pub record LosesLead {A : Type 0} (links : Links A) (old : Dlmalloc A) (at place : ℕ) (new : Dlmalloc A) : Type 0 where
  pub others : HasOneMoved (state_of links.word old) (state_of links.word new) at place
  pub kept : KeepsOthers (state_of links.word old) at (links.word old.system) (links.word new.system)
  pub sound : IsSoundBy links new
  pub bins : KeepsBinsInOrder links.regions links.word old new
  pub asks : AsksNothing links old.system new.system
  pub open asks use *

-- A chunk in use has n bytes: what is behind them can be freed.
pub record CanLoseTail (heap : HeapState) (at size n : ℕ) : Type 0 where
  pub chunk : IsUsedAt heap at size
  pub bytes : IsChunkSize n
  pub room : n ≤ size

-- Of the chunk of a block, n bytes at the aligned place are left, or a few more, and what was before and behind them is free.
pub record IsAligned {A : Type 0} (regions : A → List Grant) (word : A → ℕ → ℕ) (follows : A → List Event → A → Type 0) (old : Dlmalloc A) (ptr align n result : ℕ) (new : Dlmalloc A) : Type 0 where
  pub place : result ≡ aligned_place (ptr - 16) align
  pub multiple : (result + 16) % align ≡ 0
  pub small : result + 16 < 2 ^ 64
  pub state : state_of word new ≡ aligned (state_of word old) (ptr - 16) align n
  pub held : (size : ℕ) × IsUsedAt (state_of word new) result size × (n ≤ size) × (size ≤ n + 32)
  pub others : HasOneMoved (state_of word old) (state_of word new) (ptr - 16) result
  pub kept : KeepsOthers (state_of word old) (ptr - 16) (word old.system) (word new.system)
  pub words : (k : ℕ) → IsWordOf (regions old.system) k → IsPassedOver (state_of word old) (lead_freed (state_of word old) (ptr - 16) result) (state_of word new) k → word new.system k ≡ word old.system k
  pub sound : IsSound regions word new
  pub regions_same : regions new.system ≡ regions old.system
  pub followed : follows old.system [] new.system
  pub order : KeepsOrderThrough regions word (lead_freed (state_of word old) (ptr - 16) result) old new

-- ---- a chunk in use grows

-- An intact heap has a chunk in use at an address, which may get n bytes.
pub record CanResize {A : Type 0} (links : Links A) (heap : Dlmalloc A) (at n : ℕ) : Type 0 where
  pub intact : IsIntactBy links heap
  pub chunk : (size : ℕ) × IsUsedAt (state_of links.word heap) at size
  pub bytes : IsChunkSize n

-- A chunk in use takes n bytes and more of the free one behind it, which was in no bin: a rest of less than 32 goes with them.
pub record IsPartJoined {A : Type 0} (regions : A → List Grant) (word : A → ℕ → ℕ) (follows : A → List Event → A → Type 0) (old : Dlmalloc A) (at size length n : ℕ) (new : Dlmalloc A) : Type 0 where
  pub state : state_of word new ≡ grown_into (state_of word old) (record { at = at; size = size; kind = Used }) (record { at = at + size; size = length; kind = Free }) n
  pub held : (whole : ℕ) × IsUsedAt (state_of word new) at whole × (n ≤ whole) × (whole < n + 32)
  pub others : HasSameOthers (state_of word old) (state_of word new) at at
  pub rest : n + 32 ≤ size + length → IsFreeAt (state_of word new) (at + n) (size + length - n)
  pub moves : MovesBesideBins regions word follows old ((at + size) ∷ []) (if nat_le (n + 32) (size + length) then (at + n) ∷ [] else []) new

-- The chunk before the top can grow to n bytes, and the top keeps a rest.
pub record CanTakeOfTop {A : Type 0} (word : A → ℕ → ℕ) (heap : Dlmalloc A) (at size n : ℕ) : Type 0 where
  pub chunk : IsUsedAt (state_of word heap) at size
  pub next : at + size ≡ heap.top
  pub whole : n % 16 ≡ 0
  pub more : size < n
  pub room : n < size + heap.top_size

-- The chunk before the top grew so.
pub record TakesOfTop {A : Type 0} (links : Links A) (old : Dlmalloc A) (at size n : ℕ) (new : Dlmalloc A) : Type 0 where
  pub state : state_of links.word new ≡ grown_into (state_of links.word old) (record { at = at; size = size; kind = Used }) (record { at = at + size; size = old.top_size; kind = Top }) n
  pub held : IsUsedAt (state_of links.word new) at n
  pub others : HasSameOthers (state_of links.word old) (state_of links.word new) at at
  pub moves : MovesBesideBins links.regions links.word links.follows old [] [] new

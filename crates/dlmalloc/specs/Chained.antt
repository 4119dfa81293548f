-- Where a segment stands in the chain of records, and how it leaves it.
use Rattle.std.specs.Prelude.{◌≡◌, ◌≢◌, ℕ, ◌+◌, ◌%◌, ◌^◌, ◌⊎◌, Bool, ◌&&◌, ◌==◌, if◌then◌else◌, List, [], ◌∷◌, ◌++◌, Some}
use Rattle.heap_memory.specs.declared.grant.Grant.{Grant}
use Rattle.heap_memory.specs.Regions.{IsWordOf}
use Rattle.heap_memory.specs.Events.{Event}
use Rattle.dlmalloc_chunks.specs.declared.extent.Extent.{Extent}
use Rattle.dlmalloc.specs.Extents.{extent_at}
use Rattle.dlmalloc.specs.State.{Segment, extents_in}
use Rattle.dlmalloc.specs.Boundaries.{IsInFree, IsInRecord}
use Rattle.dlmalloc.specs.Segments.{AreRecords}
use Rattle.dlmalloc.specs.Prepended.{payload_behind}
use Rattle.dlmalloc.specs.Released.{releases, regions_without}
use Rattle.dlmalloc.specs.Grown.{HasSameUsed}
use Rattle.dlmalloc.specs.Heap.{segments_of, state_of, IsSound}
use Rattle.dlmalloc.specs.declared.heap.Dlmalloc.{Dlmalloc}
use Rattle.dlmalloc.specs.declared.record.SegmentRecord.{SegmentRecord}

-- the last of some segments, whose record's payload begins at an address and names the next one
pub record IsToldByLast (words : ℕ → ℕ) (next before payload : ℕ) (front : List Segment) : Type 0 where
  pub first : List Segment
  pub last : Segment
  pub is : front ≡ first ++ last ∷ []
  pub reached : before ≡ payload_behind words next first
  pub some : before ≢ 0
  pub tells : payload ≡ words (before + 16)

-- What names the record after those of some segments: the field of the heap if there are none; else the record of the
-- last, whose payload is not at 0.
abbrev pub IsLinked : (ℕ → ℕ) → ℕ → ℕ → ℕ → List Segment → Type 0
IsLinked words next before payload front = ((front ≡ []) × (before ≡ 0) × (payload ≡ next)) ⊎ IsToldByLast words next before payload front

-- a segment after the head, and what its record says
pub record IsChained {A : Type 0} (word : A → ℕ → ℕ) (heap : Dlmalloc A) (before : ℕ) (told : SegmentRecord) : Type 0 where
  pub head : Segment
  pub front : List Segment
  pub segment : Segment
  pub back : List Segment
  pub payload : ℕ
  pub is : segments_of word heap ≡ head ∷ (front ++ segment ∷ back)
  pub records : AreRecords (word heap.system) payload (segment ∷ back)
  pub linked : IsLinked (word heap.system) heap.next before payload front
  pub read : told ≡ record { base = word heap.system payload; size = word heap.system (payload + 8); next = word heap.system (payload + 16); flags = word heap.system (payload + 24) % 2 ^ 32 }

-- Some segments left a heap, and had no extent in use. What is still found was found before, and of the words that are
-- still granted only those in free extents and of records changed.
pub record HaveLeft {A : Type 0} (regions : A → List Grant) (word : A → ℕ → ℕ) (follows : A → List Event → A → Type 0) (segments : List Segment) (old new : Dlmalloc A) : Type 0 where
  pub sound : IsSound regions word new
  pub used : HasSameUsed (state_of word old) (state_of word new)
  pub before : (one : Extent) → extent_at one.at (extents_in (state_of word new)) ≡ Some one → extent_at one.at (extents_in (state_of word old)) ≡ Some one
  pub words : (k : ℕ) → IsWordOf (regions new.system) k → (IsInFree (state_of word old) k → ⊥) → (IsInRecord (state_of word old) k → ⊥) → word new.system k ≡ word old.system k
  pub regions_are : regions new.system ≡ regions_without segments (regions old.system)
  pub followed : follows old.system (releases segments) new.system

-- A segment was visited. It left or it stayed, and if it was handed out, the victim does not lie in it.
pub record IsVisited {A : Type 0} (regions : A → List Grant) (word : A → ℕ → ℕ) (follows : A → List Event → A → Type 0) (handed leaves : Bool) (old : Dlmalloc A) (before : ℕ) (told : SegmentRecord) (chained : IsChained word old before told) (new : Dlmalloc A) : Type 0 where
  pub segments : segments_of word new ≡ chained.head ∷ (chained.front ++ (if leaves then chained.back else chained.segment ∷ chained.back))
  pub records : AreRecords (word new.system) told.next chained.back
  pub linked : IsLinked (word new.system) new.next (if leaves then before else chained.payload) told.next (if leaves then chained.front else chained.front ++ chained.segment ∷ [])
  pub victim : new.victim ≡ (if handed && chained.segment.base == old.victim then 0 else old.victim)
  pub left : HaveLeft regions word follows (if leaves then chained.segment ∷ [] else []) old new
  pub granularity_same : new.granularity ≡ old.granularity
  pub rate_same : new.rate ≡ old.rate
  pub trim_check_same : new.trim_check ≡ old.trim_check
  pub size_same : new.size ≡ old.size

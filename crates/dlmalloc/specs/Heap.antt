-- What the fields of a heap and the words of its system mean.
use Rattle.std.specs.Prelude.{◌≡◌, ◌≢◌, ℕ, ◌+◌, ◌/◌, ◌^◌, ◌<◌, ◌≤◌, ◌==◌, if◌then◌else◌, List, [], ◌∷◌, ◌++◌, Some}
use Rattle.std.specs.Int.{IsPowerOfTwo}
use Rattle.heap_memory.specs.declared.grant.Grant.{Grant}
use Rattle.heap_memory.specs.declared.links.Links.{Ghosts as Links}
use Rattle.dlmalloc_chunks.specs.declared.extent.Kind.TheVariants.{Free, Top}
use Rattle.dlmalloc.specs.Extents.{chunks_from, extent_at}
use Rattle.dlmalloc.specs.State.{HeapState, Segment, extents_in}
use Rattle.dlmalloc.specs.Granted.{top_and_foot}
use Rattle.dlmalloc.specs.Segments.{AreSegments, AreApart, records_from, AreRecords}
use Rattle.dlmalloc.specs.declared.heap.Dlmalloc.{Dlmalloc}

-- the head segment, as the fields describe it, and those that the records describe: there are fewer of them than
-- addresses
abbrev pub segments_of : {A : Type 0} → (A → ℕ → ℕ) → Dlmalloc A → List Segment
segments_of word heap =
    if heap.size == 0 then [] else
    (record { base = heap.base; size = heap.size; flags = heap.flags; extents = chunks_from (word heap.system) (heap.size / 16) heap.base heap.top ++ top_and_foot heap.top (heap.base + heap.size) })
    ∷ records_from (word heap.system) (2 ^ 64) heap.next

-- the state of a heap
abbrev pub state_of : {A : Type 0} → (A → ℕ → ℕ) → Dlmalloc A → HeapState
state_of word heap = record { segments = segments_of word heap; victim = heap.victim; granularity = heap.granularity; rate = heap.rate; countdown = heap.countdown; trim_check = heap.trim_check }

-- a granularity is a power of two of at least 16
abbrev pub IsGranularity : ℕ → Type 0
IsGranularity granularity = IsPowerOfTwo granularity × (16 ≤ granularity)

-- the fields describe the head segment, and each other one is described by its record
abbrev pub AreTold : {A : Type 0} → (ℕ → ℕ) → Dlmalloc A → List Segment → Type 0
AreTold words heap [] = heap.size ≡ 0
AreTold words heap (segment ∷ segments) =
    (0 < heap.size) × (heap.base ≡ segment.base) × (heap.size ≡ segment.size) × (heap.flags ≡ segment.flags)
    × (extent_at heap.top segment.extents ≡ Some (record { at = heap.top; size = heap.top_size; kind = Top })) × AreRecords words heap.next segments

-- The heap keeps to its rules: each of its segments is one, they are apart and described by the fields and the records,
-- and the victim is one of the free extents.
pub record IsSound {A : Type 0} (regions : A → List Grant) (word : A → ℕ → ℕ) (heap : Dlmalloc A) : Type 0 where
  pub granularity : IsGranularity heap.granularity
  pub segments : AreSegments (regions heap.system) (word heap.system) (segments_of word heap)
  pub apart : AreApart (segments_of word heap)
  pub told : AreTold (word heap.system) heap (segments_of word heap)
  pub none : heap.size ≡ 0 → heap.top_size ≡ 0
  pub no_victim : heap.victim_size ≡ 0 → heap.victim ≡ 0
  pub victim : heap.victim_size ≢ 0 → extent_at heap.victim (extents_in (state_of word heap)) ≡ Some (record { at = heap.victim; size = heap.victim_size; kind = Free })

-- so says what its system means by its regions and words
abbrev pub IsSoundBy : {A : Type 0} → Links A → Dlmalloc A → Type 0
IsSoundBy links heap = IsSound links.regions links.word heap

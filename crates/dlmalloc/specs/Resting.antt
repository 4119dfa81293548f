-- On what of its system a heap rests: what others do with the rest leaves it as it is.
use Rattle.std.specs.Prelude.{◌≡◌, ℕ, ◌+◌, ◌<◌, ◌≤◌, ◌⊎◌, ◌&&◌, nat_lt, List, filter, Some, IsTrue}
use Rattle.std.specs.List.{list_any, AllByRecursion}
use Rattle.heap_memory.specs.declared.grant.Grant.{Grant}
use Rattle.heap_memory.specs.Regions.{IsWordOf}
use Rattle.dlmalloc_chunks.specs.declared.extent.Extent.{Extent}
use Rattle.dlmalloc_chunks.specs.declared.extent.Kind.TheVariants.{Used}
use Rattle.dlmalloc.specs.Extents.{extent_at}
use Rattle.dlmalloc.specs.State.{HeapState, Segment, extents_in}
use Rattle.dlmalloc.specs.Segments.{has_byte_in}
use Rattle.dlmalloc.specs.Binned.{IsBinned}
use Rattle.dlmalloc.specs.Order.{KeepsIndex}
use Rattle.dlmalloc.specs.Heap.{state_of, IsSound}
use Rattle.dlmalloc.specs.declared.heap.Dlmalloc.{Dlmalloc}

-- the regions that have a byte of a segment
abbrev pub regions_in : Segment → List Grant → List Grant
regions_in segment regions = filter (λ region. nat_lt region.base (segment.base + segment.size) && nat_lt segment.base (region.base + region.size)) regions

-- The regions of a heap's segments stay.
abbrev pub KeepsRegions : List Segment → List Grant → List Grant → Type 0
KeepsRegions segments old new = AllByRecursion (λ (segment : Segment). regions_in segment new ≡ regions_in segment old) segments

-- Of a heap's segments only words of blocks changed: those after a block's head, and the first word of the extent after
-- it.
abbrev pub OnlyBlocksChange : List Grant → HeapState → (ℕ → ℕ) → (ℕ → ℕ) → Type 0
OnlyBlocksChange regions heap old new = (k : ℕ) → IsWordOf regions k → IsTrue (list_any (has_byte_in k) heap.segments) →
    ((used : Extent) → used.kind ≡ Used → extent_at used.at (extents_in heap) ≡ Some used → (k < used.at + 16) ⊎ (used.at + used.size + 8 ≤ k)) → new k ≡ old k

-- A sound heap rests on the regions of its segments, and on their words outside of its blocks, and so do its bins: with a system
-- that has these regions and words, it is sound and in the same state, and its bins are linked.
abbrev pub RestsOutside : {A : Type 0} → (A → List Grant) → (A → ℕ → ℕ) → Dlmalloc A → Type 0
RestsOutside {A} regions word heap = IsSound regions word heap → (system : A) → KeepsRegions (state_of word heap).segments (regions heap.system) (regions system) →
    OnlyBlocksChange (regions heap.system) (state_of word heap) (word heap.system) (word system) →
    IsSound regions word (record heap { system = system }) × (state_of word (record heap { system = system }) ≡ state_of word heap)
    × (IsBinned regions word heap → IsBinned regions word (record heap { system = system }))

-- And so does the order of the bins: with such a system they have the same chunks, each size in its order.
abbrev pub OrderRestsOutside : {A : Type 0} → (A → List Grant) → (A → ℕ → ℕ) → Dlmalloc A → Type 0
OrderRestsOutside {A} regions word heap = IsSound regions word heap → (system : A) → KeepsRegions (state_of word heap).segments (regions heap.system) (regions system) →
    OnlyBlocksChange (regions heap.system) (state_of word heap) (word heap.system) (word system) →
    KeepsIndex regions word heap (record heap { system = system })

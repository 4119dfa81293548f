-- Walking over the chunks of a segment, the sizes of those in a bin, and segments as spans of chunks.
use Rattle.std.specs.Prelude.{◌≡◌, ℕ, ◌+◌, ◌/◌, ◌^◌, ◌<◌, ◌≤◌, ◌⊎◌, ⊤, List, [], ◌∷◌, ◌++◌, map, filter, IsTrue}
use Rattle.heap_memory.specs.declared.grant.Grant.{Grant}
use Rattle.heap_memory.specs.Regions.{is_granted}
use Rattle.dlmalloc_chunks.specs.declared.extent.Extent.{Extent}
use Rattle.dlmalloc_chunks.specs.declared.extent.Kind.{Kind}
use Rattle.dlmalloc_chunks.specs.declared.extent.Kind.TheVariants.{Used, Free, Top, Record, Foot}
use Rattle.dlmalloc_chunks.specs.Head.{size_of}
use Rattle.dlmalloc.specs.Extents.{kind_of, chunks_from, Tiles}
use Rattle.dlmalloc.specs.State.{HeapState, is_binned, Segment}
use Rattle.dlmalloc.specs.declared.walk.Span.{Span}
use Rattle.dlmalloc.specs.declared.walk.Tail.{Tail}
use Rattle.dlmalloc.specs.declared.walk.Tail.TheVariants.{TopAndFoot, OneRecord}

-- the chunk at an address, as its head describes it
abbrev pub chunk_told : (ℕ → ℕ) → ℕ → Extent
chunk_told words at = record { at = at; size = size_of (words (at + 8)); kind = kind_of (words (at + 8)) }

-- the chunks from an address on up to another
abbrev pub chunks_between : (ℕ → ℕ) → ℕ → ℕ → List Extent
chunks_between words from to = chunks_from words (to / 16) from to

-- chunks are in use or free
abbrev pub IsChunkKind : Kind → Type 0
IsChunkKind kind = (kind ≡ Used) ⊎ (kind ≡ Free)

abbrev pub AreChunks : List Extent → Type 0
AreChunks [] = ⊤
AreChunks (extent ∷ extents) = IsChunkKind extent.kind × AreChunks extents

-- chunks tile a range of granted bytes, after which an extent stands
pub record IsChunkRun (regions : List Grant) (words : ℕ → ℕ) (from to : ℕ) : Type 0 where
  pub chunks : List Extent
  pub stand : Tiles words Used from chunks to
  pub are : AreChunks chunks
  pub granted : (k : ℕ) → from ≤ k → k < to + 16 → IsTrue (is_granted regions k)
  pub small : to + 16 ≤ 2 ^ 64

-- one of some extents
abbrev pub IsAmong : Extent → List Extent → Type 0
IsAmong extent [] = ⊥
IsAmong extent (first ∷ extents) = (first ≡ extent) ⊎ IsAmong extent extents

-- the sizes of those in a bin
abbrev pub binned_sizes : HeapState → List Extent → List ℕ
binned_sizes heap extents = map (λ (extent : Extent). extent.size) (filter (is_binned heap) extents)

-- ---- segments as spans

-- what stands after the chunks of a segment, from an address on
abbrev pub tail_at : (top top_size at : ℕ) → Tail → List Extent
tail_at top top_size at TopAndFoot = (record { at = top; size = top_size; kind = Top }) ∷ (record { at = top + top_size; size = 80; kind = Foot }) ∷ []
tail_at top top_size at (OneRecord size) = (record { at = at; size = size; kind = Record }) ∷ []

-- the extents of a segment that a span describes
abbrev pub span_extents : (words : ℕ → ℕ) (top top_size : ℕ) → Span → List Extent
span_extents words top top_size span = chunks_between words span.from span.to ++ tail_at top top_size span.to span.tail

-- a span describes a segment
pub record IsSpan (regions : List Grant) (words : ℕ → ℕ) (top top_size : ℕ) (span : Span) (segment : Segment) : Type 0 where
  pub base : span.from ≡ segment.base
  pub run : IsChunkRun regions words span.from span.to
  pub extents : span_extents words top top_size span ≡ segment.extents

-- spans describe segments, one each
abbrev pub AreSpansOf : (regions : List Grant) (words : ℕ → ℕ) (top top_size : ℕ) → List Span → List Segment → Type 0
AreSpansOf regions words top top_size [] [] = ⊤
AreSpansOf regions words top top_size [] (segment ∷ segments) = ⊥
AreSpansOf regions words top top_size (span ∷ spans) [] = ⊥
AreSpansOf regions words top top_size (span ∷ spans) (segment ∷ segments) = IsSpan regions words top top_size span segment × AreSpansOf regions words top top_size spans segments

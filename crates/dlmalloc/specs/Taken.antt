-- A free extent is cut for a request (dlmalloc: `malloc_small`, `malloc_large`).
use Rattle.std.specs.Prelude.{◌≡◌, ℕ, ◌+◌, ◌-◌, ◌≤◌, Bool, ◌&&◌, ◌||◌, ◌==◌, nat_le, nat_lt, if◌then◌else◌, List, [], ◌∷◌, map, flat_map, Some}
use Rattle.dlmalloc_chunks.specs.declared.extent.Extent.{Extent}
use Rattle.dlmalloc_chunks.specs.declared.extent.Kind.TheVariants.{Used, Free}
use Rattle.dlmalloc.specs.Extents.{extent_at, IsChunkSize}
use Rattle.dlmalloc.specs.State.{HeapState, Segment, extents_in, is_top}
use Rattle.dlmalloc.specs.Blocks.{HasOneMore}

-- the extents, with others for the one at an address
abbrev pub replaced : ℕ → (Extent → List Extent) → List Extent → List Extent
replaced at others extents = flat_map (λ extent. if extent.at == at then others extent else extent ∷ []) extents

abbrev pub in_segments : (List Extent → List Extent) → List Segment → List Segment
in_segments change segments = map {B = Segment} (λ segment. record segment { extents = change segment.extents }) segments

-- whether a rest is cut off: of the top always, else from 32 bytes on
abbrev pub leaves_rest : ℕ → Extent → Bool
leaves_rest n extent = is_top extent.kind || nat_le (n + 32) extent.size

-- n bytes of an extent in use, and the rest as it was; or all of it in use
abbrev pub cut : ℕ → Extent → List Extent
cut n extent =
    if leaves_rest n extent
    then (record { at = extent.at; size = n; kind = Used }) ∷ (record { at = extent.at + n; size = extent.size - n; kind = extent.kind }) ∷ []
    else (record extent { kind = Used }) ∷ []

-- The rest of the victim is the victim, and so is the rest of a binned extent that served a small chunk.
abbrev pub victim_after : HeapState → ℕ → Extent → ℕ
victim_after heap n extent =
    if is_top extent.kind then heap.victim else
    if extent.at == heap.victim then (if leaves_rest n extent then extent.at + n else 0) else
    if leaves_rest n extent && nat_lt n 256 then extent.at + n else heap.victim

abbrev pub taken : HeapState → Extent → ℕ → HeapState
taken heap extent n = record heap {
  segments = in_segments (replaced extent.at (cut n)) heap.segments;
  victim = victim_after heap n extent;
}

-- A free chunk can be cut for n bytes.
pub record CanCut (heap : HeapState) (at size n : ℕ) : Type 0 where
  pub chunk : extent_at at (extents_in heap) ≡ Some (record { at = at; size = size; kind = Free })
  pub bytes : IsChunkSize n
  pub fits : n ≤ size

-- Bytes were taken from an extent: one more is in use, where it begins.
pub record IsTaken (old : HeapState) (extent : Extent) (n : ℕ) (new : HeapState) : Type 0 where
  pub state : new ≡ taken old extent n
  pub more : HasOneMore old new extent.at

-- A block gets another size where it stands (dlmalloc: `try_realloc_chunk`).
use Rattle.std.specs.Prelude.{◌≡◌, ◌≢◌, ℕ, ◌+◌, ◌-◌, ◌%◌, ◌<◌, ◌≤◌, Bool, ◌&&◌, ◌==◌, nat_le, nat_lt, if◌then◌else◌, List, [], ◌∷◌, ◌++◌, Option, Some, None}
use Rattle.dlmalloc_chunks.specs.declared.extent.Extent.{Extent}
use Rattle.dlmalloc_chunks.specs.declared.extent.Kind.TheVariants.{Used, Free}
use Rattle.dlmalloc.specs.Extents.{extent_at, is_free, IsChunkSize}
use Rattle.dlmalloc.specs.State.{HeapState, extents_in, is_top, is_victim}
use Rattle.dlmalloc.specs.Taken.{replaced, in_segments, leaves_rest, cut}
use Rattle.dlmalloc.specs.Freed.{freed}

-- the heap, with other extents for the one at an address
abbrev pub exchanged : HeapState → ℕ → (Extent → List Extent) → HeapState
exchanged heap at others = record heap { segments = in_segments (replaced at others) heap.segments }

-- an extent in use as two: its first n bytes, and the rest
abbrev pub halves : ℕ → Extent → List Extent
halves n extent = (record { at = extent.at; size = n; kind = Used }) ∷ (record { at = extent.at + n; size = extent.size - n; kind = Used }) ∷ []

-- A chunk in use can be split after its first n bytes.
pub record CanSplit (heap : HeapState) (at size n : ℕ) : Type 0 where
  pub chunk : extent_at at (extents_in heap) ≡ Some (record { at = at; size = size; kind = Used })
  pub bytes : IsChunkSize n
  pub room : n + 32 ≤ size

-- n bytes of the extent in use at an address stay in use, and the rest is freed
abbrev pub tail_freed : HeapState → ℕ → ℕ → HeapState
tail_freed heap at n = freed (exchanged heap at (halves n)) (at + n)

-- An extent in use keeps n bytes. A rest of less than 32 stays with it.
abbrev pub shrunk : HeapState → Extent → ℕ → HeapState
shrunk heap extent n = if nat_le (n + 32) extent.size then tail_freed heap extent.at n else heap

-- the extents, with others for the one at an address and the one after it
abbrev pub replaced_both : ℕ → (Extent → Extent → List Extent) → List Extent → List Extent
replaced_both at others [] = []
replaced_both at others (extent ∷ []) = extent ∷ []
replaced_both at others (extent ∷ next ∷ extents) =
    if extent.at == at then others extent next ++ extents else extent ∷ replaced_both at others (next ∷ extents)

-- an extent and the free one after it, as one free extent
abbrev pub joined : Extent → Extent → Extent
joined extent next = record { at = extent.at; size = extent.size + next.size; kind = next.kind }

-- whether an extent is free, and n bytes can be cut from it: the top is never used up
abbrev pub has_room : ℕ → Extent → Bool
has_room n extent = if is_top extent.kind then nat_lt n extent.size else is_free extent.kind && nat_le n extent.size

-- A chunk in use stands before a free one, and together they have n bytes.
pub record CanTakeFree (heap : HeapState) (at size free n : ℕ) : Type 0 where
  pub chunk : extent_at at (extents_in heap) ≡ Some (record { at = at; size = size; kind = Used })
  pub next : extent_at (at + size) (extents_in heap) ≡ Some (record { at = at + size; size = free; kind = Free })
  pub whole : n % 16 ≡ 0
  pub more : size < n
  pub room : n ≤ size + free

-- An extent in use takes n bytes, those of the free one after it among them. A rest of less than 32 stays with it, but
-- for the top's; any other rest is what the free one was: the top, the victim or in a bin.
abbrev pub grown_into : HeapState → Extent → Extent → ℕ → HeapState
grown_into heap extent next n = record heap {
  segments = in_segments (replaced_both extent.at (λ one behind. cut n (joined one behind))) heap.segments;
  victim = if is_victim heap next then (if leaves_rest n (joined extent next) then extent.at + n else 0) else heap.victim;
}

-- The extent in use at an address takes n bytes where it stands: it keeps them if it has them; else it takes in the
-- free extent after it, if both have room for them. None if neither fits.
abbrev pub in_place : HeapState → ℕ → ℕ → Option HeapState
in_place heap at n = resized (extent_at at (extents_in heap))
  where
    grown : Extent → Option Extent → Option HeapState
    grown extent None = None
    grown extent (Some next) = if has_room n (joined extent next) then Some (grown_into heap extent next n) else None

    resized : Option Extent → Option HeapState
    resized None = None
    resized (Some extent) = if nat_le n extent.size then Some (shrunk heap extent n) else grown extent (extent_at (extent.at + extent.size) (extents_in heap))

-- Two heaps have the same extents in use, but for those at two addresses.
pub record HasSameOthers (old new : HeapState) (one other : ℕ) : Type 0 where
  pub kept : (used : Extent) → used.kind ≡ Used → used.at ≢ one → used.at ≢ other → extent_at used.at (extents_in old) ≡ Some used → extent_at used.at (extents_in new) ≡ Some used
  pub only : (used : Extent) → used.kind ≡ Used → used.at ≢ one → used.at ≢ other → extent_at used.at (extents_in new) ≡ Some used → extent_at used.at (extents_in old) ≡ Some used

-- The free extents of segments.
use Rattle.std.specs.Prelude.{◌≡◌, ◌≢◌, ℕ, ◌+◌, ◌<◌, ◌≤◌, ⊤, List, [], ◌∷◌, filter, Some, IsTrue}
use Rattle.std.specs.List.{AllByRecursion}
use Rattle.dlmalloc_chunks.specs.declared.extent.Extent.{Extent}
use Rattle.dlmalloc_chunks.specs.declared.extent.Kind.{Kind}
use Rattle.dlmalloc_chunks.specs.declared.extent.Kind.TheVariants.{Used, Free, Top}
use Rattle.dlmalloc.specs.Extents.{extent_at, is_free}
use Rattle.dlmalloc.specs.State.{HeapState, Segment, extents_in}

-- a free extent of the given size begins at an address, and is not the top
abbrev pub IsFreeAt : HeapState → ℕ → ℕ → Type 0
IsFreeAt heap at size = extent_at at (extents_in heap) ≡ Some (record { at = at; size = size; kind = Free })

-- one of some extents is in use, and stands between two addresses
pub record HasUsedBetween (extents : List Extent) (from to : ℕ) : Type 0 where
  pub used : Extent
  pub there : extent_at used.at extents ≡ Some used
  pub is : used.kind ≡ Used
  pub behind : from ≤ used.at
  pub before : used.at + used.size ≤ to

-- between two free extents stands one in use
abbrev pub AreParted : List Extent → Type 0
AreParted extents = (first second : Extent) → extent_at first.at extents ≡ Some first → extent_at second.at extents ≡ Some second →
    IsTrue (is_free first.kind) → IsTrue (is_free second.kind) → first.at < second.at → HasUsedBetween extents (first.at + first.size) second.at

-- no extent of the heap is in use
abbrev pub IsUnused : HeapState → Type 0
IsUnused heap = (extent : Extent) → extent_at extent.at (extents_in heap) ≡ Some extent → extent.kind ≢ Used

-- one of some extents is free, of this kind, and no other is
pub record HasOneFree (kind : Kind) (extents : List Extent) : Type 0 where
  pub extent : Extent
  pub only : filter (λ extent. is_free extent.kind) extents ≡ extent ∷ []
  pub is : extent.kind ≡ kind

-- each segment has one free extent: the head its top, and every other one a free chunk
abbrev pub EachHasOneFree : List Segment → Type 0
EachHasOneFree [] = ⊤
EachHasOneFree (head ∷ segments) = HasOneFree Top head.extents × AllByRecursion (λ segment. HasOneFree Free segment.extents) segments

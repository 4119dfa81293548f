-- The extents of the heap of a state.
use Rattle.std.specs.Prelude.{◌≡◌, ℕ, ◌+◌, ◌≤◌, ⊤, Bool, true, ◌==◌, IsTrue, List, [], ◌∷◌, Some}
use Rattle.std.specs.List.{list_any}
use Rattle.dlmalloc_chunks.specs.declared.extent.Extent.{Extent}
use Rattle.dlmalloc_chunks.specs.declared.extent.Kind.TheVariants.{Used}
use Rattle.dlmalloc_chunks.specs.Kinds.{ends_segment}
use Rattle.dlmalloc_chunks.specs.Tiling.{AreExtents, has_byte, extent_at}
use Rattle.machine_model.specs.declared.region.Region.{Region}
use Rattle.machine_model.specs.State.{State, Block, block_at, end_of_region, is_within}

-- A block's extent: the block begins 16 bytes after the extent's beginning, and reaches at most into the 8 bytes after
-- its end. At most 79 of the extent's bytes are not the block's.
pub record IsExtentOf (block : Block) (extent : Extent) : Type 0 where
  pub used : extent.kind ≡ Used
  pub place : block.address ≡ extent.at + 16
  pub holds : block.size + 8 ≤ extent.size
  pub little : extent.size ≤ block.size + 79

pub record HasExtent (extents : List Extent) (block : Block) : Type 0 where
  pub extent : Extent
  pub there : extent_at extent.at extents ≡ Some extent
  pub is : IsExtentOf block extent

pub record IsExtentOfBlock (s : State) (extent : Extent) : Type 0 where
  pub number : ℕ
  pub block : Block
  pub there : block_at s.blocks number ≡ Some block
  pub is : IsExtentOf block extent

-- whether a region begins, and whether it ends, at an address
abbrev pub begins_at : ℕ → Region → Bool
begins_at address region = region.start == address

abbrev pub ends_at : ℕ → Region → Bool
ends_at address region = end_of_region region == address

-- Each segment is a run of whole regions: a region begins with its first extent, and one ends with its last. `begins`
-- says whether the first of these extents begins a segment.
abbrev pub AreRuns : List Region → Bool → List Extent → Type 0
AreRuns regions begins [] = ⊤
AreRuns regions begins (extent ∷ extents) =
    (IsTrue begins → IsTrue (list_any (begins_at extent.at) regions))
    × (IsTrue (ends_segment extent.kind) → IsTrue (list_any (ends_at (extent.at + extent.size)) regions))
    × AreRuns regions (ends_segment extent.kind) extents

-- These are all extents by address: their bytes are those of the heap's regions, each segment is a run of whole
-- regions, and the extents in use and the live blocks correspond to one another.
pub record IsTiling (s : State) (extents : List Extent) : Type 0 where
  pub extents_are : AreExtents extents
  pub bytes : (address : ℕ) → list_any (has_byte address) extents ≡ list_any (is_within address) s.heap
  pub runs : AreRuns s.heap true extents
  pub blocks : (number : ℕ) (block : Block) → block_at s.blocks number ≡ Some block → HasExtent extents block
  pub used : (extent : Extent) → extent_at extent.at extents ≡ Some extent → extent.kind ≡ Used → IsExtentOfBlock s extent

-- The blocks of a heap, and what stays of them.
use Rattle.std.specs.Prelude.{◌≡◌, ◌≢◌, ℕ, ◌+◌, ◌-◌, ◌/◌, ◌%◌, ◌^◌, ◌<◌, ◌≤◌, ◌⊎◌, ◌==◌, max, List, Some, IsTrue}
use Rattle.std.specs.List.{AllByRecursion}
use Rattle.heap_memory.specs.declared.grant.Grant.{Grant}
use Rattle.heap_memory.specs.Regions.{is_granted}
use Rattle.dlmalloc_chunks.specs.declared.extent.Extent.{Extent}
use Rattle.dlmalloc_chunks.specs.declared.extent.Kind.TheVariants.{Used}
use Rattle.dlmalloc.specs.Extents.{extent_at}
use Rattle.dlmalloc.specs.State.{HeapState, extents_in, size_where}

-- a block of the given size begins at an address: its chunk has room for that many bytes and for its head, and little
-- more
pub record IsBlock (heap : HeapState) (address size : ℕ) : Type 0 where
  pub extent : Extent
  pub there : extent_at (address - 16) (extents_in heap) ≡ Some extent
  pub low : 16 ≤ address
  pub used : extent.kind ≡ Used
  pub holds : size + 8 ≤ extent.size
  pub little : extent.size ≤ size + 79

-- a block begins at an address, whatever its size
abbrev pub HasBlock : HeapState → ℕ → Type 0
HasBlock heap address = (size : ℕ) × IsBlock heap address size

-- the bytes that the block at an address has: all of its chunk but the head
abbrev pub usable : HeapState → ℕ → ℕ
usable heap address = size_where (λ extent. extent.at == address - 16) (extents_in heap) - 8

-- One heap has one more extent in use than another: the one at an address. Every other extent in use is the same in
-- both.
pub record HasOneMore (less more : HeapState) (at : ℕ) : Type 0 where
  pub kept : (used : Extent) → used.kind ≡ Used → extent_at used.at (extents_in less) ≡ Some used → extent_at used.at (extents_in more) ≡ Some used
  pub only : (used : Extent) → used.kind ≡ Used → extent_at used.at (extents_in more) ≡ Some used → used.at ≢ at → extent_at used.at (extents_in less) ≡ Some used
  pub new : (used : Extent) → used.kind ≡ Used → extent_at used.at (extents_in less) ≡ Some used → used.at ≢ at

-- A run of bytes, up to another address, meets the block of some extent in use, whatever the block's size: the block
-- has at least one byte, and its extent is at most 79 bytes longer.
pub record IsMet (heap : HeapState) (from to : ℕ) : Type 0 where
  pub used : Extent
  pub there : extent_at used.at (extents_in heap) ≡ Some used
  pub is : used.kind ≡ Used
  pub begins : used.at + 16 < to
  pub ends : from < used.at + max 17 (used.size - 63)

-- each run of `bytes` bytes of a segment meets a block
abbrev pub IsFull : HeapState → ℕ → Type 0
IsFull heap bytes = AllByRecursion (λ segment. (from : ℕ) → segment.base ≤ from → from + bytes ≤ segment.base + segment.size → IsMet heap from (from + bytes)) heap.segments

-- The bytes of a block begin at a multiple of 16 and are granted. If it has no byte, one is granted there.
pub record IsPlaced (regions : List Grant) (address size : ℕ) : Type 0 where
  pub aligned : address % 16 ≡ 0
  pub granted : (k : ℕ) → address ≤ k → k < address + max size 1 → IsTrue (is_granted regions k)
  pub small : address + max size 1 < 2 ^ 64

-- each block of a heap is placed
abbrev pub ArePlaced : List Grant → HeapState → Type 0
ArePlaced regions heap = (address size : ℕ) → IsBlock heap address size → IsPlaced regions address size

-- Two blocks of a heap have no byte in common, with one byte for a block that has none, and after each there are 8
-- bytes before the next block's head ends.
abbrev pub BlocksAreApart : HeapState → Type 0
BlocksAreApart heap = (first first_size second second_size : ℕ) → IsBlock heap first first_size → IsBlock heap second second_size → first ≢ second →
    (first + max first_size 1 + 8 ≤ second) ⊎ (second + max second_size 1 + 8 ≤ first)

-- The blocks of these extents keep their words: those after the head, and the first word of the extent after it. Of the
-- head only bit 0 may change, which says what stands before it.
pub record KeepsBlocks (extents : List Extent) (old new : ℕ → ℕ) : Type 0 where
  pub words : (block : Extent) → extent_at block.at extents ≡ Some block → block.kind ≡ Used →
      (k : ℕ) → block.at + 16 ≤ k → k < block.at + block.size + 8 → k % 8 ≡ 0 → new k ≡ old k
  pub heads : (block : Extent) → extent_at block.at extents ≡ Some block → block.kind ≡ Used → new (block.at + 8) / 2 ≡ old (block.at + 8) / 2

-- An extent stands in granted bytes, with the first two words of the extent after it, in whole units of 16 bytes.
pub record IsInside (regions : List Grant) (used : Extent) : Type 0 where
  pub granted : (k : ℕ) → used.at ≤ k → k < used.at + used.size + 16 → IsTrue (is_granted regions k)
  pub low : 4096 ≤ used.at
  pub high : used.at + used.size + 16 < 2 ^ 64
  pub whole : used.at % 16 ≡ 0
  pub size_whole : used.size % 16 ≡ 0
  pub long : 32 ≤ used.size

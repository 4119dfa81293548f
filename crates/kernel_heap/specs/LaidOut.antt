-- How a heap and the live blocks correspond, which is what a numbered heap keeps.
use Rattle.std.specs.Prelude.{◌≡◌, ◌≢◌, ℕ, ◌+◌, Bool, List, Option, Some, ◌&&◌, nat_le, IsTrue}
use Rattle.std.specs.Int.{IsPowerOfTwo}
use Rattle.std.specs.List.{list_any, AllByRecursion}
use Rattle.dlmalloc_chunks.specs.declared.extent.Extent.{Extent}
use Rattle.dlmalloc_chunks.specs.declared.extent.Kind.TheVariants.{Used}
use Rattle.dlmalloc.specs.Extents.{extent_at}
use Rattle.dlmalloc.specs.State.{HeapState, Segment, extents_in}
use Rattle.dlmalloc.specs.Blocks.{IsBlock}
use Rattle.dlmalloc.specs.declared.heap.Dlmalloc.{Dlmalloc}
use Rattle.heap_memory.specs.declared.grant.Grant.{Grant}
use Rattle.machine_model.specs.declared.live.Live.{Live}
use Rattle.kernel_heap.specs.Heap.{regions, heap_state}
use Rattle.paged_systems.specs.declared.paged_system.PagedSystem.{PagedSystem}
use Rattle.kernel_heap.specs.declared.numbered_heap.NumberedHeap.{NumberedHeap}
use Rattle.kernel_heap.specs.Numbered.{live_at}

-- whether a segment has all bytes of a region
abbrev pub has_region : Grant → Segment → Bool
has_region region segment = nat_le segment.base region.base && nat_le (region.base + region.size) (segment.base + segment.size)

-- each region lies in one of the segments
abbrev pub HaveRegions : List Segment → List Grant → Type 0
HaveRegions segments regions = AllByRecursion (λ region. IsTrue (list_any (has_region region) segments)) regions

-- a live block is one of the heap's, at an alignment
pub record IsLive (heap : HeapState) (live : Live) : Type 0 where
  pub block : IsBlock heap live.address live.size
  pub align : IsPowerOfTwo live.align

-- an extent in use is that of a live block
pub record HasLive (blocks : List (Option Live)) (extent : Extent) : Type 0 where
  pub number : ℕ
  pub live : Live
  pub is : live_at blocks number ≡ Some live
  pub place : live.address ≡ extent.at + 16

-- The heap has all of the regions, and its extents in use and the live blocks correspond to one another.
pub record IsLaidOut (heap : Dlmalloc PagedSystem) (blocks : List (Option Live)) : Type 0 where
  pub has : HaveRegions (heap_state heap).segments (regions heap.system)
  pub lives : (number : ℕ) (live : Live) → live_at blocks number ≡ Some live → IsLive (heap_state heap) live
  pub used : (extent : Extent) → extent.kind ≡ Used → extent_at extent.at (extents_in (heap_state heap)) ≡ Some extent → HasLive blocks extent
  pub distinct : (i j : ℕ) (a b : Live) → live_at blocks i ≡ Some a → live_at blocks j ≡ Some b → i ≢ j → a.address ≢ b.address

-- what a machine keeps, as a condition of its type; that its heap is sound is one of the heap's
abbrev pub IsNumberedSound : NumberedHeap → Type 0
IsNumberedSound numbered = IsLaidOut numbered.heap numbered.blocks.items

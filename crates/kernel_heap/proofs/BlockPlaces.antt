-- Where the bytes of blocks lie, and what keeps them.
use Rattle.std.proofs.Common.{◌≡◌, ℕ, ◌+◌, ◌-◌, ◌%◌, ◌<◌, ◌≤◌, max, List, sym, ap, ◌∙◌, subst, arith, Some, IsTrue}
use Rattle.std.specs.Prelude.{slice_index}
use Rattle.std.specs.Int.{w64, to_le_bytes}
use Rattle.paging_core.specs.Walk.{reached}
use Rattle.heap_memory.specs.Regions.{is_granted}
use Rattle.dlmalloc_chunks.specs.declared.extent.Extent.{Extent}
use Rattle.dlmalloc.specs.Extents.{extent_at}
use Rattle.dlmalloc.specs.Blocks.{IsBlock, ArePlaced, KeepsBlocks}
use Rattle.dlmalloc.specs.declared.heap.Dlmalloc.{Dlmalloc}
use Rattle.mapped_regions.specs.Mapped.{word_reached}
use Rattle.paged_systems.specs.System.{paged}
use Rattle.kernel_heap.specs.Heap.{regions, word, heap_state}
use Rattle.paged_systems.specs.Written.{AreHeapBytes}
use Rattle.paged_systems.specs.declared.paged_system.PagedSystem.{PagedSystem}
use Rattle.paged_systems.proofs.Bytes.{reached_byte}
use Rattle.kernel_heap.proofs.Laid.{block_place}

-- each byte of a block lies in the regions
pub bytes_within : (heap : Dlmalloc PagedSystem) → ArePlaced (regions heap.system) (heap_state heap) → (address size : ℕ) →
    IsBlock (heap_state heap) address size →
    (a : ℕ) → address ≤ a → a < address + max size 1 → AreHeapBytes (paged heap.system) a 1
bytes_within heap placed address size block a from to =
    λ k above below. subst (λ (at : ℕ). IsTrue (is_granted (regions heap.system) at))
    (let same : a ≡ k = omega arith in same) ((placed address size block).granted a from to)

-- a byte of a block is reached as before where the words of the block's extent are kept
pub byte_kept : (heap new : Dlmalloc PagedSystem) → ArePlaced (regions heap.system) (heap_state heap) →
    ArePlaced (regions new.system) (heap_state new) → (extents : List Extent) →
    KeepsBlocks extents (word heap.system) (word new.system) →
    (address size : ℕ) (old : IsBlock (heap_state heap) address size) → IsBlock (heap_state new) address size →
    extent_at old.extent.at extents ≡ Some old.extent →
    (k : ℕ) → k < size → reached (paged new.system).words (paged new.system).root (address + k) ≡ reached
    (paged heap.system).words (paged heap.system).root (address + k)
byte_kept heap new placed placed' extents keeps address size old block there k less =
    let place = block_place (heap_state heap) address size old in
    let aligned = (placed address size old).aligned in
    let holds = old.holds in
    let a : ℕ = address + k in
    let inside = bytes_within heap placed address size old (address + k) (omega arith) (omega arith) in
    let inside' = bytes_within new placed' address size block (address + k) (omega arith) (omega arith) in
    let same : word_reached (paged new.system) (address + k - (address + k) % 8) ≡ word_reached (paged heap.system) (address + k - (address + k) % 8) =
    keeps.words old.extent there old.used (address + k - (address + k) % 8) (omega arith) (omega arith) (omega arith) in
    reached_byte (paged new.system) (address + k) new.system.kept inside'
    ∙ (ap (λ w. Some (slice_index (to_le_bytes w64 w) ((address + k) % 8))) same ∙ sym (reached_byte (paged heap.system) (address + k) heap.system.kept inside))

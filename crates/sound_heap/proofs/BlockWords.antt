-- Words of the block at an address.
use Rattle.std.proofs.Common.{◌≡◌, ℕ, ◌+◌, ◌-◌, ◌%◌, ◌^◌, ◌<◌, ◌≤◌, List, Some, ◌∙◌, ap, inl, inr, arith}
use Rattle.heap_memory.specs.declared.grant.Grant.{Grant}
use Rattle.heap_memory.specs.Regions.{IsWordOf}
use Rattle.heap_memory.specs.Words.{IsStored}
use Rattle.dlmalloc.specs.State.{HeapState, extents_in}
use Rattle.dlmalloc.specs.Extents.{extent_at}
use Rattle.dlmalloc.specs.Blocks.{IsBlock, IsInside}
use Rattle.dlmalloc.specs.Heap.{state_of, IsSound}
use Rattle.dlmalloc.specs.Binned.{IsBinned}
use Rattle.dlmalloc.specs.Order.{KeepsIndex}
use Rattle.dlmalloc.specs.Resting.{OnlyBlocksChange, RestsOutside, OrderRestsOutside}
use Rattle.dlmalloc.specs.declared.heap.Dlmalloc.{Dlmalloc}
use Rattle.dlmalloc.proofs.Extents.Lookup.{found}
use Rattle.dlmalloc.proofs.Laws.{used_inside, same_regions}
use Rattle.dlmalloc.proofs.Resizing.InPlaceOrElsewhere.{size_at}
use Rattle.sound_heap.specs.Heap.{HasBlock, usable, IsIntact}

-- a block has the bytes that were asked for
pub enough : (heap : HeapState) (address size : ℕ) → IsBlock heap address size → size ≤ usable heap address
enough heap address size block = omega (arith, size_at heap (address - 16) block.extent block.there, block.holds)

module _ {A : Type 0} (regions : A → List Grant) (word : A → ℕ → ℕ) (heap : Dlmalloc A) (sound : IsSound regions word heap)
    (address : ℕ) (block : HasBlock (state_of word heap) address) where
  place : block.1.extent.at ≡ address - 16
  place = (found (address - 16) block.1.extent (extents_in (state_of word heap)) block.1.there).place

  there : extent_at block.1.extent.at (extents_in (state_of word heap)) ≡ Some block.1.extent
  there = ap (λ (a : ℕ). extent_at a (extents_in (state_of word heap))) place ∙ block.1.there

  inside : IsInside (regions heap.system) block.1.extent
  inside = used_inside regions word heap sound block.1.extent block.1.used there

  size : usable (state_of word heap) address ≡ block.1.extent.size - 8
  size = ap (λ (n : ℕ). n - 8) (size_at (state_of word heap) (address - 16) block.1.extent block.1.there)

  pub word_inside : (offset : ℕ) → offset + 8 ≤ usable (state_of word heap) address → offset % 8 ≡ 0 →
      IsWordOf (regions heap.system) (address + offset) × (address + offset < 2 ^ 64)
  word_inside offset within aligned = (
    record {
      granted = inside.granted (address + offset) (omega (arith, place, block.1.low)) (omega (arith, place, block.1.low, size, within));
      aligned = omega (arith, place, block.1.low, inside.whole, aligned);
    },
    omega (arith, place, block.1.low, size, within, inside.high),
  )

  -- where it alone changes, words of blocks alone do
  only_block : (offset value : ℕ) (new : ℕ → ℕ) → offset + 8 ≤ usable (state_of word heap) address → offset % 8 ≡ 0 →
      IsStored (regions heap.system) (word heap.system) (address + offset) value new →
      OnlyBlocksChange (regions heap.system) (state_of word heap) (word heap.system) new
  only_block offset value new within aligned stored k is there_is apart =
      stored.elsewhere k is (λ same. elim (apart block.1.extent block.1.used there) [
        | inl before ↦ omega (arith, same, place, block.1.low, before)
        | inr behind ↦ omega (arith, same, place, block.1.low, size, within, behind)
      ])

  -- so the heap is as it was
  pub still_intact : RestsOutside regions word heap → IsBinned regions word heap → (offset value : ℕ) (system : A) →
      offset + 8 ≤ usable (state_of word heap) address → offset % 8 ≡ 0 →
      regions system ≡ regions heap.system → IsStored (regions heap.system) (word heap.system) (address + offset) value (word system) →
      IsIntact regions word (record heap { system = system }) × (state_of word (record heap { system = system }) ≡ state_of word heap)
  still_intact rests linked offset value system within aligned same stored =
      let still = rests sound system (same_regions regions word heap sound system same) (only_block offset value (word system) within aligned stored) in
      (record { sound = still.0; linked = still.2 linked }, still.1)

  -- and its bins keep their order
  pub still_ordered : OrderRestsOutside regions word heap → (offset value : ℕ) (system : A) →
      offset + 8 ≤ usable (state_of word heap) address → offset % 8 ≡ 0 →
      regions system ≡ regions heap.system → IsStored (regions heap.system) (word heap.system) (address + offset) value (word system) →
      KeepsIndex regions word heap (record heap { system = system })
  still_ordered rests offset value system within aligned same stored =
      rests sound system (same_regions regions word heap sound system same) (only_block offset value (word system) within aligned stored)

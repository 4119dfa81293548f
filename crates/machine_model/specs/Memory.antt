-- Bytes that are known, and the memory that holds them.
use Rattle.std.specs.Prelude.{◌≡◌, ℕ, ◌+◌, ◌<◌, ◌≤◌, ◌⊎◌, IsTrue, List, length, slice_index, Option, Some}
use Rattle.std.specs.List.{list_any}
use Rattle.machine_model.specs.declared.region.Region.{Region}
use Rattle.machine_model.specs.State.{Known, Block, block_at, cell_at, is_within}

-- each byte that is known of a live block is the one that is reached at its address
pub record HoldsBytes (reached : ℕ → Option ℕ) (blocks : List (Option Block)) : Type 0 where
  pub known : (number k byte : ℕ) (block : Block) → block_at blocks number ≡ Some block → cell_at block.cells k ≡ Known byte → reached (block.address + k) ≡ Some byte

-- bytes were put at an address, and every other byte of the heap is reached as before
pub record IsPut (heap : List Region) (old new : ℕ → Option ℕ) (address : ℕ) (bytes : List ℕ) : Type 0 where
  pub here : (k : ℕ) → k < length bytes → new (address + k) ≡ Some (slice_index bytes k)
  pub elsewhere : (other : ℕ) → IsTrue (list_any (is_within other) heap) → (other < address) ⊎ (address + length bytes ≤ other) → new other ≡ old other

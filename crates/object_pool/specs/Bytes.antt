-- Bytes of words.
use Rattle.std.specs.Prelude.{◌≡◌, ℕ, zero, suc, ◌+◌, ◌-◌, ◌%◌, ◌<◌, ◌≤◌, ◌⊎◌, List, [], ◌∷◌, length, slice_index, IsTrue}
use Rattle.std.specs.Int.{w64, to_le_bytes}
use Rattle.heap_memory.specs.declared.grant.Grant.{Grant}
use Rattle.heap_memory.specs.Events.{Event}
use Rattle.heap_memory.specs.Regions.{is_granted, IsWordOf}

-- the byte at an address, of the word in which it lies
abbrev pub byte_in : (ℕ → ℕ) → ℕ → ℕ
byte_in words at = slice_index (to_le_bytes w64 (words (at - at % 8))) (at % 8)

-- this many bytes from an address on
abbrev pub bytes_at : (ℕ → ℕ) → ℕ → ℕ → List ℕ
bytes_at words at zero = []
bytes_at words at (suc count) = byte_in words at ∷ bytes_at words (at + 1) count

-- this many bytes from an address on are granted
abbrev pub AreGranted : List Grant → ℕ → ℕ → Type 0
AreGranted regions at count = (k : ℕ) → at ≤ k → k < at + count → IsTrue (is_granted regions k)

-- The first `count` of these bytes were put at an address. Every other granted byte stays, and every word that has none of them.
pub record IsWritten (regions : List Grant) (old : ℕ → ℕ) (at : ℕ) (bytes : List ℕ) (count : ℕ) (new : ℕ → ℕ) : Type 0 where
  pub here : (k : ℕ) → k < count → byte_in new (at + k) ≡ slice_index bytes k
  pub elsewhere : (k : ℕ) → IsTrue (is_granted regions k) → (k < at) ⊎ (at + count ≤ k) → byte_in new k ≡ byte_in old k
  pub words : (k : ℕ) → IsWordOf regions k → (k + 8 ≤ at) ⊎ (at + count ≤ k) → new k ≡ old k

-- Bytes were put at an address of a memory, and nothing else changed.
pub record AreBytesPut {M : Type 0} (regions : M → List Grant) (word : M → ℕ → ℕ) (follows : M → List Event → M → Type 0) (old : M) (at : ℕ) (bytes : List ℕ) (new : M) : Type 0 where
  pub written : IsWritten (regions old) (word old) at bytes (length bytes) (word new)
  pub regions_same : regions new ≡ regions old
  pub followed : follows old [] new

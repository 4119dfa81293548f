-- Words of a memory, as a function from addresses, and their bytes.
use Rattle.std.specs.Prelude.{◌≡◌, ◌≢◌, ℕ, ◌+◌, ◌*◌, ◌%◌, ◌^◌, ◌<◌, ◌≤◌, ◌⊎◌, List, IsTrue, slice_set}
use Rattle.std.specs.Int.{w64, to_le_bytes, from_le_bytes}
use Rattle.heap_memory.specs.declared.grant.Grant.{Grant}
use Rattle.heap_memory.specs.Regions.{IsWordOf, is_granted}

-- a word with another byte number b
unfoldable pub with_byte : ℕ → ℕ → ℕ → ℕ
with_byte word b byte = from_le_bytes w64 (slice_set (to_le_bytes w64 word) b byte)

-- the granted words are as they were, but for this one at a place
pub record IsStored (regions : List Grant) (old : ℕ → ℕ) (at value : ℕ) (new : ℕ → ℕ) : Type 0 where
  pub here : new at ≡ value
  pub elsewhere : (other : ℕ) → IsWordOf regions other → other ≢ at → new other ≡ old other

-- `count` words stand from an address on
pub record AreWordsOf (regions : List Grant) (at count : ℕ) : Type 0 where
  pub granted : (k : ℕ) → at ≤ k → k < at + 8 * count → IsTrue (is_granted regions k)
  pub aligned : at % 8 ≡ 0
  pub small : at + 8 * count ≤ 2 ^ 64

-- an address is at none of a number of words from another on
abbrev pub IsBeside : ℕ → ℕ → ℕ → Type 0
IsBeside at count other = (other < at) ⊎ (at + 8 * count ≤ other)

-- the granted words are as they were, but for `count` of them from a place on, which have this value
pub record AreFilled (regions : List Grant) (old : ℕ → ℕ) (at count value : ℕ) (new : ℕ → ℕ) : Type 0 where
  pub here : (k : ℕ) → at ≤ k → k < at + 8 * count → k % 8 ≡ 0 → new k ≡ value
  pub elsewhere : (other : ℕ) → IsWordOf regions other → IsBeside at count other → new other ≡ old other

-- the granted words are as they were, but for `count` of them at one place, which are those that stand at another
pub record AreCopied (regions : List Grant) (old : ℕ → ℕ) (from to count : ℕ) (new : ℕ → ℕ) : Type 0 where
  pub here : (k : ℕ) → k < 8 * count → k % 8 ≡ 0 → new (to + k) ≡ old (from + k)
  pub elsewhere : (other : ℕ) → IsWordOf regions other → IsBeside to count other → new other ≡ old other

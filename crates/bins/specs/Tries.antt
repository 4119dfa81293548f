-- Tries of chunks in the memory. A node is the oldest chunk of a size; its ring has the others. The sizes of a trie lie in
-- a range, those of its child0 in the lower half and those of its child1 in the upper.
use Rattle.std.specs.Prelude.{◌≡◌, ℕ, zero, suc, ◌+◌, ◌-◌, ◌*◌, ◌%◌, ◌^◌, ◌<◌, ◌≤◌, ◌⊎◌, Bool, true, false, List, ◌∷◌}
use Rattle.dlmalloc_chunks.specs.Head.{size_of}
use Rattle.bins.specs.Index.{without_size, IsNone}
use Rattle.bins.specs.Rings.{IsRing}

-- the bytes of the range of a trie with the given number of levels
abbrev pub width : ℕ → ℕ
width zero = 8
width (suc levels) = 2 * width levels

-- A size lies in the range of a trie, which has at most 61 levels and ends at 2 ^ 64 or before.
pub record IsInRange (low levels size : ℕ) : Type 0 where
  pub few : levels ≤ 61
  pub above : low ≤ size
  pub below : size < low + width levels
  pub fits : low + width levels ≤ 2 ^ 64

-- a size lies in the range of a trie, scaled so that the whole range is that of 64-bit words
abbrev pub IsScaled : (low levels size bits : ℕ) → Type 0
IsScaled low levels size bits = bits ≡ (size - low) * 2 ^ (61 - levels)

-- the range of a trie begins at a multiple of its length, so the shift that scales a size drops the bits of that
abbrev pub IsAligned : (low levels : ℕ) → Type 0
IsAligned low levels = low * 2 ^ (61 - levels) % 2 ^ 64 ≡ 0

-- the place of a child's word in a chunk: child0 has the lower half of the range, child1 the upper
abbrev pub slot : Bool → ℕ
slot false = 32
slot true = 40

-- two children
abbrev pub both : ℕ → ℕ → Bool → ℕ
both child0 child1 false = child0
both child0 child1 true = child1

-- where the range of a child begins, in a range from low on whose halves have the given number of bytes
abbrev pub low_at : Bool → ℕ → ℕ → ℕ
low_at false low half = low
low_at true low half = low + half

-- a node of a trie, with the size of its chunks
pub record IsNode (words : ℕ → ℕ) (index : ℕ → List ℕ) (bin parent low high at : ℕ) : Type 0 where
  pub size : ℕ
  pub others : List ℕ
  pub child : Bool → ℕ
  pub some : 0 < at
  pub above : low ≤ size
  pub below : size < high
  pub chunks : index size ≡ at ∷ others
  pub head : size_of (words (at + 8)) ≡ size
  pub ring : IsRing words at (words (at + 24)) (words (at + 16)) others
  pub child_is : (side : Bool) → words (at + slot side) ≡ child side
  pub parent_is : words (at + 48) ≡ parent
  pub bin_is : words (at + 56) ≡ bin

-- The trie at an address, 0 for an empty one, holds all chunks of the index of a size in its range.
abbrev pub IsTrie : (ℕ → ℕ) → (ℕ → List ℕ) → (bin parent low levels at : ℕ) → Type 0
IsTrie words index bin parent low zero at = (at ≡ 0) × IsNone index low (low + 8)
IsTrie words index bin parent low (suc levels) at =
    ((at ≡ 0) × IsNone index low (low + 2 * width levels))
    ⊎ ((node : IsNode words index bin parent low (low + 2 * width levels) at)
    × ((side : Bool) → IsTrie words (without_size node.size index) bin at (low_at side low (width levels)) levels (node.child side)))

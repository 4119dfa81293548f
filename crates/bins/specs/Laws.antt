-- Laws above the definition of the index.
use Rattle.std.specs.Prelude.{◌≡◌, ℕ, zero, suc, ◌+◌, ◌-◌, ◌*◌, ◌/◌, ◌%◌, ◌^◌, ◌<◌, ◌==◌, nat_le, if◌then◌else◌, Bool, List, [], ◌∷◌, slice_index}
use Rattle.heap_memory.specs.declared.grant.Grant.{Grant}
use Rattle.dlmalloc_chunks.specs.Bins.{IsTreeIndex}
use Rattle.bins.specs.declared.bins.Bins.{Bins}
use Rattle.bins.specs.Tries.{slot}
use Rattle.bins.specs.Linked.{IsLinked, AreKept, levels_of}

-- Stores outside the words of its chunks leave an index as it is, and so do grants, and the end of grants that have
-- none of these words.
abbrev pub IndexStays : Type 0
IndexStays = (regions regions' : List Grant) (old new : ℕ → ℕ) (bins : Bins) (index : ℕ → List ℕ) →
    IsLinked regions old bins index → AreKept regions regions' old new index → IsLinked regions' new bins index

-- The memory determines its index: two that are linked have the same chunks of each size.
abbrev pub OneIndex : Type 0
OneIndex = (regions : List Grant) (words : ℕ → ℕ) (bins : Bins) (index other : ℕ → List ℕ) →
    IsLinked regions words bins index → IsLinked regions words bins other → (size : ℕ) → index size ≡ other size

-- the sides to which the bits of a 64-bit word lead, from the top bit on: the upper side if the bit is set
abbrev pub sides_of : ℕ → ℕ → List Bool
sides_of word zero = []
sides_of word (suc count) = nat_le (2 ^ 63) word ∷ sides_of (2 * word % 2 ^ 64) count

-- the node that sides lead to from a node
abbrev pub node_at : (ℕ → ℕ) → ℕ → List Bool → ℕ
node_at words at [] = at
node_at words at (side ∷ sides) = node_at words (words (at + slot side)) sides

-- by how many bits a size is shifted to the left before it leads into the trie of a tree bin (dlmalloc:
-- leftshift_for_tree_index)
abbrev pub shift_of : ℕ → ℕ
shift_of bin = if bin == 31 then 0 else 57 - bin / 2

-- Each node lies where the bits of its size lead: the oldest chunk of a size stands at the end of a path from the root of
-- its bin, and the sides of the path are the top bits of the shifted size.
abbrev pub BitsLead : Type 0
BitsLead = (regions : List Grant) (words : ℕ → ℕ) (bins : Bins) (index : ℕ → List ℕ) → IsLinked regions words bins index →
    (size bin chunk : ℕ) (others : List ℕ) → IsTreeIndex size bin → index size ≡ chunk ∷ others →
    (depth : ℕ) × (depth < levels_of bin) × (node_at words (slice_index bins.roots bin) (sides_of (size * 2 ^ shift_of bin % 2 ^ 64) depth) ≡ chunk)

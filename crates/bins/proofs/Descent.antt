-- A step of a walk down a trie.
use Rattle.std.proofs.Common.{◌≡◌, ◌≢◌, ℕ, ◌+◌, ◌-◌, ◌<◌, ◌≤◌, Bool}
use Rattle.dlmalloc_chunks.specs.Head.{size_of}
use Rattle.bins.specs.Tries.{slot, low_at, width}

-- from a node of another size to its child on the side of a size, in the words of the calls that find it
pub record IsDescent (words : ℕ → ℕ) (low levels at size : ℕ) (side : Bool) (half place child : ℕ) : Type 0 where
  pub other : size_of (words (at + 8)) ≢ size
  pub half_is : half ≡ width (levels - 1)
  pub place_is : place ≡ at + slot side
  pub child_is : child ≡ words place
  pub above : low_at side low half ≤ size
  pub below : size < low_at side low half + half

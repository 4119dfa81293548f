-- What a call on the part of a trie below a node needs, and what it changes.
use Rattle.std.specs.Prelude.{◌≡◌, ℕ, ◌+◌, ◌%◌, ◌<◌, ◌≤◌, List, [], ◌∷◌}
use Rattle.heap_memory.specs.declared.grant.Grant.{Grant}
use Rattle.heap_memory.specs.Regions.{IsWordOf}
use Rattle.bins.specs.Index.{IsIn, with_chunk, without_chunk, without_size}
use Rattle.bins.specs.Tries.{width, IsTrie}
use Rattle.bins.specs.Linked.{AreChunks, IsNoLink}

-- the trie at an address holds the chunks of its range, all of at least 256 bytes
pub record IsHeld (regions : List Grant) (words : ℕ → ℕ) (index : ℕ → List ℕ) (bin parent low levels at : ℕ) : Type 0 where
  pub chunks : AreChunks regions words index
  pub large : (n chunk : ℕ) → IsIn chunk (index n) → 256 ≤ n
  pub trie : IsTrie words index bin parent low levels at
  pub whole : low % 16 ≡ 0

-- of the granted words only the link words of a chunk and of the chunks of an index in a range change
abbrev pub OnlyRangeChanges : List Grant → (ℕ → List ℕ) → (low high size chunk : ℕ) → (old new : ℕ → ℕ) → Type 0
OnlyRangeChanges regions index low high size chunk old new =
    (at : ℕ) → IsWordOf regions at → IsNoLink size chunk at → ((n other : ℕ) → low ≤ n → n < high → IsIn other (index n) → IsNoLink n other at) → new at ≡ old at

-- of the granted words only the link words of the chunks of an index in a range change
abbrev pub OnlyHeldChanges : List Grant → (ℕ → List ℕ) → (low high : ℕ) → (old new : ℕ → ℕ) → Type 0
OnlyHeldChanges regions index low high old new =
    (at : ℕ) → IsWordOf regions at → ((n other : ℕ) → low ≤ n → n < high → IsIn other (index n) → IsNoLink n other at) → new at ≡ old at

-- A chunk left a trie, and no other: the rest stands at an address, 0 if nothing is left. Of the granted words only link
-- words of the trie's chunks changed.
pub record HasLeft (regions : List Grant) (old new : ℕ → ℕ) (index : ℕ → List ℕ) (bin parent low levels size chunk at : ℕ) : Type 0 where
  pub trie : IsTrie new (without_chunk size chunk index) bin parent low levels at
  pub words : OnlyHeldChanges regions index low (low + width levels) old new

-- A chunk came into a trie, as the newest of its size: the trie stands at an address. Of the granted words only link words
-- of the chunk and of the trie's chunks changed.
pub record HasGained (regions : List Grant) (old new : ℕ → ℕ) (index : ℕ → List ℕ) (bin parent low levels size chunk at : ℕ) : Type 0 where
  pub trie : IsTrie new (with_chunk size chunk index) bin parent low levels at
  pub words : OnlyRangeChanges regions index low (low + width levels) size chunk old new

-- A node that was alone in its ring gave its place to another of its trie, or to none: what is left stands at an address.
-- Of the granted words only link words of the trie's chunks changed.
pub record HasGivenWay (regions : List Grant) (old new : ℕ → ℕ) (index : ℕ → List ℕ) (bin parent low levels at left : ℕ) : Type 0 where
  pub trie : (size : ℕ) → index size ≡ at ∷ [] → IsTrie new (without_size size index) bin parent low levels left
  pub words : OnlyHeldChanges regions index low (low + width levels) old new

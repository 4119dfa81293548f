-- The index of the binned chunks, read off the memory.
use Rattle.std.specs.Prelude.{◌==◌, if◌then◌else◌, ◌≡◌, ◌≢◌, ℕ, ◌+◌, ◌*◌, ◌/◌, ◌%◌, ◌^◌, ◌<◌, ◌≤◌, ◌⊎◌, List, [], slice_index}
use Rattle.std.specs.Int.{bit_at}
use Rattle.heap_memory.specs.declared.grant.Grant.{Grant}
use Rattle.heap_memory.specs.Regions.{IsWordOf}
use Rattle.dlmalloc_chunks.specs.Head.{size_of}
use Rattle.dlmalloc_chunks.specs.Bins.{least_size}
use Rattle.bins.specs.declared.bins.Bins.{Bins}
use Rattle.bins.specs.Index.{IsIn, AreDistinct, from}
use Rattle.bins.specs.Tries.{IsTrie}
use Rattle.bins.specs.Rings.{IsRing}

-- a chunk of a size, whose words after its first are granted
pub record IsChunk (regions : List Grant) (words : ℕ → ℕ) (size chunk : ℕ) : Type 0 where
  pub whole : size % 16 ≡ 0
  pub long : 32 ≤ size
  pub aligned : chunk % 16 ≡ 0
  pub low : 4096 ≤ chunk
  pub high : chunk + size < 2 ^ 64
  pub head : size_of (words (chunk + 8)) ≡ size
  pub granted : (at : ℕ) → chunk + 8 ≤ at → at < chunk + size → at % 8 ≡ 0 → IsWordOf regions at

-- the chunks of an index: each is one, and no two share a byte
pub record AreChunks (regions : List Grant) (words : ℕ → ℕ) (index : ℕ → List ℕ) : Type 0 where
  pub each : (size chunk : ℕ) → IsIn chunk (index size) → IsChunk regions words size chunk
  pub apart : (size chunk other_size other : ℕ) → IsIn chunk (index size) → IsIn other (index other_size) → chunk ≢ other →
      (chunk + size ≤ other) ⊎ (other + other_size ≤ chunk)
  pub once : (size : ℕ) → AreDistinct (index size)

-- a small bin holds the ring of its size
pub record IsSmallBin (words : ℕ → ℕ) (firsts lasts : List ℕ) (map : ℕ) (index : ℕ → List ℕ) (bin : ℕ) : Type 0 where
  pub ring : IsRing words (64 + bin) (slice_index firsts bin) (slice_index lasts bin) (index (8 * bin))
  pub marked : index (8 * bin) ≢ [] → bit_at map bin ≡ 1
  pub clear : index (8 * bin) ≡ [] → bit_at map bin ≡ 0

-- where the range of the sizes of a tree bin begins, and the levels that it has: the range has 2 ^ (levels + 3) bytes
abbrev pub low_of : ℕ → ℕ
low_of bin = if bin == 31 then 0 else least_size bin

abbrev pub levels_of : ℕ → ℕ
levels_of bin = if bin == 31 then 61 else bin / 2 + 4

-- a tree bin holds the trie of its sizes
pub record IsTreeBin (words : ℕ → ℕ) (roots : List ℕ) (map : ℕ) (index : ℕ → List ℕ) (bin : ℕ) : Type 0 where
  pub trie : IsTrie words (from (least_size bin) index) bin (128 + bin) (low_of bin) (levels_of bin) (slice_index roots bin)
  pub marked : 0 < slice_index roots bin → bit_at map bin ≡ 1
  pub clear : slice_index roots bin ≡ 0 → bit_at map bin ≡ 0

-- The index is read off the memory: its chunks, and the links in their words.
pub record IsLinked (regions : List Grant) (words : ℕ → ℕ) (bins : Bins) (index : ℕ → List ℕ) : Type 0 where
  pub chunks : AreChunks regions words index
  pub small : (bin : ℕ) → bin < 32 → IsSmallBin words bins.firsts bins.lasts bins.small_map index bin
  pub large : (bin : ℕ) → bin < 32 → IsTreeBin words bins.roots bins.tree_map index bin

-- a chunk that shares no byte with those of an index
pub record IsFreshChunk (regions : List Grant) (words : ℕ → ℕ) (index : ℕ → List ℕ) (size chunk : ℕ) : Type 0 where
  pub is : IsChunk regions words size chunk
  pub apart : (other_size other : ℕ) → IsIn other (index other_size) → (chunk + size ≤ other) ⊎ (other + other_size ≤ chunk)

-- an address is that of no link word of a chunk
abbrev pub IsNoLink : ℕ → ℕ → ℕ → Type 0
IsNoLink size chunk at = (at < chunk + 16) ⊎ ((chunk + 64 ≤ at) ⊎ ((size < 256) × (chunk + 32 ≤ at)))

-- of the granted words only the link words of a chunk and of those of an index change
abbrev pub OnlyLinksChange : List Grant → (ℕ → List ℕ) → (size chunk : ℕ) → (old new : ℕ → ℕ) → Type 0
OnlyLinksChange regions index size chunk old new =
    (at : ℕ) → IsWordOf regions at → IsNoLink size chunk at → ((n other : ℕ) → IsIn other (index n) → IsNoLink n other at) → new at ≡ old at

-- The words on which an index stands are granted, and are what they were: of each chunk those from its head on that lie
-- in its first 64 bytes.
pub record AreKept (regions regions' : List Grant) (old new : ℕ → ℕ) (index : ℕ → List ℕ) : Type 0 where
  pub granted : (size chunk at : ℕ) → IsIn chunk (index size) → chunk + 8 ≤ at → at < chunk + size → IsWordOf regions at → IsWordOf regions' at
  pub words : (size chunk at : ℕ) → IsIn chunk (index size) → chunk + 8 ≤ at → at < chunk + size → at < chunk + 64 → IsWordOf regions at → new at ≡ old at

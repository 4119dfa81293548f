-- Bytes and words of the regions of a paged system.
use Rattle.std.specs.Prelude.{◌≡◌, ℕ, ◌+◌, ◌*◌, ◌/◌, ◌%◌, ◌<◌, ◌≤◌, ◌⊎◌, List, length, slice_index, Some, IsTrue}
use Rattle.paging_core.specs.Walk.{reached}
use Rattle.heap_memory.specs.declared.grant.Grant.{Grant}
use Rattle.heap_memory.specs.Regions.{is_granted, IsWordOf}
use Rattle.heap_memory.specs.Words.{AreWordsOf, IsBeside}
use Rattle.machine_model.specs.Machine.{Paged, OnlyHeapBytesChange}
use Rattle.paged_systems.specs.Words.{grants_of}
use Rattle.mapped_regions.specs.Mapped.{word_reached}

-- `count` bytes from an address on lie in regions of the heap
abbrev pub AreHeapBytes : Paged → ℕ → ℕ → Type 0
AreHeapBytes p address count = (k : ℕ) → address ≤ k → k < address + count → IsTrue (is_granted (grants_of p) k)

-- the first `count` of these bytes were put at an address, and every other byte of the regions stays, and every word
-- that has none of them
pub record AreBytesWritten (old new : Paged) (address : ℕ) (bytes : List ℕ) (count : ℕ) : Type 0 where
  pub still : OnlyHeapBytesChange old new
  pub here : (k : ℕ) → k < count → reached new.words new.root (address + k) ≡ Some (slice_index bytes k)
  pub elsewhere : (other : ℕ) → AreHeapBytes old other 1 → (other < address) ⊎ (address + count ≤ other) → reached new.words new.root other ≡ reached old.words old.root other
  pub words : (k : ℕ) → IsWordOf (grants_of old) k → (k + 8 ≤ address) ⊎ (address + count ≤ k) → word_reached new k ≡ word_reached old k

-- these bytes are the ones from an address on
pub record AreRead (p : Paged) (address count : ℕ) (bytes : List ℕ) : Type 0 where
  pub many : length bytes ≡ count
  pub each : (k : ℕ) → k < count → reached p.words p.root (address + k) ≡ Some (slice_index bytes k)

-- the granted words are as they were, but for these, which were put from a place on
pub record ArePut (regions : List Grant) (old : ℕ → ℕ) (at : ℕ) (words : List ℕ) (new : ℕ → ℕ) : Type 0 where
  pub here : (k : ℕ) → k < length words → new (at + 8 * k) ≡ slice_index words k
  pub elsewhere : (other : ℕ) → IsWordOf regions other → IsBeside at (length words) other → new other ≡ old other

-- these words are the ones from a place on
abbrev pub AreLoaded : (ℕ → ℕ) → ℕ → List ℕ → Type 0
AreLoaded word at words = (k : ℕ) → k < length words → slice_index words k ≡ word (at + 8 * k)

-- `count` words of the regions stand from an address on, at least one, and all in one page
pub record AreInPage (p : Paged) (at count : ℕ) : Type 0 where
  pub words : AreWordsOf (grants_of p) at count
  pub some : 0 < count
  pub page : at % 4096 / 8 + count ≤ 512

-- `count` words of the regions may be copied from one place to another, which is apart from it
pub record AreCopyable (regions : List Grant) (from to count : ℕ) : Type 0 where
  pub source : AreWordsOf regions from count
  pub target : AreWordsOf regions to count
  pub apart : (from + 8 * count ≤ to) ⊎ (to + 8 * count ≤ from)

-- how many words from an address on are put next, of those that are left: no more than stand in its page, and 64 at most
pub record IsNextRun (at left run : ℕ) : Type 0 where
  pub few : run ≤ left
  pub short : run ≤ 64
  pub page : at % 4096 / 8 + run ≤ 512
  pub some : 0 < left → 0 < run

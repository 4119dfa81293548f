-- What calls need that store into the memory of a heap, and what they leave there.
use Rattle.std.specs.Prelude.{◌≡◌, ◌≢◌, ℕ, ◌+◌, ◌-◌, ◌%◌, ◌^◌, ◌<◌, ◌≤◌, Bool, true, false, List}
use Rattle.heap_memory.specs.declared.grant.Grant.{Grant}
use Rattle.heap_memory.specs.declared.links.Links.{Ghosts as Links}
use Rattle.heap_memory.specs.Regions.{IsWordOf}
use Rattle.heap_memory.specs.Asks.{AsksNothing}
use Rattle.dlmalloc_chunks.specs.Chunk.{HasHead, HasFoot}
use Rattle.dlmalloc_chunks.specs.Head.{pinuse_of}

-- Of the granted words those of a kind are as they were, and the system was asked for nothing.
pub record KeepsWords {A : Type 0} (links : Links A) (kept : ℕ → Type 0) (old new : A) : Type 0 where
  pub elsewhere : (k : ℕ) → IsWordOf (links.regions old) k → kept k → links.word new k ≡ links.word old k
  pub asks : AsksNothing links old new
  pub open asks use *

-- ---- the top

-- In a segment of `bytes` from a base on, a top that begins at an address has room up to the foot at the segment's end.
pub record HasRoomForTop (regions : List Grant) (base bytes at : ℕ) : Type 0 where
  pub low : base ≤ at
  pub room : at + 96 ≤ base + bytes
  pub high : base + bytes < 2 ^ 64
  pub top : IsWordOf regions (at + 8)
  pub foot : IsWordOf regions (base + bytes - 72)

-- The heads of a top and of its foot, which ends at an address, were written, and nothing else was done.
pub record IsTopClosed {A : Type 0} (links : Links A) (top end : ℕ) (old new : A) : Type 0 where
  pub head : links.word new (top + 8) ≡ end - 80 - top + 1
  pub foot_head : links.word new (end - 72) ≡ 80
  pub elsewhere : (k : ℕ) → IsWordOf (links.regions old) k → k ≢ top + 8 → k ≢ end - 72 → links.word new k ≡ links.word old k
  pub asks : AsksNothing links old new
  pub open asks use *

-- ---- chunks

-- Two chunks in use, of `one` and `other` bytes, can stand at the beginning of a segment.
pub record CanHoldTwo (regions : List Grant) (at one other : ℕ) : Type 0 where
  pub head : HasHead regions at
  pub behind : HasHead regions (at + one)
  pub first : one % 16 ≡ 0
  pub second : other % 16 ≡ 0
  pub least : 32 ≤ one
  pub ends : at + one + other < 2 ^ 64

-- The head of a chunk tells where a free chunk before it begins.
pub record CanLookBack (regions : List Grant) (words : ℕ → ℕ) (at : ℕ) : Type 0 where
  pub head : HasHead regions at
  pub foot : HasFoot regions at
  pub fits : pinuse_of (words (at + 8)) ≡ false → words at ≤ at

-- A free chunk of `bytes` can be made at an address; the chunk behind it is told so, or is to be.
pub record CanHoldFree (regions : List Grant) (words : ℕ → ℕ) (at bytes : ℕ) (is_told : Bool) : Type 0 where
  pub size : bytes % 8 ≡ 0
  pub long : 32 ≤ bytes
  pub head : HasHead regions at
  pub foot : HasFoot regions (at + bytes)
  pub next : HasHead regions (at + bytes)
  pub told : is_told ≡ true → pinuse_of (words (at + bytes + 8)) ≡ false

-- ---- records

-- A record can stand from an address up to another.
pub record CanHoldRecord (regions : List Grant) (at end : ℕ) : Type 0 where
  pub aligned : at % 8 ≡ 0
  pub end_aligned : end % 8 ≡ 0
  pub room : at + 80 ≤ end
  pub high : end < 2 ^ 64
  pub granted : (k : ℕ) → at < k → k < end → k % 8 ≡ 0 → IsWordOf regions k

-- The four words of a record's payload can be loaded.
pub record HasPayload (regions : List Grant) (payload : ℕ) : Type 0 where
  pub high : payload + 32 < 2 ^ 64
  pub base : IsWordOf regions payload
  pub size : IsWordOf regions (payload + 8)
  pub next : IsWordOf regions (payload + 16)
  pub flags : IsWordOf regions (payload + 24)

-- A payload can be loaded, and it lies in the segment that it describes.
pub record LiesInItsSegment (regions : List Grant) (words : ℕ → ℕ) (payload : ℕ) : Type 0 where
  pub low : 16 < payload
  pub high : payload + 16 < 2 ^ 64
  pub base : IsWordOf regions payload
  pub size : IsWordOf regions (payload + 8)
  pub next : IsWordOf regions (payload + 16)
  pub ends : words payload + words (payload + 8) < 2 ^ 64
  pub within : payload ≤ words payload + words (payload + 8)

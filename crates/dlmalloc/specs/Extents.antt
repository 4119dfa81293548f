-- The extents of a segment, as words describe them, and how they tile it.
use Rattle.std.specs.Prelude.{◌≡◌, ℕ, zero, suc, ◌+◌, ◌%◌, ◌<◌, ◌≤◌, ◌⊎◌, Bool, true, false, nat_lt, if◌then◌else◌, List, [], ◌∷◌, IsTrue}
use Rattle.dlmalloc_chunks.specs.declared.extent.Extent.{Extent}
use Rattle.dlmalloc_chunks.specs.declared.extent.Kind.{Kind}
use Rattle.dlmalloc_chunks.specs.declared.extent.Kind.TheVariants.{Used, Free, Victim, Top, Record, Foot}
use Rattle.dlmalloc_chunks.specs.Head.{size_of, free_of, head_of}
use Rattle.dlmalloc_chunks.specs.Tiling.{IsSize}
use Rattle.dlmalloc.specs.State.{is_free_below_top}
pub use Rattle.dlmalloc_chunks.specs.Kinds.{is_free}
pub use Rattle.dlmalloc_chunks.specs.Tiling.{extent_at}

-- what a head says of its chunk
abbrev pub kind_of : ℕ → Kind
kind_of head = if free_of head then Free else Used

-- the chunks from an address on up to another, each beginning where the one before ends; at most a given number of them
unfoldable pub chunks_from : (ℕ → ℕ) → ℕ → ℕ → ℕ → List Extent
chunks_from words zero at end = []
chunks_from words (suc most) at end =
    if nat_lt at end
    then (record { at = at; size = size_of (words (at + 8)); kind = kind_of (words (at + 8)) }) ∷ chunks_from words most (at + size_of (words (at + 8))) end
    else []

-- whether an extent has a block or a record
abbrev pub is_used : Kind → Bool
is_used Used = true
is_used Free = false
is_used Victim = false
is_used Top = false
is_used Record = true
is_used Foot = false

-- What may stand after an extent of a kind: a free one only after one in use, the foot after the top, and nothing after
-- what ends a segment. (Heads do not distinguish the victim from other free ones.)
abbrev pub MayStand : Kind → Kind → Type 0
MayStand before Used = (before ≡ Used) ⊎ (before ≡ Free)
MayStand before Free = before ≡ Used
MayStand before Victim = ⊥
MayStand before Top = before ≡ Used
MayStand before Record = (before ≡ Used) ⊎ (before ≡ Free)
MayStand before Foot = before ≡ Top

-- the size in a head: a record's is that of a chunk of 48 bytes, with fences after it
abbrev pub told_size : Kind → ℕ → ℕ
told_size Used size = size
told_size Free size = size
told_size Victim size = size
told_size Top size = size
told_size Record size = 48
told_size Foot size = size

-- An extent that the words describe, after one of some kind. The size of a free one stands in the first word of the
-- extent after it, and each word of a fence is the head of a used chunk of 8 bytes after another (dlmalloc:
-- `fencepost_head`).
pub record HasChunk (words : ℕ → ℕ) (before : Kind) (extent : Extent) : Type 0 where
  pub whole : extent.at % 16 ≡ 0
  pub size : IsSize extent.kind extent.size
  pub kind : MayStand before extent.kind
  pub head : words (extent.at + 8) ≡ head_of (told_size extent.kind extent.size) (is_used before) (is_used extent.kind)
  pub foot : IsTrue (is_free_below_top extent.kind) → words (extent.at + extent.size) ≡ extent.size
  pub fence : extent.kind ≡ Record → (k : ℕ) → extent.at + 56 ≤ k → k < extent.at + extent.size → k % 8 ≡ 0 → words k ≡ 11

-- The extents stand one after the other from an address up to another, after one of some kind.
abbrev pub Tiles : (words : ℕ → ℕ) (before : Kind) (at : ℕ) → List Extent → (end : ℕ) → Type 0
Tiles words before at [] end = at ≡ end
Tiles words before at (extent ∷ extents) end =
    (extent.at ≡ at) × HasChunk words before extent × Tiles words extent.kind (at + extent.size) extents end

-- the kind of the last of some extents; if there is none, that of what stands before them
abbrev pub last_kind : Kind → List Extent → Kind
last_kind before [] = before
last_kind before (extent ∷ extents) = last_kind extent.kind extents

-- a number of bytes that a chunk may have: whole units of 16, and at least 32
pub record IsChunkSize (n : ℕ) : Type 0 where
  pub whole : n % 16 ≡ 0
  pub least : 32 ≤ n

-- The segments of a heap, and how words describe them.
use Rattle.std.specs.Prelude.{◌≡◌, ℕ, zero, suc, ◌+◌, ◌-◌, ◌/◌, ◌^◌, ◌<◌, ◌≤◌, ◌⊎◌, ⊤, Bool, true, ◌==◌, ◌&&◌, nat_le, nat_lt, if◌then◌else◌, List, [], ◌∷◌, ◌++◌, Some, IsTrue}
use Rattle.std.specs.List.{AllByRecursion}
use Rattle.heap_memory.specs.declared.grant.Grant.{Grant}
use Rattle.heap_memory.specs.Regions.{is_granted, IsApart}
use Rattle.dlmalloc_chunks.specs.declared.extent.Extent.{Extent}
use Rattle.dlmalloc_chunks.specs.declared.extent.Kind.TheVariants.{Used, Record}
use Rattle.dlmalloc_chunks.specs.Kinds.{ends_segment}
use Rattle.dlmalloc.specs.Extents.{extent_at, chunks_from, Tiles, last_kind}
use Rattle.dlmalloc.specs.State.{Segment}

-- a region lies in a range of bytes, and has these flags
abbrev pub IsWithin : ℕ → ℕ → ℕ → Grant → Type 0
IsWithin low high flags region = (low ≤ region.base) × (region.base + region.size ≤ high) × (region.flags ≡ flags)

-- a run of whole granted regions that have these flags
pub record IsFlaggedRun (regions : List Grant) (base size flags : ℕ) : Type 0 where
  pub covered : (k : ℕ) → base ≤ k → k < base + size → IsTrue (is_granted regions k)
  pub whole : AllByRecursion (λ region. IsApart base (base + size) region ⊎ IsWithin base (base + size) flags region) regions

-- A segment is a run of whole granted regions that have its flags, longer than a record. Its extents tile it, and the last
-- of them ends a segment.
pub record IsSegment (regions : List Grant) (words : ℕ → ℕ) (segment : Segment) : Type 0 where
  pub run : IsFlaggedRun regions segment.base segment.size segment.flags
  pub low : 4096 ≤ segment.base
  pub high : segment.base + segment.size < 2 ^ 64
  pub long : 96 < segment.size
  pub extents : Tiles words Used segment.base segment.extents (segment.base + segment.size)
  pub tail : ends_segment (last_kind Used segment.extents) ≡ true

abbrev pub AreSegments : List Grant → (ℕ → ℕ) → List Segment → Type 0
AreSegments regions words segments = AllByRecursion (IsSegment regions words) segments

-- two segments have no byte in common
abbrev pub IsApartFrom : Segment → Segment → Type 0
IsApartFrom one other = (one.base + one.size ≤ other.base) ⊎ (other.base + other.size ≤ one.base)

abbrev pub AreApart : List Segment → Type 0
AreApart [] = ⊤
AreApart (segment ∷ segments) = AllByRecursion (IsApartFrom segment) segments × AreApart segments

-- whether a segment has the byte at an address
abbrev pub has_byte_in : ℕ → Segment → Bool
has_byte_in address segment = nat_le segment.base address && nat_lt address (segment.base + segment.size)

-- the record from an address up to the end of its segment
abbrev pub record_of : ℕ → ℕ → Extent
record_of at end = record { at = at; size = end - at; kind = Record }

-- The segments that records describe: a record's payload, 16 bytes after its beginning, has the words base, size,
-- payload of the next record or 0, and flags (dlmalloc: `Segment`). At most a given number of them.
unfoldable pub records_from : (ℕ → ℕ) → ℕ → ℕ → List Segment
records_from words zero payload = []
records_from words (suc most) payload =
    if payload == 0 then [] else
    (record {
      base = words payload;
      size = words (payload + 8);
      flags = words (payload + 24);
      extents = chunks_from words (words (payload + 8) / 16) (words payload) (payload - 16) ++ record_of (payload - 16) (words payload + words (payload + 8)) ∷ [];
    }) ∷ records_from words most (words (payload + 16))

-- the records describe these segments, and no others
abbrev pub AreRecords : (ℕ → ℕ) → ℕ → List Segment → Type 0
AreRecords words payload [] = payload ≡ 0
AreRecords words payload (segment ∷ segments) =
    (16 < payload) × (words payload ≡ segment.base) × (words (payload + 8) ≡ segment.size) × (words (payload + 24) ≡ segment.flags)
    × (extent_at (payload - 16) segment.extents ≡ Some (record_of (payload - 16) (segment.base + segment.size))) × AreRecords words (words (payload + 16)) segments

-- The words of a record.
use Rattle.std.specs.Prelude.{◌≡◌, ℕ, ◌+◌, ◌%◌, ◌<◌, ◌≤◌, Bool, true}
use Rattle.dlmalloc_chunks.specs.Head.{head_of}
use Rattle.dlmalloc.specs.declared.record.SegmentRecord.{SegmentRecord}

-- A record stands from an address up to another, after an extent that is in use or free: the head of a chunk of 48
-- bytes, four words that describe a segment, and from 56 bytes on fences.
pub record IsRecordAt (words : ℕ → ℕ) (at : ℕ) (told : SegmentRecord) (end : ℕ) (behind : Bool) : Type 0 where
  pub head : words (at + 8) ≡ head_of 48 behind true
  pub base : words (at + 16) ≡ told.base
  pub size : words (at + 16 + 8) ≡ told.size
  pub next : words (at + 16 + 16) ≡ told.next
  pub flags : words (at + 16 + 24) ≡ told.flags
  pub fences : (k : ℕ) → at + 56 ≤ k → k < end → k % 8 ≡ 0 → words k ≡ 11

-- The segment that a grant is put before, and where its record is.
use Rattle.std.specs.Prelude.{◌≡◌, ℕ, ◌+◌, true, List, [], ◌∷◌, ◌++◌}
use Rattle.heap_memory.specs.declared.grant.Grant.{Grant}
use Rattle.heap_memory.specs.declared.links.Links.{Ghosts as Links}
use Rattle.dlmalloc.specs.State.{Segment}
use Rattle.dlmalloc.specs.Granted.{is_before}
use Rattle.dlmalloc.specs.Segments.{AreRecords}
use Rattle.dlmalloc.specs.Grown.{HasRoomFor}
use Rattle.dlmalloc.specs.Heap.{segments_of}
use Rattle.dlmalloc.specs.declared.heap.Dlmalloc.{Dlmalloc}
use Rattle.dlmalloc.specs.declared.prepend.Behind.{Behind}
use Rattle.dlmalloc.specs.declared.prepend.Behind.TheVariants.{Head, Told}

-- the payload of the record that comes after those of some segments
abbrev pub payload_behind : (ℕ → ℕ) → ℕ → List Segment → ℕ
payload_behind words payload [] = payload
payload_behind words payload (segment ∷ segments) = payload_behind words (words (payload + 16)) segments

-- the head segment is the one that the grant is put before
pub record IsHeadBehind {A : Type 0} (word : A → ℕ → ℕ) (heap : Dlmalloc A) (grant : Grant) : Type 0 where
  pub segment : Segment
  pub back : List Segment
  pub is : segments_of word heap ≡ segment ∷ back
  pub joins : is_before grant segment ≡ true

-- or one that a record describes
pub record IsToldBehind {A : Type 0} (word : A → ℕ → ℕ) (heap : Dlmalloc A) (grant : Grant) (payload : ℕ) : Type 0 where
  pub head : Segment
  pub front : List Segment
  pub segment : Segment
  pub back : List Segment
  pub is : segments_of word heap ≡ head ∷ (front ++ segment ∷ back)
  pub joins : is_before grant segment ≡ true
  pub reached : payload ≡ payload_behind (word heap.system) heap.next front
  pub told : AreRecords (word heap.system) payload (segment ∷ back)

abbrev pub IsBehindAt : {A : Type 0} → (A → ℕ → ℕ) → Dlmalloc A → Grant → Behind → Type 0
IsBehindAt word heap grant Head = IsHeadBehind word heap grant
IsBehindAt word heap grant (Told payload) = IsToldBehind word heap grant payload

-- A fresh grant has room for a chunk of n bytes, and is put before this segment.
pub record CanPutBefore {A : Type 0} (links : Links A) (heap : Dlmalloc A) (grant : Grant) (n : ℕ) (at : Behind) : Type 0 where
  pub room : HasRoomFor n (links.regions heap.system) (segments_of links.word heap) grant
  pub behind : IsBehindAt links.word heap grant at

-- Segments that are not in use go back to the system (dlmalloc: `release_unused_segments`, `destroy`).
use Rattle.std.specs.Prelude.{◌≡◌, ◌≢◌, ◌↔◌, ⊤, ℕ, ◌+◌, ◌-◌, ◌%◌, ◌<◌, ◌≤◌, Bool, false, not, ◌&&◌, ◌==◌, nat_le, max, if◌then◌else◌, List, [], ◌∷◌, map, filter, find, length, Option, Some, None, IsTrue}
use Rattle.std.specs.List.{list_any, AllByRecursion}
use Rattle.heap_memory.specs.declared.grant.Grant.{Grant}
use Rattle.heap_memory.specs.Events.{Event, Released}
use Rattle.heap_memory.specs.Runs.{without_run}
use Rattle.dlmalloc_chunks.specs.declared.extent.Extent.{Extent}
use Rattle.dlmalloc_chunks.specs.declared.extent.Kind.TheVariants.{Used, Record}
use Rattle.dlmalloc.specs.Extents.{is_free, extent_at}
use Rattle.dlmalloc.specs.State.{HeapState, Segment, extents_in, is_free_below_top, is_binned, countdown_from}
use Rattle.dlmalloc.specs.Freed.{has}

-- ---- which segments go back

-- whether a segment's first extent is free, and reaches up to its last 80 bytes, which are those of a record
abbrev pub is_unused : Segment → Bool
is_unused segment = begins_unused segment.extents
  where
    begins_unused : List Extent → Bool
    begins_unused [] = false
    begins_unused (first ∷ extents) = is_free_below_top first.kind && first.size + 80 == segment.size

-- whether it is the heap's to give back: a segment is extern if bit 0 of its flags is set
abbrev pub is_own : Segment → Bool
is_own segment = segment.flags % 2 == 0

-- whether a pass hands it to a system, which takes parts or takes none
abbrev pub may_leave : Bool → Segment → Bool
may_leave parts segment = is_own segment && (parts && is_unused segment)

-- In words: no extent of a segment is in use, and its record has 80 bytes. (After a rest of 16 bytes a record has 96.)
pub record IsIdle (segment : Segment) : Type 0 where
  pub unused : (extent : Extent) → extent_at extent.at segment.extents ≡ Some extent → extent.kind ≢ Used
  pub record_at : ℕ
  pub short : extent_at record_at segment.extents ≡ Some (record { at = record_at; size = 80; kind = Record })

-- Of the segments after the head, a pass hands out those that are idle and the heap's to give back, if the system takes
-- parts.
abbrev pub IdleAreHandedOut : Bool → List Segment → Type 0
IdleAreHandedOut parts [] = ⊤
IdleAreHandedOut parts (head ∷ segments) = AllByRecursion (λ segment. IsTrue (may_leave parts segment) ↔ (IsTrue parts × IsTrue (is_own segment) × IsIdle segment)) segments

-- those that a pass hands out: the head stays
abbrev pub handed_out : Bool → List Segment → List Segment
handed_out parts [] = []
handed_out parts (head ∷ segments) = filter (may_leave parts) segments

-- those that it leaves, and those that it visits
abbrev pub staying : Bool → List Segment → List Segment
staying parts [] = []
staying parts (head ∷ segments) = head ∷ filter (λ segment. not (may_leave parts segment)) segments

abbrev pub visited : List Segment → ℕ
visited [] = 0
visited (head ∷ segments) = length segments

-- ---- what the system gets

-- segments go back one after the other
abbrev pub releases : List Segment → List Event
releases segments = map (λ segment. Released segment.base segment.size 0) segments

abbrev pub regions_without : List Segment → List Grant → List Grant
regions_without [] regions = regions
regions_without (segment ∷ segments) regions = regions_without segments (without_run segment.base (segment.base + segment.size) regions)

abbrev pub bytes_of : List Segment → ℕ
bytes_of [] = 0
bytes_of (segment ∷ segments) = segment.size + bytes_of segments

-- of those that are handed out all leave, or none does
abbrev pub taken_back : Bool → List Segment → List Segment
taken_back frees segments = if frees then segments else []

-- ---- the release pass

-- Those that are handed out leave if the system takes regions back. The victim is forgotten if it is the free extent of
-- one of them, whether that leaves or not. The countdown begins anew, and is at least the number of segments visited.
abbrev pub passed : Bool → Bool → HeapState → HeapState
passed frees parts heap = record heap {
  segments = if frees then staying parts heap.segments else heap.segments;
  victim = if list_any (λ segment. segment.base == heap.victim) (handed_out parts heap.segments) then 0 else heap.victim;
  countdown = max (visited heap.segments) (countdown_from heap.rate);
}

-- ---- the countdown

-- an extent is free that has the byte at an address, and it begins at another
pub record IsFreeAround (heap : HeapState) (at from : ℕ) : Type 0 where
  pub extent : Extent
  pub there : extent_at from (extents_in heap) ≡ Some extent
  pub place : extent.at ≡ from
  pub free : IsTrue (is_free extent.kind)
  pub low : from ≤ at
  pub high : at < from + extent.size

-- whether an extent that is found is in a bin, and large
abbrev pub is_large_binned : HeapState → Option Extent → Bool
is_large_binned heap None = false
is_large_binned heap (Some extent) = is_binned heap extent && nat_le 256 extent.size

-- whether a freed chunk at an address counts: the extent that it became part of is
abbrev pub is_counted : HeapState → ℕ → Bool
is_counted heap at = is_large_binned heap (find (has at) (extents_in heap))

-- Then the countdown falls by one, and at 0 a pass is made.
abbrev pub counted : Bool → Bool → HeapState → ℕ → HeapState
counted frees parts heap at =
    if is_counted heap at
    then (if nat_le heap.countdown 1 then passed frees parts heap else record heap { countdown = heap.countdown - 1 })
    else heap

-- the segments that leave by it
abbrev pub left_by_count : Bool → Bool → HeapState → ℕ → List Segment
left_by_count frees parts heap at = if is_counted heap at && nat_le heap.countdown 1 then taken_back frees (handed_out parts heap.segments) else []

-- The segments of a heap are runs of whole regions, and have their bytes.
use Rattle.std.proofs.Common.{◌≡◌, ℕ, ◌+◌, ◌-◌, ◌<◌, ◌≤◌, ◌⊎◌, Bool, true, false, ◌==◌, List, [], ◌∷◌, map, refl, sym, ◌∙◌, subst, arith, inl, inr}
use Rattle.std.specs.List.{list_any, AllByRecursion}
use Rattle.std.proofs.lemmas.Bool.Decides.{nat_tests}
use Rattle.heap_memory.specs.Regions.{IsApart}
use Rattle.dlmalloc_chunks.specs.declared.extent.Extent.{Extent}
use Rattle.dlmalloc_chunks.specs.Kinds.{ends_segment}
use Rattle.dlmalloc.specs.State.{Segment}
use Rattle.dlmalloc.specs.Heap.{IsSound}
use Rattle.dlmalloc.specs.Segments.{IsWithin, AreSegments, has_byte_in}
use Rattle.dlmalloc.specs.declared.heap.Dlmalloc.{Dlmalloc}
use Rattle.dlmalloc.specs.Served.{AreSpans}
use Rattle.machine_model.specs.declared.region.Region.{Region}
use Rattle.machine_model.specs.State.{end_of_region, is_within}
use Rattle.machine_model.specs.Extents.{begins_at, ends_at, AreRuns}
use Rattle.machine_model.proofs.Booleans.{or_left, or_right, or_cases}
use Rattle.machine_model.proofs.Regions.{within_bounds}
use Rattle.paged_systems.specs.Words.{heap_regions, grant_of}
use Rattle.paged_systems.specs.System.{paged}
use Rattle.kernel_heap.specs.Heap.{regions, word, heap_state}
use Rattle.kernel_heap.specs.LaidOut.{has_region, HaveRegions}
use Rattle.paged_systems.specs.declared.paged_system.PagedSystem.{PagedSystem}
use Rattle.paged_systems.proofs.HeapRegions.{granted_same}
use Rattle.kernel_heap.proofs.SegmentRegions.{has_bounds}

-- ---- whole regions in a range

-- the region that has the first byte begins with the range
begins_first : (low high flags : ℕ) (list : List Region) → low < high →
    AllByRecursion (λ region. IsApart low high region ⊎ IsWithin low high flags region) (map grant_of list) →
    list_any (is_within low) list ≡ true → list_any (begins_at low) list ≡ true
begins_first low high flags [] some all has = has
begins_first low high flags (first ∷ rest) some all has = elim (or_cases (is_within low first) (list_any (is_within low) rest) has) [
  | inl here ↦ or_left (begins_at low first) (list_any (begins_at low) rest) (begins all.0 (within_bounds low first here).0 (within_bounds low first here).1)
  | inr later ↦ or_right (begins_at low first) (list_any (begins_at low) rest) (begins_first low high flags rest some all.1 later)
]
  where
    begins : IsApart low high (grant_of first) ⊎ IsWithin low high flags (grant_of first) → first.start ≤ low →
        low < end_of_region first → begins_at low first ≡ true
    begins (inl (inl before)) from to = absurd (omega (arith, before, to))
    begins (inl (inr behind)) from to = absurd (omega (arith, behind, from, some))
    begins (inr within) from to = let same : first.start ≡ low = omega (arith, within.0, from) in grind (arith, nat_tests)

-- and the one that has the last byte ends with it
ends_last : (low high flags : ℕ) (list : List Region) → low < high → AllByRecursion
    (λ region. IsApart low high region ⊎ IsWithin low high flags region) (map grant_of list) →
    list_any (is_within (high - 1)) list ≡ true → list_any (ends_at high) list ≡ true
ends_last low high flags [] some all has = has
ends_last low high flags (first ∷ rest) some all has = elim (or_cases (is_within (high - 1) first) (list_any (is_within (high - 1)) rest) has) [
  | inl here ↦ or_left (ends_at high first) (list_any (ends_at high) rest)
      (ends all.0 (within_bounds (high - 1) first here).0 (within_bounds (high - 1) first here).1)
  | inr later ↦ or_right (ends_at high first) (list_any (ends_at high) rest) (ends_last low high flags rest some all.1 later)
]
  where
    ends : IsApart low high (grant_of first) ⊎ IsWithin low high flags (grant_of first) → first.start ≤ high - 1 →
        high - 1 < end_of_region first → ends_at high first ≡ true
    ends (inl (inl before)) from to = absurd (omega (arith, before, to, some))
    ends (inl (inr behind)) from to = absurd (omega (arith, behind, from, some))
    ends (inr within) from to = let same : end_of_region first ≡ high = omega (arith, within.1, to, some) in grind (arith, nat_tests)

-- ---- the segments of a heap over these regions

same_number : (a b : ℕ) → (a == b) ≡ true → a ≡ b
same_number a b test = grind (arith, nat_tests)

module _ (list : List Region) (words : ℕ → ℕ) where
  -- where a segment begins, a region does
  segment_begins : (segments : List Segment) → AreSegments (map grant_of list) words segments → (at : ℕ) →
      list_any (λ (segment : Segment). segment.base == at) segments ≡ true → list_any (begins_at at) list ≡ true
  segment_begins [] parts at is = absurd (cc)
  segment_begins (segment ∷ segments) parts at is = elim (or_cases (segment.base == at) (list_any (λ (segment : Segment). segment.base == at) segments) is) [
    | inl here ↦ (let long = parts.0.long in
        subst (λ a. list_any (begins_at a) list ≡ true) (same_number segment.base at here)
        (begins_first segment.base (segment.base + segment.size) segment.flags list (omega arith) parts.0.run.whole
        (sym (granted_same list segment.base) ∙ parts.0.run.covered segment.base (omega arith) (omega arith))))
    | inr later ↦ segment_begins segments parts.1 at later
  ]

  -- and where one ends, one ends
  segment_ends : (segments : List Segment) → AreSegments (map grant_of list) words segments → (at : ℕ) →
      list_any (λ (segment : Segment). segment.base + segment.size == at) segments ≡ true →
      list_any (ends_at at) list ≡ true
  segment_ends [] parts at is = absurd (cc)
  segment_ends (segment ∷ segments) parts at is = elim (or_cases (segment.base + segment.size == at)
      (list_any (λ (segment : Segment). segment.base + segment.size == at) segments) is) [
        | inl here ↦ (let long = parts.0.long in
            subst (λ a. list_any (ends_at a) list ≡ true) (same_number (segment.base + segment.size) at here)
            (ends_last segment.base (segment.base + segment.size) segment.flags list (omega arith) parts.0.run.whole
            (sym (granted_same list (segment.base + segment.size - 1)) ∙ parts.0.run.covered (segment.base + segment.size - 1) (omega arith) (omega arith))))
        | inr later ↦ segment_ends segments parts.1 at later
      ]

  -- a byte of a segment is one of a region
  bytes_granted : (segments : List Segment) → AreSegments (map grant_of list) words segments → (address : ℕ) →
      list_any (has_byte_in address) segments ≡ true → list_any (is_within address) list ≡ true
  bytes_granted [] parts address is = absurd (cc)
  bytes_granted (segment ∷ segments) parts address is = elim (or_cases (has_byte_in address segment) (list_any (has_byte_in address) segments) is) [
    | inl here ↦ (let bounds = byte_bounds address segment here in sym (granted_same list address) ∙ parts.0.run.covered address bounds.0 bounds.1)
    | inr later ↦ bytes_granted segments parts.1 address later
  ]
    where
      byte_bounds : (address : ℕ) (segment : Segment) → has_byte_in address segment ≡ true → (segment.base ≤ address) × (address < segment.base + segment.size)
      byte_bounds address segment is = grind (arith, nat_tests)

-- a byte of a region that the segments have is one of theirs
has_byte : (address : ℕ) (region : Region) (segments : List Segment) → is_within address region ≡ true →
    list_any (has_region (grant_of region)) segments ≡ true → list_any (has_byte_in address) segments ≡ true
has_byte address region [] within is = is
has_byte address region (segment ∷ segments) within is = elim (or_cases (has_region (grant_of region) segment)
    (list_any (has_region (grant_of region)) segments) is) [
      | inl here ↦ or_left (has_byte_in address segment) (list_any (has_byte_in address) segments)
          (one (has_bounds (grant_of region) segment here).0 (has_bounds (grant_of region) segment here).1
          (within_bounds address region within).0 (within_bounds address region within).1)
      | inr later ↦ or_right (has_byte_in address segment) (list_any (has_byte_in address) segments) (has_byte address region segments within later)
    ]
  where
    one : segment.base ≤ region.start → end_of_region region ≤ segment.base + segment.size → region.start ≤ address →
        address < end_of_region region → has_byte_in address segment ≡ true
    one low high from to = grind (arith, nat_tests)

bytes_had : (address : ℕ) (segments : List Segment) (list : List Region) → HaveRegions segments (map grant_of list) →
    list_any (is_within address) list ≡ true → list_any (has_byte_in address) segments ≡ true
bytes_had address segments [] have is = absurd (cc)
bytes_had address segments (first ∷ rest) have is = elim (or_cases (is_within address first) (list_any (is_within address) rest) is) [
  | inl here ↦ has_byte address first segments here have.0
  | inr later ↦ bytes_had address segments rest have.1 later
]

both_ways : (a b : Bool) → (a ≡ true → b ≡ true) → (b ≡ true → a ≡ true) → a ≡ b
both_ways true true there back = refl
both_ways false false there back = refl
both_ways true false there back = absurd (let no = there refl in cc)
both_ways false true there back = absurd (let no = back refl in cc)

-- they have the same bytes
pub segment_bytes : (heap : Dlmalloc PagedSystem) → IsSound regions word heap → HaveRegions (heap_state heap).segments (regions heap.system) → (address : ℕ) →
    list_any (has_byte_in address) (heap_state heap).segments ≡ list_any (is_within address) (heap_regions (paged heap.system).regions)
segment_bytes heap sound have address =
    both_ways (list_any (has_byte_in address) (heap_state heap).segments) (list_any (is_within address) (heap_regions (paged heap.system).regions))
    (bytes_granted (heap_regions (paged heap.system).regions) (word heap.system) (heap_state heap).segments sound.segments address)
    (bytes_had address (heap_state heap).segments (heap_regions (paged heap.system).regions) have)

-- ---- the extents of the heap

-- where segments begin and end, regions do
runs_of : (segments : List Segment) (regions : List Region) → ((at : ℕ) →
    list_any (λ (segment : Segment). segment.base == at) segments ≡ true → list_any (begins_at at) regions ≡ true) →
    ((at : ℕ) → list_any (λ (segment : Segment). segment.base + segment.size == at) segments ≡ true → list_any (ends_at at) regions ≡ true) →
    (begins : Bool) (extents : List Extent) → AreSpans segments begins extents → AreRuns regions begins extents
runs_of segments regions from to begins [] spans = tt
runs_of segments regions from to begins (extent ∷ extents) spans = (
  λ b. from extent.at (spans.0 b),
  λ e. to (extent.at + extent.size) (spans.1 e),
  runs_of segments regions from to (ends_segment extent.kind) extents spans.2,
)

pub heap_runs : (heap : Dlmalloc PagedSystem) → IsSound regions word heap → (list : List Extent) →
    AreSpans (heap_state heap).segments true list → AreRuns (heap_regions (paged heap.system).regions) true list
heap_runs heap sound list spans = runs_of (heap_state heap).segments (heap_regions (paged heap.system).regions)
    (segment_begins (heap_regions (paged heap.system).regions) (word heap.system) (heap_state heap).segments sound.segments)
    (segment_ends (heap_regions (paged heap.system).regions) (word heap.system) (heap_state heap).segments sound.segments) true list spans

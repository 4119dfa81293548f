-- The regions that the segments of a heap have, before and after a grant.
use Rattle.std.proofs.Common.{◌≡◌, ℕ, ◌+◌, ◌≤◌, inl, inr, Bool, true, false, ◌==◌, ◌&&◌, ◌||◌, if◌then◌else◌, List, [], ◌∷◌, map, refl, sym, ap, ◌∙◌, subst, arith, IsTrue}
use Rattle.std.specs.List.{list_any}
use Rattle.std.proofs.lemmas.Bool.Decides.{nat_tests}
use Rattle.heap_memory.specs.declared.grant.Grant.{Grant}
use Rattle.heap_memory.specs.RegionLaws.{all_with}
use Rattle.dlmalloc_chunks.specs.declared.extent.Extent.{Extent}
use Rattle.dlmalloc.specs.State.{HeapState, Segment, trim_threshold}
use Rattle.dlmalloc.specs.Granted.{extended, is_behind, is_before, may_join, opened, put_before, joined, prepended, without_top, granted as granted_state}
use Rattle.dlmalloc.specs.Freed.{freed_in, freed}
use Rattle.dlmalloc.specs.Requested.{IsFound}
use Rattle.dlmalloc.specs.Taken.{in_segments}
use Rattle.dlmalloc.specs.declared.heap.Dlmalloc.{Dlmalloc}
use Rattle.machine_model.proofs.Booleans.{or_left, or_right, or_cases}
use Rattle.kernel_heap.specs.Heap.{follows, regions, heap_state}
use Rattle.kernel_heap.specs.LaidOut.{has_region, HaveRegions}
use Rattle.paged_systems.specs.declared.paged_system.PagedSystem.{PagedSystem}
use Rattle.paged_systems.proofs.HeapRegions.{all_more}

-- ---- single segments

pub has_bounds : (region : Grant) (segment : Segment) → has_region region segment ≡ true →
    (segment.base ≤ region.base) × (region.base + region.size ≤ segment.base + segment.size)
has_bounds region segment is = grind (arith, nat_tests)

has_self : (grant : Grant) → has_region grant (opened grant) ≡ true
has_self grant = grind (arith, nat_tests)

left_true : (a b : Bool) → (a && b) ≡ true → a ≡ true
left_true true b is = refl
left_true false b is = is

same_number : (a b : ℕ) → (a == b) ≡ true → a ≡ b
same_number a b test = grind (arith, nat_tests)

-- a segment that grows has what it had, and the grant
grown_has : (grant region : Grant) (segment : Segment) → has_region region segment ≡ true → has_region region (extended grant.size segment) ≡ true
grown_has grant region segment is =
    let bounds = has_bounds region segment is in
    grind (arith, nat_tests, bounds.0, bounds.1)

grown_grant : (grant : Grant) (segment : Segment) → is_behind grant segment ≡ true → has_region grant (extended grant.size segment) ≡ true
grown_grant grant segment is =
    let at = same_number grant.base (segment.base + segment.size) (left_true (grant.base == segment.base + segment.size) (may_join grant segment) is) in
    grind (arith, nat_tests, at)

put_has : (grant region : Grant) (n : ℕ) (segment : Segment) → is_before grant segment ≡ true →
    has_region region segment ≡ true → has_region region (put_before grant n segment) ≡ true
put_has grant region n segment before is =
    let at = same_number segment.base (grant.base + grant.size) (left_true (segment.base == grant.base + grant.size) (may_join grant segment) before) in
    let bounds = has_bounds region segment is in
    grind (arith, nat_tests, at, bounds.0, bounds.1)

put_grant : (grant : Grant) (n : ℕ) (segment : Segment) → is_before grant segment ≡ true → has_region grant (put_before grant n segment) ≡ true
put_grant grant n segment before =
    let at = same_number segment.base (grant.base + grant.size) (left_true (segment.base == grant.base + grant.size) (may_join grant segment) before) in
    grind (arith, nat_tests, at)

joined_has : (grant region : Grant) (n : ℕ) (segment : Segment) → has_region region segment ≡ true → has_region region (joined grant n segment) ≡ true
joined_has grant region n segment is = go (is_before grant segment) refl
  where
    go : (b : Bool) → is_before grant segment ≡ b → has_region region (if b then put_before grant n segment else segment) ≡ true
    go true before = put_has grant region n segment before is
    go false before = is

joined_grant : (grant : Grant) (n : ℕ) (segment : Segment) → is_before grant segment ≡ true → has_region grant (joined grant n segment) ≡ true
joined_grant grant n segment is = go (is_before grant segment) is
  where
    go : (b : Bool) → b ≡ true → has_region grant (if b then put_before grant n segment else segment) ≡ true
    go true same = put_grant grant n segment is
    go false same = absurd (cc)

-- ---- lists of segments

any_map : (test after : Segment → Bool) (change : Segment → Segment) →
    ((segment : Segment) → test segment ≡ true → after (change segment) ≡ true) → (segments : List Segment) →
    list_any test segments ≡ true →
    list_any after (map {B = Segment} change segments) ≡ true
any_map test after change each [] is = is
any_map test after change each (first ∷ rest) is = elim (or_cases (test first) (list_any test rest) is) [
  | inl here ↦ or_left (after (change first)) (list_any after (map {B = Segment} change rest)) (each first here)
  | inr later ↦ or_right (after (change first)) (list_any after (map {B = Segment} change rest)) (any_map test after change each rest later)
]

-- other extents, and none, change nothing
has_changed : (region : Grant) (change : List Extent → List Extent) (segments : List Segment) →
    list_any (has_region region) (in_segments change segments) ≡ list_any (has_region region) segments
has_changed region change [] = refl
has_changed region change (first ∷ rest) = ap (λ b. has_region region first || b) (has_changed region change rest)

abbrev bare : List Segment → List Segment
bare segments = map {B = Segment} (λ segment. record segment { extents = [] }) segments

-- the segments have the region
abbrev Has : List Segment → Grant → Type 0
Has segments region = IsTrue (list_any (has_region region) segments)

pub have_changed : (change : List Extent → List Extent) (segments : List Segment) (list : List Grant) →
    HaveRegions segments list → HaveRegions (in_segments change segments) list
have_changed change segments list have =
    all_more (Has segments) (Has (in_segments change segments)) (λ region is. has_changed region change segments ∙ is) list have

has_bare : (region : Grant) (segments : List Segment) → list_any (has_region region) (bare segments) ≡ list_any (has_region region) segments
has_bare region segments = has_changed region (λ extents. []) segments

has_placed : (region : Grant) (segments others : List Segment) → bare segments ≡ bare others →
    list_any (has_region region) segments ≡ true → list_any (has_region region) others ≡ true
has_placed region segments others same is = sym (has_bare region others) ∙ (ap (list_any (has_region region)) (sym same) ∙ (has_bare region segments ∙ is))

-- ---- a grant

module _ (grant : Grant) (n victim granularity rate countdown trim_check : ℕ) where
  abbrev state : List Segment → HeapState
  state segments = record { segments = segments; victim = victim; granularity = granularity; rate = rate; countdown = countdown; trim_check = trim_check }

  abbrev states : Bool → Bool → Segment → List Segment → HeapState
  states b c head rest =
      if b then record (state (head ∷ rest)) { segments = extended grant.size head ∷ rest; trim_check = trim_threshold } else
      if c then freed (prepended grant n (state (head ∷ rest))) (grant.base + n) else
      record (state (head ∷ rest)) { segments = opened grant ∷ without_top head ∷ rest; trim_check = trim_threshold }

  -- the segments have what they had
  pub had : (region : Grant) (segments : List Segment) → list_any (has_region region) segments ≡ true →
      list_any (has_region region) (granted_state grant n (state segments)).segments ≡ true
  had region [] is = absurd (cc)
  had region (head ∷ rest) is = go (is_behind grant head) (list_any (is_before grant) (head ∷ rest))
    where
      go : (b c : Bool) → list_any (has_region region) (states b c head rest).segments ≡ true
      go true c = elim (or_cases (has_region region head) (list_any (has_region region) rest) is) [
        | inl here ↦ or_left (has_region region (extended grant.size head)) (list_any (has_region region) rest) (grown_has grant region head here)
        | inr later ↦ or_right (has_region region (extended grant.size head)) (list_any (has_region region) rest) later
      ]
      go false true = has_changed region (freed_in (grant.base + n)) (map {B = Segment} (joined grant n) (head ∷ rest))
          ∙ any_map (has_region region) (has_region region) (joined grant n) (joined_has grant region n) (head ∷ rest) is
      go false false = or_right (has_region region (opened grant)) (list_any (has_region region) (without_top head ∷ rest)) is

  -- and they have the grant
  pub given : (segments : List Segment) → list_any (has_region grant) (granted_state grant n (state segments)).segments ≡ true
  given [] = or_left (has_region grant (opened grant)) false (has_self grant)
  given (head ∷ rest) = go (is_behind grant head) refl (list_any (is_before grant) (head ∷ rest)) refl
    where
      go : (b : Bool) → is_behind grant head ≡ b → (c : Bool) → list_any (is_before grant) (head ∷ rest) ≡ c →
          list_any (has_region grant) (states b c head rest).segments ≡ true
      go true behind c before = or_left (has_region grant (extended grant.size head)) (list_any (has_region grant) rest) (grown_grant grant head behind)
      go false behind true before = has_changed grant (freed_in (grant.base + n))
          (map {B = Segment} (joined grant n) (head ∷ rest)) ∙ any_map (is_before grant) (has_region grant) (joined grant n)
          (joined_grant grant n) (head ∷ rest) before
      go false behind false before = or_left (has_region grant (opened grant)) (list_any (has_region grant) (without_top head ∷ rest)) (has_self grant)

-- a chunk was found, in the segments or with a grant
pub have_found : (heap new : Dlmalloc PagedSystem) (n : ℕ) → IsFound follows regions heap.system (heap_state heap) n
    new.system (heap_state new) → HaveRegions (heap_state heap).segments (regions heap.system) →
    HaveRegions (heap_state new).segments (regions new.system)
have_found heap new n found have = elim found [
  | inl here ↦ subst (HaveRegions (heap_state new).segments) (sym here.2)
      (all_more (Has (heap_state heap).segments) (Has (heap_state new).segments)
      (λ region is. has_placed region (heap_state heap).segments (heap_state new).segments (sym here.0) is)
      (regions heap.system) have)
  | inr there ↦ (
      let h = heap_state heap in
      subst (HaveRegions (heap_state new).segments) (sym there.5)
      (all_with (Has (heap_state new).segments) there.0 (regions heap.system)
      (has_placed there.0 (granted_state there.0 n h).segments (heap_state new).segments (sym there.3)
      (given there.0 n h.victim h.granularity h.rate h.countdown h.trim_check h.segments))
      (all_more (Has h.segments) (Has (heap_state new).segments) (λ region is.
      has_placed region (granted_state there.0 n h).segments (heap_state new).segments (sym there.3)
      (had there.0 n h.victim h.granularity h.rate h.countdown h.trim_check region h.segments is)) (regions heap.system) have)))
]

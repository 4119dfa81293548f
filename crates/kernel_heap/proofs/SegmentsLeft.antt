-- The regions that the segments of a heap have, where segments, or the end of one, went back to the system.
use Rattle.std.proofs.Common.{◌≡◌, ℕ, ◌+◌, ◌-◌, ◌^◌, ◌<◌, inl, inr, Bool, true, false, cond, not, ◌&&◌, ◌||◌, nat_lt, if◌then◌else◌, List, [], ◌∷◌, ◌++◌, map, refl, subst, arith, IsTrue}
use Rattle.std.specs.Prelude.{nat_le}
use Rattle.std.specs.List.{list_any, AllByRecursion, filter}
use Rattle.std.proofs.lemmas.Bool.Decides.{nat_tests}
use Rattle.heap_memory.specs.declared.grant.Grant.{Grant}
use Rattle.heap_memory.specs.Runs.{begins_in, up_to, without_run}
use Rattle.dlmalloc.specs.State.{HeapState, Segment}
use Rattle.dlmalloc.specs.Freed.{freed_in, freed}
use Rattle.dlmalloc.specs.Released.{may_leave, handed_out, staying, taken_back, regions_without, passed, is_counted, counted, left_by_count}
use Rattle.dlmalloc.specs.Trimmed.{shortened, cut_of, cut_top, is_cut, after_cut, given_up, top_bytes, is_trimmed, gives_back, trimmed, without_end, regions_cut, regions_trimmed}
use Rattle.dlmalloc.specs.AfterFree.{is_above_check, after_free, regions_after}
use Rattle.dlmalloc.proofs.Segments.RegionsLess.{all_without}
use Rattle.machine_model.specs.declared.region.Region.{Region}
use Rattle.machine_model.specs.State.{end_of_region}
use Rattle.machine_model.proofs.Booleans.{or_left, or_right, or_cases}
use Rattle.mapped_regions.specs.Regions.{AreLaid}
use Rattle.paged_systems.specs.Words.{heap_regions, grant_of}
use Rattle.kernel_heap.specs.LaidOut.{has_region, HaveRegions}
use Rattle.paged_systems.proofs.HeapRegions.{all_more}
use Rattle.kernel_heap.proofs.SegmentRegions.{has_bounds, have_changed}
use Rattle.paged_systems.proofs.Releasing.{heap_grants}

-- the segments have a region that has bytes
abbrev pub Has : List Segment → Grant → Type 0
Has segments region = (0 < region.size) × IsTrue (list_any (has_region region) segments)

-- each of these regions is one
abbrev pub HaveAll : List Segment → List Grant → Type 0
HaveAll segments regions = AllByRecursion (Has segments) regions

-- regions of a paged system have pages
pub have_all : (from to : ℕ) (list : List Region) → AreLaid from list to → (segments : List Segment) →
    HaveRegions segments (heap_grants list) → HaveAll segments (heap_grants list)
have_all from to [] laid segments have = tt
have_all from to (first ∷ rest) laid segments have = go first.heap have
    (have_all (end_of_region first) to rest laid.3 segments)
  where
    go : (heap : Bool) → HaveRegions segments (map grant_of (cond heap (first ∷ heap_regions rest) (heap_regions rest))) →
        (HaveRegions segments (heap_grants rest) → HaveAll segments (heap_grants rest)) →
        HaveAll segments (map grant_of (cond heap (first ∷ heap_regions rest) (heap_regions rest)))
    go true all later = (((let some = laid.2 in omega (arith, some)), all.0), later all.1)
    go false all later = later all

-- ---- a region that ends sooner

front_some : (place : ℕ) (region : Grant) → 0 < region.size → 0 < (up_to place region).size
front_some place region some = grind (arith, nat_tests)

front_has : (place : ℕ) (region : Grant) (segment : Segment) → has_region region segment ≡ true → has_region (up_to place region) segment ≡ true
front_has place region segment is = let bounds = has_bounds region segment is in grind (arith, nat_tests, bounds.0, bounds.1)

front_any : (place : ℕ) (region : Grant) (segments : List Segment) → list_any (has_region region) segments ≡ true →
    list_any (has_region (up_to place region)) segments ≡ true
front_any place region [] is = is
front_any place region (segment ∷ segments) is = elim (or_cases (has_region region segment) (list_any (has_region region) segments) is) [
  | inl here ↦ or_left (has_region (up_to place region) segment) (list_any (has_region (up_to place region)) segments) (front_has place region segment here)
  | inr later ↦ or_right (has_region (up_to place region) segment) (list_any (has_region (up_to place region)) segments) (front_any place region segments later)
]

-- ---- one segment goes, and then others

one_left : (gone : Segment) (others : List Segment) (region : Grant) → Has (gone ∷ others) region →
    begins_in gone.base (gone.base + gone.size) region ≡ false → Has others (up_to gone.base region)
one_left gone others region is out = (
  front_some gone.base region is.0,
  elim (or_cases (has_region region gone) (list_any (has_region region) others) is.1) [
    | inl here ↦ absurd (let bounds = has_bounds region gone here in let some = is.0 in
        let there : begins_in gone.base (gone.base + gone.size) region ≡ true = grind (arith, nat_tests, bounds.0, bounds.1)
        in cc)
    | inr later ↦ front_any gone.base region others later
  ],
)

pub have_without : (gone others : List Segment) (regions : List Grant) → HaveAll (gone ++ others) regions → HaveAll others (regions_without gone regions)
have_without [] others regions have = have
have_without (segment ∷ gone) others regions have = have_without gone others (without_run segment.base (segment.base + segment.size) regions)
    (all_without segment.base (segment.base + segment.size) (Has (segment ∷ (gone ++ others))) (Has (gone ++ others))
    (one_left segment (gone ++ others)) regions have)

any_behind : (test : Segment → Bool) (first second : List Segment) → list_any test second ≡ true → list_any test (first ++ second) ≡ true
any_behind test [] second there = there
any_behind test (segment ∷ first) second there = or_right (test segment) (list_any test (first ++ second)) (any_behind test first second there)

-- with one segment more behind the head it is there still
any_more : (test : Segment → Bool) (head segment : Segment) (kept first : List Segment) →
    list_any test (first ++ (head ∷ kept)) ≡ true → list_any test (first ++ (head ∷ (segment ∷ kept))) ≡ true
any_more test head segment kept [] any = elim (or_cases (test head) (list_any test kept) any) [
  | inl here ↦ or_left (test head) (test segment || list_any test kept) here
  | inr later ↦ or_right (test head) (test segment || list_any test kept) (or_right (test segment) (list_any test kept) later)
]
any_more test head segment kept (one ∷ first) any = elim (or_cases (test one) (list_any test (first ++ (head ∷ kept))) any) [
  | inl here ↦ or_left (test one) (list_any test (first ++ (head ∷ (segment ∷ kept)))) here
  | inr later ↦ or_right (test one) (list_any test (first ++ (head ∷ (segment ∷ kept)))) (any_more test head segment kept first later)
]

-- of the segments behind the head those that go stand before it, those that stay behind it
parted_later : (test : Segment → Bool) (leaves : Segment → Bool) (head : Segment) (segments : List Segment) → list_any test segments ≡ true →
    list_any test (filter leaves segments ++ (head ∷ filter (λ segment. not (leaves segment)) segments)) ≡ true
parted_later test leaves head [] there = absurd (let no : false ≡ true = there in cc)
parted_later test leaves head (segment ∷ rest) there = by (leaves segment) refl (parted_later test leaves head rest)
  where
    kept : List Segment
    kept = filter (λ segment. not (leaves segment)) rest

    by : (b : Bool) → leaves segment ≡ b → (list_any test rest ≡ true → list_any test (filter leaves rest ++ (head ∷ kept)) ≡ true) →
        list_any test (cond b (segment ∷ filter leaves rest) (filter leaves rest) ++ (head ∷ cond (not b) (segment ∷ kept) kept)) ≡ true
    by true is rest_there = elim (or_cases (test segment) (list_any test rest) there) [
      | inl here ↦ or_left (test segment) (list_any test (filter leaves rest ++ (head ∷ kept))) here
      | inr later ↦ or_right (test segment) (list_any test (filter leaves rest ++ (head ∷ kept))) (rest_there later)
    ]
    by false is rest_there = elim (or_cases (test segment) (list_any test rest) there) [
      | inl here ↦ any_behind test (filter leaves rest) (head ∷ (segment ∷ kept))
          (or_right (test head) (test segment || list_any test kept) (or_left (test segment) (list_any test kept) here))
      | inr later ↦ any_more test head segment kept (filter leaves rest) (rest_there later)
    ]

any_parted : (test : Segment → Bool) (leaves : Segment → Bool) (head : Segment) (segments : List Segment) → list_any test (head ∷ segments) ≡ true →
    list_any test (filter leaves segments ++ (head ∷ filter (λ segment. not (leaves segment)) segments)) ≡ true
any_parted test leaves head segments is = elim (or_cases (test head) (list_any test segments) is) [
  | inl here ↦ any_behind test (filter leaves segments) (head ∷ filter (λ segment. not (leaves segment)) segments)
      (or_left (test head) (list_any test (filter (λ segment. not (leaves segment)) segments)) here)
  | inr later ↦ parted_later test leaves head segments later
]

-- ---- a release pass

have_passed : (frees parts : Bool) (segments : List Segment) (regions : List Grant) → HaveAll segments regions →
    HaveAll (if frees then staying parts segments else segments) (regions_without (taken_back frees (handed_out parts segments)) regions)
have_passed false parts segments regions have = have
have_passed true parts [] regions have = have
have_passed true parts (head ∷ segments) regions have = have_without (filter (may_leave parts) segments)
    (head ∷ filter (λ segment. not (may_leave parts segment)) segments) regions
    (all_more (Has (head ∷ segments)) (Has (filter (may_leave parts) segments ++ (head ∷ filter (λ segment. not (may_leave parts segment)) segments)))
    (λ region is. (is.0, any_parted (has_region region) (may_leave parts) head segments is.1)) regions have)

-- ---- a cut

cut_left : (less : ℕ) (head : Segment) (rest : List Segment) (region : Grant) → Has (head ∷ rest) region →
    begins_in (head.base + (head.size - less)) (head.base + head.size) region ≡ false →
    Has (shortened less head ∷ rest) (up_to (head.base + (head.size - less)) region)
cut_left less head rest region is out = (
  front_some place region is.0,
  elim (or_cases (has_region region head) (list_any (has_region region) rest) is.1) [
    | inl here ↦ or_left (has_region (up_to place region) (shortened less head)) (list_any (has_region (up_to place region)) rest)
        (let bounds = has_bounds region head here in let some = is.0 in grind (arith, nat_tests, bounds.0, bounds.1))
    | inr later ↦ or_right (has_region (up_to place region) (shortened less head))
        (list_any (has_region (up_to place region)) rest) (front_any place region rest later)
  ],
)
  where
    place : ℕ
    place = head.base + (head.size - less)

have_cut : (less : ℕ) (heap : HeapState) (regions : List Grant) → HaveAll heap.segments regions →
    HaveAll (cut_top less heap).segments (without_end less heap.segments regions)
have_cut less heap regions have = go heap.segments have
  where
    go : (segments : List Segment) → HaveAll segments regions →
        HaveAll (cut_top less (record {
          segments = segments;
          victim = heap.victim;
          granularity = heap.granularity;
          rate =
              heap.rate;
          countdown = heap.countdown;
          trim_check = heap.trim_check;
        })).segments
        (without_end less segments regions)
    go [] all = all
    go (head ∷ rest) all = all_without (head.base + (head.size - less)) (head.base + head.size) (Has (head ∷ rest))
        (Has (shortened less head ∷ rest)) (cut_left less head rest) regions all

-- ---- what a free does further

pub have_trimmed : (frees parts : Bool) (unit pad : ℕ) (heap : HeapState) (regions : List Grant) → HaveAll heap.segments regions →
    HaveAll (trimmed frees parts unit pad heap).segments (regions_trimmed frees parts unit pad heap regions)
have_trimmed frees parts unit pad heap regions have = made (is_trimmed pad heap)
  where
    after : HeapState
    after = after_cut parts unit pad heap

    cut : (b : Bool) → HaveAll (if b then cut_top (cut_of heap pad) heap else heap).segments
        (if b then without_end (cut_of heap pad) heap.segments regions else regions)
    cut true = have_cut (cut_of heap pad) heap regions have
    cut false = have

    -- a cut changes no segment but the head, which is not handed out
    handed : (b : Bool) → handed_out parts (if b then cut_top (cut_of heap pad) heap else heap).segments ≡ handed_out parts heap.segments
    handed true = by heap.segments
      where
        by : (segments : List Segment) →
            handed_out parts (cut_top (cut_of heap pad) (record {
              segments = segments;
              victim = heap.victim;
              granularity =
                  heap.granularity;
              rate = heap.rate;
              countdown = heap.countdown;
              trim_check =
                  heap.trim_check;
            })).segments ≡ handed_out parts segments
        by [] = refl
        by (head ∷ rest) = refl
    handed false = refl

    whole : HaveAll (passed frees parts (after_cut parts unit pad heap)).segments
        (regions_without (taken_back frees (handed_out parts heap.segments)) (regions_cut parts unit pad heap regions))
    whole = subst (λ (gone : List Segment). HaveAll (passed frees parts (after_cut parts unit pad heap)).segments
        (regions_without (taken_back frees gone) (regions_cut parts unit pad heap regions)))
        (handed (is_cut parts unit pad heap))
        (have_passed frees parts (after_cut parts unit pad heap).segments (regions_cut parts unit pad heap regions) (cut (is_cut parts unit pad heap)))

    up : (b : Bool) (left : HeapState) (list : List Grant) → HaveAll left.segments list →
        HaveAll (if b then record left { trim_check = 2 ^ 64 - 1 } else left).segments list
    up true left list all = all
    up false left list all = all

    gave : (b : Bool) → HaveAll (if b then passed frees parts (after_cut parts unit pad heap) else given_up
        (passed frees parts (after_cut parts unit pad heap))).segments
        (regions_without (taken_back frees (handed_out parts heap.segments)) (regions_cut parts unit pad heap regions))
    gave true = whole
    gave false =
        let left = passed frees parts (after_cut parts unit pad heap) in
        up (nat_lt left.trim_check (top_bytes left)) left (regions_without
        (taken_back frees (handed_out parts heap.segments)) (regions_cut parts unit pad heap regions)) whole

    made : (b : Bool) →
        HaveAll (if b then (if gives_back frees parts unit pad heap then passed frees parts (after_cut parts unit pad heap)
        else given_up (passed frees parts (after_cut parts unit pad heap))) else heap).segments
        (if b then regions_without (taken_back frees (handed_out parts heap.segments)) (regions_cut parts unit pad heap regions) else regions)
    made true = gave (gives_back frees parts unit pad heap)
    made false = have

have_counted : (frees parts : Bool) (heap : HeapState) (at : ℕ) (regions : List Grant) → HaveAll heap.segments regions →
    HaveAll (counted frees parts heap at).segments (regions_without (left_by_count frees parts heap at) regions)
have_counted frees parts heap at regions have = go (is_counted heap at) (nat_le heap.countdown 1)
  where
    go : (a b : Bool) → HaveAll (if a then (if b then passed frees parts heap else record heap { countdown = heap.countdown - 1 }) else heap).segments
        (regions_without (if a && b then taken_back frees (handed_out parts heap.segments) else []) regions)
    go true true = have_passed frees parts heap.segments regions have
    go true false = have
    go false b = have

pub have_after : (frees parts : Bool) (unit : ℕ) (heap : HeapState) (at : ℕ) (regions : List Grant) → HaveAll heap.segments regions →
    HaveAll (after_free frees parts unit heap at).segments (regions_after frees parts unit heap at regions)
have_after frees parts unit heap at regions have = go (is_above_check heap at)
  where
    go : (b : Bool) → HaveAll (if b then trimmed frees parts unit 0 heap else counted frees parts heap at).segments
        (if b then regions_trimmed frees parts unit 0 heap regions else regions_without (left_by_count frees parts heap at) regions)
    go true = have_trimmed frees parts unit 0 heap regions have
    go false = have_counted frees parts heap at regions have

-- and where the chunk is given back before that
pub have_freed : (frees parts : Bool) (unit : ℕ) (heap : HeapState) (at : ℕ) (regions : List Grant) → HaveAll heap.segments regions →
    HaveRegions (after_free frees parts unit (freed heap at) at).segments (regions_after frees parts unit (freed heap at) at regions)
have_freed frees parts unit heap at regions have =
    all_more (Has (after_free frees parts unit (freed heap at) at).segments)
    (λ region. IsTrue (list_any (has_region region) (after_free frees parts unit (freed heap at) at).segments))
    (λ region is. is.1)
    (regions_after frees parts unit (freed heap at) at regions)
    (have_after frees parts unit (freed heap at) at regions (both regions have))
  where
    both : (regions : List Grant) → HaveAll heap.segments regions → HaveAll (freed heap at).segments regions
    both [] all = tt
    both (region ∷ rest) all = ((all.0.0, (have_changed (freed_in at) heap.segments (region ∷ []) (all.0.1, tt)).0), both rest all.1)

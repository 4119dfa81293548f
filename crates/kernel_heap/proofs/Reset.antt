-- The heap gives all its memory back and begins anew: the answer is allowed, and the machine stands for the state without
-- blocks and without regions of the heap.
use Rattle.std.proofs.Common.{◌≡◌, ◌≢◌, ℕ, zero, suc, ◌+◌, ◌-◌, ◌*◌, ◌^◌, ◌<◌, ◌≤◌, ◌⊎◌, inl, inr, ◌&&◌, nat_le, nat_lt, Bool, true, false, cond, IsTrue, List, [], ◌∷◌, length, map, filter, replicate, refl, sym, ap, ◌∙◌, subst, arith, Option, Some, None, option_map, append-nil, lit<, lit≤}
use Rattle.std.specs.Prelude.{◌==◌, ◌%◌, ◌/◌}
use Rattle.std.specs.List.{AllByRecursion}
use Rattle.std.proofs.lemmas.Bool.Decides.{nat_tests}
use Rattle.paging_core.specs.Pool.{free_count}
use Rattle.paging_core.specs.Walk.{reached}
use Rattle.heap_memory.specs.declared.grant.Grant.{Grant}
use Rattle.heap_memory.specs.Regions.{is_granted, IsApart}
use Rattle.dlmalloc.specs.Extents.{extent_at}
use Rattle.dlmalloc.specs.State.{HeapState, Segment, extents_in}
use Rattle.dlmalloc.specs.Segments.{IsWithin, IsSegment, AreSegments}
use Rattle.dlmalloc.specs.Heap.{IsSound}
use Rattle.dlmalloc.specs.Released.{is_own, releases, regions_without}
use Rattle.dlmalloc.specs.GivenBack.{AreGivenBack}
use Rattle.dlmalloc.specs.declared.heap.Dlmalloc.{Dlmalloc}
use Rattle.sound_heap.specs.Heap.{fresh_heap}
use Rattle.machine_model.specs.declared.live.Live.{Live}
use Rattle.machine_model.specs.declared.region.Region.{Region}
use Rattle.machine_model.specs.declared.call.Call.TheVariants.{Reset}
use Rattle.machine_model.specs.declared.answer.Reply.TheVariants.{Released}
use Rattle.machine_model.specs.State.{State, Block, total_pages}
use Rattle.machine_model.specs.Tables.{used_frames}
use Rattle.machine_model.specs.Place.{meets_any}
use Rattle.machine_model.specs.Cut.{AreCut}
use Rattle.machine_model.specs.Answer.{all_ended}
use Rattle.machine_model.specs.Run.{IsGood, IsHeapRegion}
use Rattle.machine_model.specs.Machine.{Stands, IsStep, outline}
use Rattle.machine_model.proofs.Booleans.{or_cases}
use Rattle.machine_model.proofs.Placed.{length_outline}
use Rattle.machine_model.proofs.Ended.{none_live, good_none, holds_ended_all}
use Rattle.machine_model.proofs.Shortened.{pages_cut, none_gone, good_cut}
use Rattle.machine_model.proofs.Slots.{settled_same}
use Rattle.paged_systems.specs.Window.{IsHeapWindow}
use Rattle.paged_systems.specs.System.{paged}
use Rattle.paged_systems.specs.Words.{heap_regions, grant_of}
use Rattle.kernel_heap.specs.Heap.{regions, word, follows, heap_state}
use Rattle.kernel_heap.specs.Machine.{seen_of}
use Rattle.kernel_heap.specs.Numbered.{live_at}
use Rattle.kernel_heap.specs.LaidOut.{HaveRegions, IsLaidOut}
use Rattle.paged_systems.specs.declared.paged_system.PagedSystem.{PagedSystem}
use Rattle.paged_systems.proofs.HeapRegions.{all_more}
use Rattle.paged_systems.proofs.Numbers.{same_or_other}
use Rattle.kernel_heap.proofs.ShortenedRegions.{AreShortened}
use Rattle.kernel_heap.proofs.ReleasedRegions.{follows_whole}
use Rattle.kernel_heap.proofs.ReleasedState.{left_state, regions_cut, frames_left, enough_left, stands_left}
use Rattle.kernel_heap.proofs.SegmentsLeft.{HaveAll, have_all, have_without}
use Rattle.kernel_heap.proofs.Ended.{whole_releases}

-- ---- all segments are the heap's to give back

no_flags : (list : List Region) → AllByRecursion (λ (region : Grant). region.flags ≡ 0) (map grant_of list)
no_flags [] = tt
no_flags (region ∷ rest) = (refl, no_flags rest)

-- a run has the flags of the region that has its first byte
run_flags : (list : List Grant) (low size flags : ℕ) → 0 < size → AllByRecursion (λ region. region.flags ≡ 0) list → is_granted list low ≡ true →
    AllByRecursion (λ region. IsApart low (low + size) region ⊎ IsWithin low (low + size) flags region) list → flags ≡ 0
run_flags [] low size flags some none granted whole = absurd (cc)
run_flags (first ∷ rest) low size flags some none granted whole =
    go (or_cases (nat_le first.base low && nat_lt low (first.base + first.size)) (is_granted rest low) granted) whole.0
    (λ later. run_flags rest low size flags some none.1 later whole.1)
  where
    go : ((nat_le first.base low && nat_lt low (first.base + first.size)) ≡ true) ⊎ (is_granted rest low ≡ true) →
        IsApart low (low + size) first ⊎ IsWithin low (low + size) flags first → (is_granted rest low ≡ true → flags ≡ 0) →
        flags ≡ 0
    go (inl here) (inl (inl before)) behind_it = absurd (let high : low < first.base + first.size = grind (arith, nat_tests) in omega (arith, before, high))
    go (inl here) (inl (inr behind)) behind_it = absurd (let from : first.base ≤ low = grind (arith, nat_tests) in omega (arith, behind, from, some))
    go (inl here) (inr within) behind_it = sym within.2 ∙ none.0
    go (inr later) is behind_it = behind_it later

all_own : (list : List Region) (words : ℕ → ℕ) (segments : List Segment) → AreSegments (map grant_of list) words segments → filter is_own segments ≡ segments
all_own list words [] are = refl
all_own list words (segment ∷ segments) are =
    let is : IsSegment (map grant_of list) words segment = are.0 in
    let long = is.long in
    let flags : segment.flags ≡ 0 = run_flags (map grant_of list) segment.base segment.size segment.flags
    (omega (arith, long)) (no_flags list) (is.run.covered segment.base (omega arith) (omega (arith, long))) is.run.whole
    in
    let own : is_own segment ≡ true = ap (λ n. n % 2 == 0) flags in
    ap (λ (b : Bool). cond b (segment ∷ filter is_own segments) (filter is_own segments)) own
    ∙ ap (λ (rest : List Segment). segment ∷ rest) (all_own list words segments are.1)

-- ---- no region is left

none_of : (list : List Grant) → HaveAll [] list → list ≡ []
none_of [] all = refl
none_of (region ∷ rest) all = absurd (let no : false ≡ true = all.0.1 in cc)

no_grant : (list : List Region) → map grant_of list ≡ [] → list ≡ []
no_grant [] is = refl
no_grant (region ∷ rest) is = cc

-- ---- no block is live

no_live : (count number : ℕ) (live : Live) → live_at (replicate count None) number ≡ Some live → ⊥
no_live zero number live is = cc
no_live (suc count) zero live is = cc
no_live (suc count) (suc number) live is = no_live count number live is

abbrev none_live_of : ℕ → List (Option Live)
none_live_of count = replicate count None

ended_lives : (blocks : List (Option Block)) → none_live_of (length blocks) ≡ map (option_map outline) (all_ended blocks)
ended_lives [] = refl
ended_lives (block ∷ blocks) = ap (λ (lives : List (Option Live)). None ∷ lives) (ended_lives blocks)

-- ---- the machine

module _ (heap new : Dlmalloc PagedSystem) (sound : IsSound regions word heap) (blocks : List (Option Live)) (released : ℕ) (laid : IsLaidOut heap blocks)
    (out : AreGivenBack regions word follows (filter is_own (heap_state heap).segments) heap.system released new.system)
    (state : heap_state new ≡ fresh_heap heap.granularity heap.rate) where
  own : filter is_own (heap_state heap).segments ≡ (heap_state heap).segments
  own = all_own (heap_regions (paged heap.system).regions) (word heap.system) (heap_state heap).segments sound.segments

  pub none_left : heap_regions (paged new.system).regions ≡ []
  none_left = no_grant (heap_regions (paged new.system).regions)
      (out.regions_are
      ∙ (ap (λ (segments : List Segment). regions_without segments (regions heap.system)) own
      ∙ none_of (regions_without (heap_state heap).segments (regions heap.system))
      (have_without (heap_state heap).segments [] (regions heap.system)
      (subst (λ (segments : List Segment). HaveAll segments (regions heap.system)) (sym (append-nil (heap_state heap).segments))
      (have_all 0 (2 ^ 64) (paged heap.system).regions heap.system.kept.laid (heap_state heap).segments laid.has)))))

  abbrev blocks' : List (Option Live)
  blocks' = none_live_of (length blocks)

  pub laid_reset : IsLaidOut new blocks'
  laid_reset = record {
    has = subst (λ (list : List Region). HaveRegions (heap_state new).segments (map grant_of list)) (sym none_left) tt;
    lives = λ number live is. absurd (no_live (length blocks) number live is);
    used = λ extent used there. absurd (let gone : extent_at extent.at
        (extents_in (fresh_heap heap.granularity heap.rate)) ≡ Some extent =
        subst (λ (h : HeapState). extent_at extent.at (extents_in h) ≡ Some extent) state there in cc);
    distinct = λ i j a b is_a is_b differ. absurd (no_live (length blocks) i a is_a);
  }

  short : AreShortened (paged heap.system) (paged new.system) None
  short = follows_whole (paged heap.system) (paged new.system) (releases (filter is_own (heap_state heap).segments))
      heap.system.kept (whole_releases (filter is_own (heap_state heap).segments)) out.followed

  -- whole segments cut no slot
  no_part : (one : ℕ) → None ≡ Some one → IsTrue (meets_any one 512 (paged new.system).regions)
  no_part one is = absurd (let no : None ≡ Some one = is in cc)

  -- frames are given back, and none is taken
  pub more_free : free_count (paged heap.system).free ≤ free_count (paged new.system).free
  more_free =
      let before = heap.system.kept.mapped.count in
      let now = new.system.kept.mapped.count in
      let tables = short.tables in
      let less = pages_cut (paged heap.system).regions (paged new.system).regions short.cut in
      let size = ap (λ n. n / 512) short.size in
      omega arith

  pub few_free : free_count (paged new.system).free < 2 ^ 32
  few_free = let count = new.system.kept.mapped.count in let few = new.system.kept.mapped.few_frames in omega arith

  module _ {top : ℕ} (s : State) (good : IsGood s) (stands : Stands (seen_of top heap blocks) s) where
    cut_left : AreCut s.heap (heap_regions (paged new.system).regions)
    cut_left = regions_cut (seen_of top heap blocks) (paged new.system) s None good stands heap.system.kept.mapped new.system.kept.mapped short no_part

    cut_all : AreCut s.heap []
    cut_all = subst (AreCut s.heap) none_left cut_left

    abbrev s_reset : State
    s_reset = left_state s [] (all_ended s.blocks)

    good_reset : IsGood s_reset
    good_reset = good_cut (record s { blocks = all_ended s.blocks }) [] (good_none s good) cut_all
        (λ number block is k less. absurd (none_live s.blocks number block is))
        (subst (λ (list : List Region). used_frames (left_state s list (all_ended s.blocks)) ≤ s.frames) none_left
        (enough_left (seen_of top heap blocks) (paged new.system) s None good stands heap.system.kept.mapped
        new.system.kept.mapped short no_part (all_ended s.blocks)))

    lives_same : blocks' ≡ map (option_map outline) (all_ended s.blocks)
    lives_same = ap none_live_of (ap length stands.blocks ∙ length_outline s.blocks) ∙ ended_lives s.blocks

    stands_reset : Stands (seen_of top new blocks') s_reset
    stands_reset =
        let same : new.granularity ≡ heap.granularity = ap (λ (h : HeapState). h.granularity) state in
        subst (λ (list : List Region). Stands (seen_of top new blocks') (left_state s list (all_ended s.blocks))) none_left
        (subst (λ g. Stands (record (seen_of top new blocks') { granularity = g })
        (left_state s (heap_regions (paged new.system).regions) (all_ended s.blocks))) (sym same)
        (stands_left (seen_of top heap blocks) (paged new.system) s None good stands heap.system.kept.mapped
        new.system.kept.mapped short no_part blocks' (all_ended s.blocks) lives_same
        (holds_ended_all (reached (paged new.system).words (paged new.system).root) s.blocks)))

    -- as many frames are free as before and those of the regions
    gained : free_count (paged new.system).free ≡ free_count (paged heap.system).free + total_pages s.heap
    gained =
        let pages = frames_left (seen_of top heap blocks) (paged new.system) s None good stands heap.system.kept.mapped new.system.kept.mapped short no_part in
        let none : total_pages (heap_regions (paged new.system).regions) ≡ 0 = ap total_pages none_left in
        let tables = short.tables in
        omega (arith, pages, none, tables)

    -- where none are, there was no region
    was_empty : total_pages s.heap ≡ 0 → [] ≡ s.heap
    was_empty none = none_gone s.heap [] (all_more (IsHeapRegion s) (λ region. 0 < region.pages)
        (λ region whole. whole.0.1.some) s.heap good.heap) cut_all (omega (arith, none))

    -- the regions are listed where frames were given back
    pub step_reset : (frames : ℕ) (answered : Option (List Region)) → frames ≡ free_count (paged new.system).free - free_count (paged heap.system).free →
        (frames ≡ 0 → answered ≡ None) → (frames ≢ 0 → answered ≡ Some []) →
        IsStep s Reset (record { reply = Released (frames * 4096); regions = answered; large = None }) (seen_of top new blocks')
    step_reset frames answered is none some = elim (same_or_other frames 0) [
      | inl same ↦ subst (λ (a : Option (List Region)). IsStep s Reset (record {
        reply = Released (frames * 4096);
        regions =
            a;
        large = None;
      }) (seen_of top new blocks')) (sym (none same)) (record {
        allowed = record { reply = (refl, (sym (empty same), bytes, small)); listed = tt; large = tt };
        good = good_none s good;
        stands = subst (Stands (seen_of top new blocks')) (ap (λ (list : List Region).
            left_state s list (all_ended s.blocks)) (empty same) ∙ settled_same (record s { blocks = all_ended s.blocks })
            (good_none s good).slots) stands_reset;
      })
      | inr more ↦ subst (λ (a : Option (List Region)). IsStep s Reset (record {
        reply = Released (frames * 4096);
        regions =
            a;
        large = None;
      }) (seen_of top new blocks')) (sym (some more)) (record {
        allowed = record {
          reply = (refl, (refl, bytes, small));
          listed =
              λ e. more (let g = gained in let none = ap total_pages e in omega (arith, is, g, none));
          large = tt;
        };
        good = good_reset;
        stands = stands_reset;
      })
    ]
      where
        bytes : frames * 4096 ≡ 4096 * total_pages s.heap
        bytes = let g = gained in omega (arith, is, g)

        small : frames * 4096 < 2 ^ 64
        small = let few = few_free in omega (arith, is, few)

        empty : frames ≡ 0 → [] ≡ s.heap
        empty same = was_empty (let g = gained in omega (arith, is, same, g))

-- the window of a system that stands in another's place meanwhile: one page
pub spare_window : IsHeapWindow 4096 1
spare_window = record { whole = refl; canonical = record { some = lit< tt; canonical = refl; one_half = refl }; after_first = lit≤ tt; before_last = lit≤ tt }

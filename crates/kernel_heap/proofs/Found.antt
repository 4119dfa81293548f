-- A chunk was found for a request, in the heap's regions or in a granted one: the answer is allowed, and the machine stands
-- for the state after it.
use Rattle.std.proofs.Common.{◌≡◌, ◌≢◌, ℕ, ◌+◌, ◌/◌, ◌^◌, ◌<◌, ◌≤◌, inl, inr, List, [], length, map, find, refl, sym, ap, ◌∙◌, subst, arith, false, Option, Some, None, option_map, not, ◌∷◌, true, IsTrue, IsFalse}
use Rattle.std.specs.List.{list_any, AllByRecursion}
use Rattle.paging_core.specs.Address.{IsCanonicalRange}
use Rattle.paging_core.specs.Prefix.{Prefix}
use Rattle.paging_core.specs.Runs.{IsRunFree}
use Rattle.paging_core.specs.Walk.{reach, large_of, reached}
use Rattle.dlmalloc.specs.Moved.{HasByteOf}
use Rattle.heap_memory.specs.declared.grant.Grant.{Grant}
use Rattle.heap_memory.specs.Regions.{with_grant}
use Rattle.dlmalloc_chunks.specs.Request.{round_up}
use Rattle.dlmalloc.specs.Blocks.{IsFull}
use Rattle.dlmalloc.specs.Requested.{IsFound}
use Rattle.dlmalloc.specs.declared.heap.Dlmalloc.{Dlmalloc}
use Rattle.machine_model.specs.declared.live.Live.{Live}
use Rattle.machine_model.specs.declared.region.Region.{Region}
use Rattle.machine_model.specs.declared.call.Call.{Call}
use Rattle.machine_model.specs.declared.answer.Reply.TheVariants.{Block as Placed}
use Rattle.machine_model.specs.Request.{pages_in, pages_for}
use Rattle.machine_model.specs.State.{State, Block, block_at, cover, is_within, total_pages}
use Rattle.machine_model.specs.Tables.{has_table, missing, free_frames}
use Rattle.machine_model.specs.Slots.{slot_number, slot_prefix, listed_slots}
use Rattle.machine_model.specs.Place.{meets, meets_any, with_region, all_regions, IsPlace}
use Rattle.machine_model.specs.Room.{heap_rights, heap_region, IsGrowth}
use Rattle.machine_model.specs.Cut.{AreCut}
use Rattle.machine_model.specs.Memory.{HoldsBytes}
use Rattle.machine_model.specs.Refusal.{must_refuse, wanted_by}
use Rattle.machine_model.specs.Answer.{changed, with_regions, is_new, NewPages, granted_pages, new_pages, slots_of, heap_after, IsCallServed}
use Rattle.machine_model.specs.Run.{IsGood, IsHeapRegion}
use Rattle.machine_model.specs.Machine.{Paged, Seen, Stands, IsStep, OnlyHeapBytesChange, outline}
use Rattle.machine_model.proofs.Added.{missing_same}
use Rattle.machine_model.proofs.Booleans.{neither_or}
use Rattle.machine_model.proofs.Cut.{none_cut}
use Rattle.machine_model.proofs.Granted.{granted, clear_of, good_granted, AllStart, all_start, none_new, no_start, stands_granted}
use Rattle.machine_model.proofs.Moved.{stands_moved, good_bare, holds_none}
use Rattle.machine_model.proofs.Regions.{length_with, all_with, beside, not_within, find_none}
use Rattle.machine_model.proofs.NewSlots.{slots_listed, allowed_slots, slots_bare, placed_none, placed_some}
use Rattle.machine_model.proofs.Shortened.{none_gone, good_cut, none_new_left, new_left}
use Rattle.machine_model.proofs.Slots.{settled_same}
use Rattle.mapped_regions.specs.Regions.{AreLaid}
use Rattle.mapped_regions.specs.Mapped.{AreRunsUsed}
use Rattle.paged_systems.specs.Layout.{IsGrantedFor}
use Rattle.paged_systems.specs.Words.{heap_regions}
use Rattle.paged_systems.specs.System.{paged, pageless_frames}
use Rattle.kernel_heap.specs.Moves.{marks_of, AreRegionsTold, AreSlotsTold}
use Rattle.kernel_heap.specs.Heap.{regions, follows, heap_state}
use Rattle.kernel_heap.specs.Machine.{seen_of}
use Rattle.kernel_heap.specs.LaidOut.{IsLaidOut}
use Rattle.kernel_heap.specs.Kept.{AreRunsUsedFor}
use Rattle.paged_systems.specs.declared.paged_system.PagedSystem.{PagedSystem}
use Rattle.kernel_heap.proofs.Full.{no_room}
use Rattle.paged_systems.proofs.HeapRegions.{all_more, granted_same, heap_joined, joined_state}
use Rattle.paged_systems.proofs.Numbers.{same_or_other}
use Rattle.paged_systems.proofs.Places.{range_within}
use Rattle.kernel_heap.proofs.Refused.{regions_are, place_same}
use Rattle.kernel_heap.proofs.ShortenedRegions.{AreShortened, shortened_still, shortened_then}
use Rattle.kernel_heap.proofs.ReleasedState.{left_state, regions_cut, frames_left, enough_left, stands_left}

-- a chunk is found with one region more at most
pub few_regions : (heap new : Dlmalloc PagedSystem) (n : ℕ) → IsFound follows regions heap.system (heap_state heap) n
    new.system (heap_state new) → length (paged new.system).regions ≤ length (paged heap.system).regions + 1
few_regions heap new n found = elim found [
  | inl here ↦ (let same = ap (λ (p : Paged). length p.regions) here.1.others in omega arith)
  | inr there ↦ (
      let followed = there.4 in
      let before = ap (λ (p : Paged). length p.regions) followed.2.others in
      let more = ap length followed.3.granted.regions ∙ length_with (heap_region there.0.base
      (pages_in (round_up (n + 96) heap.granularity))) followed.0.regions in
      let behind = ap (λ (p : Paged). length p.regions) followed.4.others in
      omega arith)
]

-- the pages that were granted
new_are : (s : State) (n at pages : ℕ) (left : List Region) → (region : Region) → find (is_new s.heap) left ≡ Some region →
    region.start ≡ at → pages_for n s.granularity ≡ pages →
    granted_pages s (Some n) (find (is_new s.heap) left) ≡ Some (record { start = at; pages = pages })
new_are s n at pages left region found begins same = ap (granted_pages s (Some n)) found ∙ (λ i. Some (record { start = begins i; pages = same i }))

-- the state after an answer that lists the regions that are left, with new pages, has the tables of these, and their slots
state_after : (s : State) (blocks : List (Option Block)) (n at pages : ℕ) (left : List Region) (slots : List ℕ) →
    (region : Region) → find (is_new s.heap) left ≡ Some region → region.start ≡ at → pages_for n s.granularity ≡ pages →
    left_state (granted s at pages slots) left blocks ≡ with_regions (record s { blocks = blocks }) (Some left)
    (granted_pages s (Some n) (find (is_new s.heap) left)) slots
state_after s blocks n at pages left slots region found begins same =
    ap (λ (new : Option NewPages). with_regions (record s { blocks = blocks }) (Some left) new slots) (sym (new_are s n at pages left region found begins same))

-- of a machine without blocks
nothing_held : (list : List Region) (number : ℕ) (block : Block) → block_at [] number ≡ Some block → (k : ℕ) →
    k < cover block → IsTrue (list_any (is_within (block.address + k)) list)
nothing_held list number block is k less = absurd (cc)

-- A machine before a call that wants n bytes; as there was room for them; and after it, where runs of the heap may have been
-- given back since. `blocks'` are the blocks that the answer leaves.
module _ {top : ℕ} (heap middle new : Dlmalloc PagedSystem) (blocks blocks' : List (Option Live)) (laid : IsLaidOut heap blocks)
    (n : ℕ) (found : IsFound follows regions heap.system (heap_state heap) n middle.system (heap_state middle))
    (slot : Option ℕ) (short : AreShortened (paged middle.system) (paged new.system) slot)
    (part_left : (one : ℕ) → slot ≡ Some one → IsTrue (meets_any one 512 (paged new.system).regions)) (granularity : new.granularity ≡ heap.granularity)
    (stays : (grant : Grant) → 0 < grant.size → regions middle.system ≡ with_grant grant (regions heap.system) → HasByteOf grant (regions new.system))
    (s : State) (good : IsGood s) (stands : Stands (seen_of top heap blocks) s)
    (call : Call) (number address : ℕ) (after_it : List (Option Block)) (changes : changed s call (Placed number address) ≡ record s { blocks = after_it })
    (must : must_refuse s call ≡ None) (wants : wanted_by s call ≡ Some n)
    (serves : (list : Option (List Region)) (grown : List Region) → IsGrowth s n grown → AreCut grown (heap_after s list) →
    (paged new.system ≡ paged middle.system → heap_after s list ≡ grown) →
    (OnlyHeapBytesChange (paged heap.system) (paged new.system) → list ≡ None) →
    IsCallServed s call (Placed number address) list)
    (lives_same : blocks' ≡ map (option_map outline) after_it) (holds : HoldsBytes (reached (paged new.system).words (paged new.system).root) after_it)
    (good_blocks : (list : List Region) (tables : List Prefix) (large : List ℕ) →
    list ≡ heap_regions (paged new.system).regions → IsGood (record s {
      heap = list;
      tables = tables;
      large = large;
      blocks = [];
    }) →
    IsGood (record s { heap = list; tables = tables; large = large; blocks = after_it })) where
  abbrev m : Seen
  m = seen_of top heap blocks

  abbrev m' : Seen
  m' = seen_of top new blocks'

  abbrev left : List Region
  left = heap_regions (paged new.system).regions

  abbrev bare : State
  bare = record s { blocks = [] }

  -- the machine but for its granularity stands for a state: it stands for it
  granular : (after : State) → Stands (record m' { granularity = heap.granularity }) after → Stands m' after
  granular after is = subst (λ g. Stands (record m' { granularity = g }) after) (sym granularity) is

  heap_is : s.heap ≡ heap_regions (paged heap.system).regions
  heap_is = regions_are heap.system m refl s good stands

  -- ---- nothing was granted

  module _ (still : OnlyHeapBytesChange (paged heap.system) (paged middle.system)) where
    short_all : AreShortened (paged heap.system) (paged new.system) slot
    short_all = shortened_then (paged heap.system) (paged middle.system) (paged new.system) slot
        (shortened_still (paged heap.system) (paged middle.system) heap.system.kept.laid still) short

    cut : AreCut s.heap left
    cut = regions_cut m (paged new.system) s slot good stands heap.system.kept.mapped new.system.kept.mapped short_all part_left

    pages_left : pageless_frames (paged new.system) + total_pages left ≡ pageless_frames (paged heap.system) + total_pages s.heap
    pages_left = frames_left m (paged new.system) s slot good stands heap.system.kept.mapped new.system.kept.mapped short_all part_left

    abbrev s_left : State
    s_left = left_state s left after_it

    good_left : IsGood s_left
    good_left = good_blocks left s_left.tables s_left.large refl
        (good_cut bare left (good_bare s good) cut (nothing_held left) (enough_left m (paged new.system) s slot good stands
        heap.system.kept.mapped new.system.kept.mapped short_all part_left []))

    stands_now : Stands m' s_left
    stands_now = granular s_left (stands_left m (paged new.system) s slot good stands heap.system.kept.mapped
        new.system.kept.mapped short_all part_left blocks' after_it lives_same holds)

    -- nothing went back either
    step_here : pageless_frames (paged new.system) ≡ pageless_frames (paged heap.system) →
        IsStep s call (record { reply = Placed number address; regions = None; large = None }) m'
    step_here few =
        let pages = pages_left in
        let same : left ≡ s.heap = none_gone s.heap left (all_more (IsHeapRegion s) (λ region. 0 < region.pages)
        (λ region whole. whole.0.1.some) s.heap good.heap) cut (omega (arith, pages, few)) in
        let kept : s_left ≡ record s { blocks = after_it } = ap (λ (list : List Region). left_state s list after_it) same
        ∙ settled_same (record s { blocks = after_it }) good.slots in
        let state : s_left ≡ with_regions (changed s call (Placed number address)) None (new_pages s call (Placed number address) None) [] =
        kept ∙ (sym changes ∙ ap (λ (new : Option NewPages). with_regions (changed s call (Placed number address)) None new
        []) (sym (placed_none s call number address))) in
        record {
          allowed = record { reply = (must, serves None s.heap (inl refl) (none_cut s.heap) (λ e. refl) (λ e. refl)); listed = tt; large = tt };
          good = subst IsGood state good_left;
          stands = subst (Stands m') state stands_now;
        }

    -- no region is new
    none_listed : new_pages s call (Placed number address) (Some left) ≡ None
    none_listed = placed_some s call number address left ∙ (ap (λ w. granted_pages s w (find (is_new s.heap) left)) wants
        ∙ ap (granted_pages s (Some n)) (none_new_left s.heap left cut))

    step_cut : pageless_frames (paged new.system) ≢ pageless_frames (paged heap.system) →
        IsStep s call (record { reply = Placed number address; regions = Some left; large = None }) m'
    step_cut more = record {
      allowed = record {
        reply = (
          must,
          serves (Some left) s.heap (inl refl) cut
              (λ same. ap (λ (p : Paged). heap_regions p.regions) same ∙ (ap (λ (p : Paged). heap_regions p.regions) still.others ∙ sym heap_is))
              (λ kept. absurd (more (ap pageless_frames kept.others))),
        );
        listed = λ same. more (let pages = pages_left in let total = ap total_pages same in omega (arith, pages, total));
        large = tt;
      };
      good = subst IsGood state good_left;
      stands = subst (Stands m') state stands_now;
    }
      where
        -- so no table is
        state : left_state s left after_it ≡ with_regions (changed s call (Placed number address)) (Some left)
            (new_pages s call (Placed number address) (Some left)) []
        state =
            ap (λ (t : State). with_regions t (Some left) None []) (sym changes)
            ∙ ap (λ (new : Option NewPages). with_regions (changed s call (Placed number address)) (Some left) new []) (sym none_listed)

  -- ---- a region was granted

  module _ (full : IsFull (heap_state heap) (n + 256)) (mid later : Paged) (before : OnlyHeapBytesChange (paged heap.system) mid) (grant : Grant)
      (is : IsGrantedFor mid later (round_up (n + 96) heap.granularity) grant)
      (behind : OnlyHeapBytesChange later (paged middle.system)) (with_it : regions middle.system ≡ with_grant grant
      (regions heap.system)) where
    abbrev pages : ℕ
    pages = pages_in (round_up (n + 96) heap.granularity)

    abbrev at : ℕ
    at = grant.base

    abbrev m_mid : Seen
    m_mid = record { paged = mid; granularity = heap.granularity; blocks = []; top = top }

    stands_mid : Stands m_mid bare
    stands_mid = stands_moved m s mid [] [] good stands before refl (holds_none (reached mid.words mid.root))

    -- the place in the system is the one in the state
    place_old : IsPlace (paged heap.system).base (paged heap.system).pages (paged heap.system).regions pages at
    place_old = subst (λ (p : Paged). IsPlace p.base p.pages p.regions pages at) before.others is.can.place

    range : IsCanonicalRange (at / 4096) pages
    range = range_within (paged heap.system) pages at heap.system.kept.window is.can.some place_old.fit

    place : IsPlace s.base s.pages (all_regions s) pages at
    place = place_same heap.system m refl s good stands pages at place_old

    few : pages + missing s.tables at pages ≤ free_frames s
    few =
        let lacks = missing_same m_mid bare at pages stands_mid range in
        let frames = is.can.frames in
        let f = stands_mid.free_frames in
        omega arith

    -- the regions of the machine, with the granted one
    abbrev grown : List Region
    grown = with_region (heap_region at pages) s.heap

    laid_mid : AreLaid 0 mid.regions (2 ^ 64)
    laid_mid = subst (λ (p : Paged). AreLaid 0 p.regions (2 ^ 64)) (sym before.others) heap.system.kept.laid

    heap_mid : heap_regions mid.regions ≡ s.heap
    heap_mid = ap (λ p. heap_regions p.regions) before.others ∙ sym heap_is

    regions_after : heap_regions (paged middle.system).regions ≡ grown
    regions_after =
        ap (λ p. heap_regions p.regions) behind.others
        ∙ (ap heap_regions is.granted.regions ∙ (heap_joined (heap_region at pages) 0 (2 ^ 64) mid.regions laid_mid refl
        ∙ ap (with_region (heap_region at pages)) heap_mid))

    -- the slots that are mapped by one entry since
    abbrev slots : List ℕ
    slots = later.slots

    listed : later.regions ≡ all_regions (granted bare at pages slots)
    listed = is.granted.regions
        ∙ (ap (with_region (heap_region at pages)) stands_mid.regions ∙ joined_state s at pages good is.can.some (clear_of s pages at place.fit).1)

    abbrev more : State
    more = granted bare at pages slots

    good_more : IsGood more
    good_more = good_granted bare at pages slots (good_bare s good) range place.fit few is.granted.grant.slots.ascending is.granted.grant.slots.within

    stands_later : Stands (record m_mid { paged = later }) more
    stands_later = stands_granted m_mid later bare at pages stands_mid range place.fit few is.granted.grant listed

    -- and then, as there is room
    abbrev m_middle : Seen
    m_middle = record { paged = paged middle.system; granularity = heap.granularity; blocks = []; top = top }

    stands_middle : Stands m_middle more
    stands_middle = stands_moved (record m_mid { paged = later }) more (paged middle.system) [] [] good_more stands_later
        behind refl (holds_none (reached (paged middle.system).words (paged middle.system).root))

    cut_grown : AreCut grown left
    cut_grown = regions_cut m_middle (paged new.system) more slot good_more stands_middle middle.system.kept.mapped new.system.kept.mapped short part_left

    abbrev s_after : State
    s_after = left_state (granted s at pages slots) left after_it

    good_after : IsGood s_after
    good_after = good_blocks left s_after.tables s_after.large refl
        (good_cut more left good_more cut_grown (nothing_held left) (enough_left m_middle (paged new.system) more slot
        good_more stands_middle middle.system.kept.mapped new.system.kept.mapped short part_left []))

    stands_after : Stands m' s_after
    stands_after = granular s_after
        (stands_left m_middle (paged new.system) more slot good_more stands_middle middle.system.kept.mapped
        new.system.kept.mapped short part_left blocks' after_it lives_same holds)

    -- they had no table, and are told still
    slots_new : AllByRecursion (λ one. IsFalse (has_table s.tables (slot_prefix one))) slots
    slots_new = slots_bare m_mid later bare at pages heap_rights stands_mid range place.fit.aligned is.granted.grant

    pub slots_kept : (paged new.system).slots ≡ slots
    slots_kept = short.slots ∙ ap (λ (p : Paged). p.slots) behind.others

    -- the granted region is new among the old ones, and is there still
    clear : meets_any at pages s.heap ≡ false
    clear = (clear_of s pages at place.fit).0

    fresh : is_new s.heap (heap_region at pages) ≡ true
    fresh = ap not (no_start s at pages s.heap is.can.some good.heap clear)

    begins : AllByRecursion (λ region. is_new s.heap region ≡ true → region.start ≡ at) grown
    begins = all_with (λ region. is_new s.heap region ≡ true → region.start ≡ at) (heap_region at pages) s.heap (λ new. refl)
        (all_olds s.heap (all_start s.heap))
      where
        all_olds : (list : List Region) → AllStart s.heap list → AllByRecursion (λ region. is_new s.heap region ≡ true → region.start ≡ at) list
        all_olds [] all = tt
        all_olds (region ∷ rest) all = ((λ new. absurd (let old : is_new s.heap region ≡ false = ap not all.0 in cc)), all_olds rest all.1)

    byte : HasByteOf grant (regions new.system)
    byte = stays grant (let size = is.size in let some = is.can.some in omega (arith, size, some)) with_it

    within_new : AllByRecursion (λ region. is_within byte.0 region ≡ true → is_new s.heap region ≡ true) grown
    within_new = all_with (λ region. is_within byte.0 region ≡ true → is_new s.heap region ≡ true) (heap_region at pages)
        s.heap (λ inside. fresh) (none_there s.heap clear)
      where
        none_there : (list : List Region) → meets_any at pages list ≡ false →
            AllByRecursion (λ region. is_within byte.0 region ≡ true → is_new s.heap region ≡ true) list
        none_there [] clear = tt
        none_there (region ∷ rest) clear =
            let both = neither_or (meets at pages region) (meets_any at pages rest) clear in (
              (λ inside. absurd (
                  let low = byte.1 in
                  let high = byte.2 in
                  let size = is.size in
                  let out : is_within byte.0 region ≡ false = elim (beside at pages region both.0) [
                    | inl behind ↦ not_within byte.0 region (inr (omega (arith, low, behind)))
                    | inr before ↦ not_within byte.0 region (inl (omega (arith, high, size, before)))
                  ] in
                  cc)),
              none_there rest both.1,
            )

    there : list_any (is_within byte.0) left ≡ true
    there = sym (granted_same left byte.0) ∙ byte.3

    found_new : (region : Region) × (find (is_new s.heap) left ≡ Some region) × (region.start ≡ at)
    found_new = new_left s.heap grown left at byte.0 cut_grown begins within_new there

    -- more regions joined
    joined : (paged new.system).joins ≢ (paged heap.system).joins
    joined same = absurd (
        let one = short.joins in
        let two = ap (λ (p : Paged). p.joins) behind.others in
        let three = is.granted.joins in
        let four = ap (λ (p : Paged). p.joins) before.others in
        omega (arith, one, two, three, four, same))

    -- the new pages are those that were granted
    same_pages : pages_for n s.granularity ≡ pages
    unfolding pages_for
    same_pages = ap (λ g. pages_in (round_up (n + 96) g)) (sym stands.granularity)

    listed_pages : new_pages s call (Placed number address) (Some left) ≡ granted_pages s (Some n) (find (is_new s.heap) left)
    listed_pages = placed_some s call number address left ∙ ap (λ w. granted_pages s w (find (is_new s.heap) left)) wants

    pages_are : new_pages s call (Placed number address) (Some left) ≡ Some (record { start = at; pages = pages })
    pages_are = listed_pages ∙ new_are s n at pages left found_new.0 found_new.1 found_new.2 same_pages

    -- where a slot of theirs is not mapped by one entry, no run is free
    runs_granted : AreRunsUsed (paged heap.system) (paged middle.system) at pages
    runs_granted one of none small run free =
        let root : mid.root ≡ (paged heap.system).root = ap (λ (p : Paged). p.root) before.others in
        let root_behind : (paged middle.system).root ≡ later.root = ap (λ (p : Paged). p.root) behind.others in
        is.granted.runs one of
        (ap (λ (r : ℕ). reach mid.words r 3 (slot_number one)) root ∙ (before.walks 3 (slot_number one) (omega arith) ∙ none))
        (sym (behind.larges (slot_number one)) ∙ (ap (λ (r : ℕ). large_of (paged middle.system).words r (slot_number one)) (sym root_behind) ∙ small))
        run
        (subst (λ frames. IsRunFree frames run) (ap (λ (p : Paged). p.free) behind.others) free)

    step_granted : IsStep s call (record { reply = Placed number address; regions = Some left; large = listed_slots slots }) m'
    step_granted =
        let same = same_pages in
        let state : s_after ≡ with_regions (changed s call (Placed number address)) (Some left)
        (new_pages s call (Placed number address) (Some left)) (slots_of (listed_slots slots)) =
        state_after s after_it n at pages left slots found_new.0 found_new.1 found_new.2 same
        ∙ (ap (λ (t : State). with_regions t (Some left) (granted_pages s (Some n) (find (is_new s.heap) left)) slots) (sym changes)
        ∙ (ap (λ (new : Option NewPages). with_regions (changed s call (Placed number address)) (Some left) new slots) (sym listed_pages)
        ∙ ap (with_regions (changed s call (Placed number address)) (Some left)
        (new_pages s call (Placed number address) (Some left))) (sym (slots_listed slots)))) in
        record {
          allowed = record {
            reply = (
              must,
              serves (Some left) grown
                  (inr (record {
                    full = no_room heap blocks laid s good stands n full;
                    address = at;
                    place = subst (λ k. IsPlace s.base s.pages (all_regions s) k at) (sym same) place;
                    frames = subst (λ k. k + missing s.tables at k ≤ free_frames s) (sym same) few;
                    joined = subst (λ k. grown ≡ with_region (heap_region at k) s.heap) (sym same) refl;
                  }))
                  cut_grown
                  (λ kept. ap (λ (p : Paged). heap_regions p.regions) kept ∙ regions_after)
                  (λ kept. absurd (joined (ap (λ (p : Paged). p.joins) kept.others))),
            );
            listed = λ same'. absurd (
                let found = found_new.1 in
                let none : find (is_new s.heap) s.heap ≡ None = find_none (is_new s.heap) s.heap (none_new s.heap s.heap (all_start s.heap)) in
                let there : find (is_new s.heap) s.heap ≡ Some found_new.0 = ap (find (is_new s.heap)) (sym same') ∙ found in
                cc);
            large = allowed_slots s call (Placed number address) (Some left) (record { start = at; pages = pages }) slots
                pages_are is.granted.grant.slots.ascending is.granted.grant.slots.within slots_new;
          };
          good = subst IsGood state good_after;
          stands = subst (Stands m') state stands_after;
        }

  -- what an answer with these lists is, and what is said of its new pages
  abbrev IsFoundStep : Option (List Region) × Option (List ℕ) → Type 0
  IsFoundStep lists = IsStep s call (record { reply = Placed number address; regions = lists.0; large = lists.1 }) m'
      × AreRunsUsedFor (paged heap.system) (paged middle.system) (new_pages s call (Placed number address) lists.0)

  -- The whole step, where the regions are listed if one joined, or other frames have no page than before; and the slots of the one that joined.
  pub step_found : (answered : Option (List Region)) (large : Option (List ℕ)) →
      AreRegionsTold (paged new.system) (marks_of (paged heap.system)) answered → AreSlotsTold heap new large → IsFoundStep (answered, large)
  step_found answered large regions_are slots = elim found [
    | inl here ↦ (
        let joins : (paged new.system).joins ≡ (paged heap.system).joins = short.joins ∙ ap (λ (p : Paged). p.joins) here.1.others in
        elim (same_or_other (pageless_frames (paged new.system)) (pageless_frames (paged heap.system))) [
          | inl few ↦ subst IsFoundStep (λ i. (sym (regions_are.none joins few) i, sym (slots.none joins) i))
              (step_here here.1 few, subst (AreRunsUsedFor (paged heap.system) (paged middle.system)) (sym (placed_none s call number address)) tt)
          | inr more ↦ subst IsFoundStep (λ i. (sym (regions_are.changed (λ j few. more few)) i, sym (slots.none joins) i))
              (step_cut here.1 more, subst (AreRunsUsedFor (paged heap.system) (paged middle.system)) (sym (none_listed here.1)) tt)
        ])
    | inr there ↦ (let followed = there.4 in
        let differ = joined there.2 followed.0 followed.1 followed.2 there.0 followed.3 followed.4 there.5 in
        let slots_are = slots.joined differ ∙ ap listed_slots (slots_kept there.2 followed.0 followed.1 followed.2 there.0 followed.3 followed.4 there.5) in
        subst IsFoundStep (λ i. (sym (regions_are.changed (λ j few. differ j)) i, sym slots_are i)) (
          step_granted there.2 followed.0 followed.1 followed.2 there.0 followed.3 followed.4 there.5,
          subst (AreRunsUsedFor (paged heap.system) (paged middle.system))
              (sym (pages_are there.2 followed.0 followed.1 followed.2 there.0 followed.3 followed.4 there.5))
              (runs_granted there.2 followed.0 followed.1 followed.2 there.0 followed.3 followed.4 there.5),
        ))
  ]

-- Regions of the user are mapped and unmapped: the answer is allowed, and the machine stands for the state after it.
use Rattle.std.proofs.Common.{◌≡◌, ◌≢◌, ℕ, ◌+◌, ◌/◌, ◌<◌, ◌≤◌, ◌||◌, nat_lt, List, [], ◌∷◌, refl, sym, ap, ◌∙◌, arith, Bool, true, false, Some, None}
use Rattle.std.specs.List.{list_any, AllByRecursion}
use Rattle.std.proofs.lemmas.Bool.Decides.{nat_tests}
use Rattle.paging_core.specs.Walk.{reached}
use Rattle.paging_core.specs.declared.page_table.Rights.{Rights}
use Rattle.machine_model.specs.declared.region.Region.{Region}
use Rattle.machine_model.specs.declared.call.Call.TheVariants.{Map, Unmap}
use Rattle.machine_model.specs.declared.answer.Refusal.{Refusal}
use Rattle.machine_model.specs.declared.answer.Reply.TheVariants.{Done}
use Rattle.machine_model.specs.State.{State, end_of_region}
use Rattle.machine_model.specs.Tables.{missing, free_frames}
use Rattle.machine_model.specs.Place.{meets, meets_any, is_at, without_region, with_region, all_regions}
use Rattle.machine_model.specs.Room.{user_region}
use Rattle.machine_model.specs.Refusal.{is_page_range, must_refuse}
use Rattle.machine_model.specs.Run.{IsGood, IsHeapRegion, IsUserRegion, AreRegionsInOrder}
use Rattle.machine_model.specs.Slots.{listed_slots}
use Rattle.machine_model.specs.Machine.{Paged, Seen, Stands, IsStep}
use Rattle.machine_model.proofs.Booleans.{or_neither, neither_or}
use Rattle.machine_model.proofs.Regions.{any_all}
use Rattle.machine_model.proofs.Added.{missing_same}
use Rattle.machine_model.proofs.NewSlots.{slots_bare}
use Rattle.machine_model.proofs.Mapped.{range_whole, whole_range, user_beside, with_user, without_user, stands_mapped, stands_unmapped, step_mapped, step_unmapped}
use Rattle.mapped_regions.proofs.AllRegions.{Sorted, joined_users, left_users, heap_met, user_listed}
use Rattle.mapped_regions.specs.declared.map_fault.MapFault.{MapFault}
use Rattle.mapped_regions.specs.declared.map_fault.MapFault.TheVariants as Mapping
use Rattle.mapped_regions.specs.declared.map_fault.UnmapFault.{UnmapFault}
use Rattle.mapped_regions.specs.declared.map_fault.UnmapFault.TheVariants as Unmapping
use Rattle.mapped_regions.specs.Mapped.{IsPageRange, HasFrames, CanMap, IsRegionJoined, IsLeft}
use Rattle.mapped_regions.specs.UserRegions.{meets_any_heap, has_user_region, IsMapRefused, IsUnmapRefused, CanUnmap}
use Rattle.paged_systems.specs.System.{paged}
use Rattle.kernel_heap.specs.Refusing.{map_refusal, unmap_refusal}
use Rattle.kernel_heap.proofs.Refused.{refused_with, step_refused}

-- ---- regions of a good state

pub all_of_heap : (s : State) (list : List Region) → AllByRecursion (IsHeapRegion s) list → AllByRecursion (λ region. region.heap ≡ true) list
all_of_heap s [] all = tt
all_of_heap s (region ∷ rest) all = (ap (λ (r : Region). r.heap) all.0.3, all_of_heap s rest all.1)

pub all_of_users : (heap list : List Region) → AllByRecursion (IsUserRegion heap) list → AllByRecursion (λ region. region.heap ≡ false) list
all_of_users heap [] all = tt
all_of_users heap (region ∷ rest) all = (all.0.0, all_of_users heap rest all.1)

-- user regions that pages do not meet start elsewhere
start_elsewhere : (start pages : ℕ) (heap list : List Region) → 0 < pages → AllByRecursion (IsUserRegion heap) list → meets_any start pages list ≡ false →
    AllByRecursion (λ user. user.start ≢ start) list
start_elsewhere start pages heap [] some all clear = tt
start_elsewhere start pages heap (region ∷ rest) some all clear =
    let parts : (meets start pages region ≡ false) × (meets_any start pages rest ≡ false) =
    neither_or (meets start pages region) (meets_any start pages rest) clear in
    (apart region some all.0.1.1.some parts.0, start_elsewhere start pages heap rest some all.1 parts.1)
  where
    apart : (region : Region) → 0 < pages → 0 < region.pages → meets start pages region ≡ false → region.start ≢ start
    apart region some more clear same = absurd (let yes : meets start pages region ≡ true = grind (arith, nat_tests) in cc)

-- none of the regions that pages do not meet has just them
none_just : (start pages : ℕ) (list : List Region) → 0 < pages → meets_any start pages list ≡ false → list_any (is_at start pages) list ≡ false
none_just start pages [] some clear = refl
none_just start pages (region ∷ rest) some clear =
    let parts : (meets start pages region ≡ false) × (meets_any start pages rest ≡ false) =
    neither_or (meets start pages region) (meets_any start pages rest) clear in
    or_neither (is_at start pages region) (list_any (is_at start pages) rest) (other region some parts.0) (none_just start pages rest some parts.1)
  where
    other : (region : Region) → 0 < pages → meets start pages region ≡ false → is_at start pages region ≡ false
    other region some clear = grind (arith, nat_tests)

pub sorted : (list : List Region) → AreRegionsInOrder list → Sorted list
sorted [] order = tt
sorted (region ∷ rest) order = (starts region.start (end_of_region region) rest (omega arith) order.0, sorted rest order.1)
  where
    starts : (low high : ℕ) (list : List Region) → low ≤ high → AllByRecursion (λ later. high ≤ later.start) list →
        AllByRecursion (λ later. low ≤ later.start) list
    starts low high [] less all = tt
    starts low high (later ∷ more) less all = (omega (arith, all.0), starts low high more less all.1)

module _ (m : Seen) (s : State) (start pages : ℕ) (good : IsGood s) (stands : Stands m s) where
  -- what the machine sees of its regions holds of the state's
  heap_same : meets_any_heap m.paged start pages ≡ meets_any start pages s.heap
  heap_same = ap (λ list. meets_any_heap (record m.paged { regions = list }) start pages) stands.regions
      ∙ heap_met s start pages (all_of_heap s s.heap good.heap) (all_of_users s.heap s.users good.users)

  any_same : meets_any start pages m.paged.regions ≡ (meets_any start pages s.heap || meets_any start pages s.users)
  any_same = ap (meets_any start pages) stands.regions ∙ any_all (meets start pages) s.heap s.users

  listed_same : has_user_region m.paged start pages ≡ list_any (is_at start pages) s.users
  listed_same = ap (λ list. has_user_region (record m.paged { regions = list }) start pages) stands.regions
      ∙ user_listed s start pages (all_of_heap s s.heap good.heap) (all_of_users s.heap s.users good.users)

  clear : meets_any start pages m.paged.regions ≡ false → (meets_any start pages s.heap ≡ false) × (meets_any start pages s.users ≡ false)
  clear none = neither_or (meets_any start pages s.heap) (meets_any start pages s.users) (sym any_same ∙ none)

  no_range : (IsPageRange start pages → ⊥) → is_page_range start pages ≡ false
  no_range bad = go (is_page_range start pages) refl
    where
      go : (b : Bool) → is_page_range start pages ≡ b → is_page_range start pages ≡ false
      go true is = absurd (bad (range_whole start pages is))
      go false is = is

  frames_same : IsPageRange start pages → pages + missing s.tables start pages ≤ free_frames s → HasFrames m.paged (start / 4096) pages
  frames_same range few = let lacks = missing_same m s start pages stands range.1 in let free = stands.free_frames in omega arith

  -- ---- the refusals

  pub map_refused : (rights : Rights) (fault : MapFault) (refusal : Refusal) → map_refusal fault ≡ Some refusal →
      IsMapRefused m.paged start pages fault → must_refuse s (Map start pages rights) ≡ Some refusal
  map_refused rights Mapping.BadRange refusal is why = (let bad = no_range why in rw bad is)
  map_refused rights Mapping.HeapRegion refusal is why =
      let range : is_page_range start pages ≡ true = whole_range start pages why.0.0 why.0.1 in
      let met : meets_any start pages s.heap ≡ true = sym heap_same ∙ why.1 in
      rw (range, met) is
  map_refused rights Mapping.Overlap refusal is why =
      let range : is_page_range start pages ≡ true = whole_range start pages why.0.0 why.0.1 in
      let heap : meets_any start pages s.heap ≡ false = sym heap_same ∙ why.1 in
      let users : meets_any start pages s.users ≡ true = ap (λ b. b || meets_any start pages s.users) (sym heap) ∙ (sym any_same ∙ why.2) in
      rw (range, heap, users) is
  map_refused rights Mapping.NoFrames refusal is why = go (nat_lt (free_frames s) (pages + missing s.tables start pages)) refl
    where
      go : (b : Bool) → nat_lt (free_frames s) (pages + missing s.tables start pages) ≡ b → must_refuse s (Map start pages rights) ≡ Some refusal
      go true few =
          let range : is_page_range start pages ≡ true = whole_range start pages why.0.0 why.0.1 in
          let both = clear why.1 in
          rw (range, both.0, both.1, few) is
      go false enough = absurd (why.2 (frames_same why.0 (grind (arith, nat_tests))))
  map_refused rights Mapping.OutOfMemory refusal is why = absurd (cc)

  pub unmap_refused : (fault : UnmapFault) → IsUnmapRefused m.paged start pages fault → must_refuse s (Unmap start pages) ≡ Some (unmap_refusal fault)
  unmap_refused Unmapping.BadRange why = (let bad = no_range why in rw bad refl)
  unmap_refused Unmapping.HeapRegion why =
      let range : is_page_range start pages ≡ true = whole_range start pages why.0.0 why.0.1 in
      let met : meets_any start pages s.heap ≡ true = sym heap_same ∙ why.1 in
      rw (range, met) refl
  unmap_refused Unmapping.UnknownRegion why =
      let range : is_page_range start pages ≡ true = whole_range start pages why.0.0 why.0.1 in
      let heap : meets_any start pages s.heap ≡ false = sym heap_same ∙ why.1 in
      let none : list_any (is_at start pages) s.users ≡ false = sym listed_same ∙ why.2 in
      rw (range, heap, none) refl

  -- ---- the steps

  pub step_map : (rights : Rights) (new : Paged) → CanMap m.paged start pages → IsRegionJoined m.paged new (user_region start pages rights) →
      IsStep s (Map start pages rights) (record { reply = Done; regions = None; large = listed_slots new.slots }) (record m { paged = new })
  step_map rights new can joined =
      let both = clear can.clear in
      let lacks = missing_same m s start pages stands can.range.1 in
      let free = stands.free_frames in
      let frames = can.frames in
      let few : pages + missing s.tables start pages ≤ free_frames s = omega arith in
      let regions : new.regions ≡ all_regions (with_user s start pages rights new.slots) =
      joined.regions ∙ (ap (with_region (user_region start pages rights)) stands.regions
      ∙ sym (joined_users (user_region start pages rights) s.heap s.users (start_elsewhere start pages s.heap s.users can.range.1.some good.users both.1))) in
      step_mapped m new s start pages rights new.slots good can.range.0 can.range.1 both.0 both.1 few joined.added.slots.ascending joined.added.slots.within
      (slots_bare m new s start pages rights stands can.range.1 can.range.0 joined.added)
      (stands_mapped m new s start pages rights stands can.range.0 can.range.1 both.0 both.1 few joined.added regions
      (λ at inside. ap (λ r. reached new.words r at) joined.added.root ∙ joined.zeros at inside))

  pub step_unmap : (new : Paged) → CanUnmap m.paged start pages → IsLeft m.paged new start pages →
      IsStep s (Unmap start pages) (record { reply = Done; regions = None; large = None }) (record m { paged = new })
  step_unmap new can left =
      let there : list_any (is_at start pages) s.users ≡ true = sym listed_same ∙ can.there in
      let beside : meets_any start pages s.heap ≡ false = (user_beside s start pages good there).1 in
      let regions : new.regions ≡ all_regions (without_user s start pages) =
      left.regions ∙ (ap (without_region start pages) stands.regions
      ∙ sym (left_users start pages s.heap s.users can.range.1.some (sorted s.heap good.heap_order)
      (none_just start pages s.heap can.range.1.some beside) good.user_order)) in
      step_unmapped m new s start pages good there (stands_unmapped m new s start pages good stands there left.gone left.whole regions)

  -- pages are not mapped, or not unmapped
  pub map_denied : (rights : Rights) (fault : MapFault) → IsMapRefused m.paged start pages fault → (refusal : Refusal) →
      map_refusal fault ≡ Some refusal → IsStep s (Map start pages rights) (refused_with refusal) m
  map_denied rights fault why refusal is = step_refused m s (Map start pages rights) refusal (map_refused rights fault refusal is why) good stands

  pub unmap_denied : (fault : UnmapFault) → IsUnmapRefused m.paged start pages fault → IsStep s (Unmap start pages) (refused_with (unmap_refusal fault)) m
  unmap_denied fault why = step_refused m s (Unmap start pages) (unmap_refusal fault) (unmap_refused fault why) good stands

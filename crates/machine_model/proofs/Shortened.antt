-- Regions of the heap are cut: the state stays good, and each address is in a region of the kind that it was, or in none.
use Rattle.std.proofs.Common.{◌≡◌, ℕ, ◌+◌, ◌/◌, ◌<◌, ◌≤◌, ◌≢◌, inl, inr, not, ◌==◌, List, [], ◌∷◌, length, find, refl, sym, ap, ◌∙◌, subst, arith, Bool, true, false, IsTrue, Option, Some, None}
use Rattle.std.specs.List.{list_any, AllByRecursion}
use Rattle.std.proofs.ByRecursion.{kept_by_passes}
use Rattle.std.proofs.lemmas.Bool.Decides.{nat_tests}
use Rattle.paging_core.specs.Address.{IsCanonicalRange}
use Rattle.machine_model.specs.declared.region.Region.{Region}
use Rattle.machine_model.specs.State.{State, Block, block_at, cover, end_of_region, is_within, total_pages}
use Rattle.machine_model.specs.Place.{meets, meets_any, all_regions}
use Rattle.machine_model.specs.Cut.{IsFrontOf, AreCut}
use Rattle.machine_model.specs.Room.{AreBytesApart}
use Rattle.machine_model.specs.Slots.{IsSlot, is_whole_in}
use Rattle.machine_model.specs.Tables.{used_frames}
use Rattle.machine_model.specs.Answer.{is_new, settled}
use Rattle.machine_model.specs.Run.{IsGood, IsGoodBlock, IsHeapRegion, IsUserRegion, AreRegionsInOrder}
use Rattle.machine_model.proofs.Booleans.{neither_or, or_neither, or_cases}
use Rattle.machine_model.proofs.Regions.{find_none}
use Rattle.machine_model.proofs.Slots.{slots_fewer, distinct_filter}
use Rattle.machine_model.proofs.Granted.{AllStart, all_start}

-- ---- a front of a region

pub front_start : (region front : Region) → IsFrontOf region front → front.start ≡ region.start
front_start region front (inl same) = ap (λ (r : Region). r.start) same
front_start region front (inr less) = ap (λ (r : Region). r.start) less.2

pub front_pages : (region front : Region) → IsFrontOf region front → front.pages ≤ region.pages
front_pages region front (inl same) = let pages = ap (λ (r : Region). r.pages) same in omega (arith, pages)
front_pages region front (inr less) = omega (arith, less.1)

-- ---- lists

pub pages_cut : (old new : List Region) → AreCut old new → total_pages new ≤ total_pages old
pages_cut [] new is = let none = ap total_pages is in omega (arith, none)
pages_cut (region ∷ rest) new (inl dropped) = let later = pages_cut rest new dropped in omega (arith, later)
pages_cut (region ∷ rest) new (inr kept) =
    let same = ap total_pages kept.3 in
    let front = front_pages region kept.0 kept.2 in
    let later = pages_cut rest kept.1 kept.4 in
    omega (arith, same, front, later)

pub length_cut : (old new : List Region) → AreCut old new → length new ≤ length old
length_cut [] new is = let none = ap length is in omega (arith, none)
length_cut (region ∷ rest) new (inl dropped) = let later = length_cut rest new dropped in omega (arith, later)
length_cut (region ∷ rest) new (inr kept) =
    let same = ap length kept.3 in
    let later = length_cut rest kept.1 kept.4 in
    omega (arith, same, later)

-- if no page went, all are as they were
pub none_gone : (old new : List Region) → AllByRecursion (λ region. 0 < region.pages) old → AreCut old new → total_pages old ≤ total_pages new → new ≡ old
none_gone [] new all is many = is
none_gone (region ∷ rest) new all (inl dropped) many = absurd (let later = pages_cut rest new dropped in let some = all.0 in omega (arith, later, some, many))
none_gone (region ∷ rest) new all (inr kept) many =
    let same = ap total_pages kept.3 in
    let front = front_pages region kept.0 kept.2 in
    let later = pages_cut rest kept.1 kept.4 in
    kept.3 ∙ (λ i. whole kept.2 (omega (arith, same, front, later, many)) i ∷ none_gone rest kept.1 all.1 kept.4 (omega (arith, same, front, later, many)) i)
  where
    whole : IsFrontOf region kept.0 → region.pages ≤ kept.0.pages → kept.0 ≡ region
    whole (inl is) long = is
    whole (inr less) long = absurd (let few = less.1 in omega (arith, few, long))

-- what holds of each region, and so of each front of it, holds of all
pub all_cut : (Was Is : Region → Type 0) → ((region front : Region) → IsFrontOf region front → Was region → Is front) →
    (old new : List Region) → AreCut old new → AllByRecursion Was old → AllByRecursion Is new
all_cut Was Is each [] new is all = subst (AllByRecursion Is) (sym is) tt
all_cut Was Is each (region ∷ rest) new (inl dropped) all = all_cut Was Is each rest new dropped all.1
all_cut Was Is each (region ∷ rest) new (inr kept) all = subst (AllByRecursion Is) (sym kept.3)
    (each region kept.0 kept.2 all.0, all_cut Was Is each rest kept.1 kept.4 all.1)

pub order_cut : (old new : List Region) → AreCut old new → AreRegionsInOrder old → AreRegionsInOrder new
order_cut [] new is order = subst AreRegionsInOrder (sym is) tt
order_cut (region ∷ rest) new (inl dropped) order = order_cut rest new dropped order.1
order_cut (region ∷ rest) new (inr kept) order = subst AreRegionsInOrder (sym kept.3) (
  all_cut (λ later. end_of_region region ≤ later.start) (λ later. end_of_region kept.0 ≤ later.start)
      (λ later front is behind. (let start = front_start region kept.0 kept.2 in let pages =
      front_pages region kept.0 kept.2 in let from = front_start later front is in
      omega (arith, start, pages, from, behind)))
      rest kept.1 kept.4 order.0,
  order_cut rest kept.1 kept.4 order.1,
)

-- pages that met none meet none
pub clear_cut : (start pages : ℕ) (old new : List Region) → AreCut old new → meets_any start pages old ≡ false → meets_any start pages new ≡ false
clear_cut start pages [] new is clear = ap (meets_any start pages) is
clear_cut start pages (region ∷ rest) new (inl dropped) clear = clear_cut start pages rest new dropped
    (neither_or (meets start pages region) (meets_any start pages rest) clear).1
clear_cut start pages (region ∷ rest) new (inr kept) clear =
    let both = neither_or (meets start pages region) (meets_any start pages rest) clear in
    ap (meets_any start pages) kept.3
    ∙ or_neither (meets start pages kept.0) (meets_any start pages kept.1)
    (beside kept.0 (front_start region kept.0 kept.2) (front_pages region kept.0 kept.2) both.0)
    (clear_cut start pages rest kept.1 kept.4 both.1)
  where
    beside : (front : Region) → front.start ≡ region.start → front.pages ≤ region.pages → meets start pages region ≡ false → meets start pages front ≡ false
    beside front from few apart = grind (arith, nat_tests)

-- ---- the state

range_front : (first pages fewer : ℕ) → 0 < fewer → fewer < pages → IsCanonicalRange first pages → IsCanonicalRange first fewer
range_front first pages fewer some less range = record {
  some = some;
  canonical = range.canonical;
  one_half =
      (let half = range.one_half in omega (arith, some, less, half));
}

heap_front : (s : State) (region front : Region) → IsFrontOf region front → IsHeapRegion s region → IsHeapRegion s front
heap_front s region front (inl same) is = subst (IsHeapRegion s) (sym same) is
heap_front s region front (inr less) is = subst (IsHeapRegion s) (sym less.2) (
  (is.0.0, range_front (region.start / 4096) region.pages front.pages less.0 less.1 is.0.1),
  is.1,
  (let few = less.1 in let within = is.2 in omega (arith, few, within)),
  ap (λ (r : Region). record r { pages = front.pages }) is.3,
)

-- a block that was good is good among regions that have its bytes
pub good_there : (old new : List Region) (block : Block) → IsGoodBlock old block →
    ((k : ℕ) → k < cover block → IsTrue (list_any (is_within (block.address + k)) new)) → IsGoodBlock new block
good_there old new block was held = record { aligned = was.aligned; aligned_16 = was.aligned_16; cells = was.cells; granted = held }

-- The state is good with blocks that are good among its regions, and apart from one another.
pub good_over : (s : State) (blocks : List (Option Block)) → IsGood (record s { blocks = [] }) →
    ((i : ℕ) (it : Block) → block_at blocks i ≡ Some it → IsGoodBlock s.heap it) →
    ((i j : ℕ) (a b : Block) → block_at blocks i ≡ Some a → block_at blocks j ≡ Some b → i ≢ j →
    AreBytesApart a.address (cover a) b.address (cover b)) → IsGood (record s { blocks = blocks })
good_over s blocks bare each apart = record {
  each = each;
  apart = apart;
  heap_order = bare.heap_order;
  user_order =
      bare.user_order;
  heap = bare.heap;
  users = bare.users;
  frames = bare.frames;
  slots = bare.slots;
  are_slots =
      bare.are_slots;
  no_slot_twice = bare.no_slot_twice;
}

-- The state is good with regions that are cut, if they have the bytes of each block and the frames suffice.
pub good_cut : (s : State) (list : List Region) → IsGood s → AreCut s.heap list →
    ((number : ℕ) (block : Block) → block_at s.blocks number ≡ Some block → (k : ℕ) → k < cover block →
    IsTrue (list_any (is_within (block.address + k)) list)) →
    used_frames (settled (record s { heap = list })) ≤ s.frames → IsGood (settled (record s { heap = list }))
good_cut s list good cut held enough = record {
  each = λ number block is. good_there s.heap list block (good.each number block is) (held number block is);
  apart = good.apart;
  heap_order = order_cut s.heap list cut good.heap_order;
  user_order = good.user_order;
  heap = all_cut (IsHeapRegion s) (IsHeapRegion s) (heap_front s) s.heap list cut good.heap;
  users = beside s.users good.users;
  frames = enough;
  slots = kept_by_passes (is_whole_in (all_regions (record s { heap = list }))) s.large;
  are_slots = slots_fewer IsSlot (is_whole_in (all_regions (record s { heap = list }))) s.large good.are_slots;
  no_slot_twice = distinct_filter (is_whole_in (all_regions (record s { heap = list }))) s.large good.no_slot_twice;
}
  where
    beside : (users : List Region) → AllByRecursion (IsUserRegion s.heap) users → AllByRecursion (IsUserRegion list) users
    beside [] all = tt
    beside (user ∷ users) all = ((all.0.0, all.0.1, clear_cut user.start user.pages s.heap list cut all.0.2), beside users all.1)

-- ---- none of those that are cut is new

none_of : (test : Region → Bool) (list : List Region) → AllByRecursion (λ region. test region ≡ false) list → list_any test list ≡ false
none_of test [] all = refl
none_of test (region ∷ rest) all = or_neither (test region) (list_any test rest) all.0 (none_of test rest all.1)

pub none_new_left : (old left : List Region) → AreCut old left → find (is_new old) left ≡ None
none_new_left old left cut = find_none (is_new old) left (none_of (is_new old) left
    (all_cut (λ region. is_new old region ≡ false) (λ region. is_new old region ≡ false)
    (λ region front is was. ap (λ (start : ℕ). not (list_any (λ one. one.start == start) old)) (front_start region front is)
    ∙ was) old left cut (olds old (all_start old))))
  where
    olds : (list : List Region) → AllStart old list → AllByRecursion (λ region. is_new old region ≡ false) list
    olds [] all = tt
    olds (region ∷ rest) all = (ap not all.0, olds rest all.1)

-- ---- the region that was granted, among those that are cut

-- Of regions that grew by one, which begins at `at`, some were cut, and a byte of that one is in a region still: that is the new one.
module _ (heap grown left : List Region) (at byte : ℕ) (cut : AreCut grown left)
    (begin : AllByRecursion (λ region. is_new heap region ≡ true → region.start ≡ at) grown)
    (new : AllByRecursion (λ region. is_within byte region ≡ true → is_new heap region ≡ true) grown) (there : list_any (is_within byte) left ≡ true) where
  same_new : (region front : Region) → IsFrontOf region front → is_new heap front ≡ is_new heap region
  same_new region front is = ap (λ (start : ℕ). not (list_any (λ old. old.start == start) heap)) (front_start region front is)

  in_region : (region front : Region) → IsFrontOf region front → is_within byte front ≡ true → is_within byte region ≡ true
  in_region region front is inside = inner (front_start region front is) (front_pages region front is)
    where
      inner : front.start ≡ region.start → front.pages ≤ region.pages → is_within byte region ≡ true
      inner from few = grind (arith, nat_tests)

  search : (list : List Region) → AllByRecursion (λ region. is_new heap region ≡ true → region.start ≡ at) list →
      AllByRecursion (λ region. is_within byte region ≡ true → is_new heap region ≡ true) list →
      list_any (is_within byte) list ≡ true → (region : Region) × (find (is_new heap) list ≡ Some region) × (region.start ≡ at)
  search [] begins news any = absurd (let no : false ≡ true = any in cc)
  search (first ∷ rest) begins news any = go (is_new heap first) refl (search rest begins.1 news.1)
    where
      go : (b : Bool) → is_new heap first ≡ b → (list_any (is_within byte) rest ≡ true →
          (region : Region) × (find (is_new heap) rest ≡ Some region) × (region.start ≡ at)) →
          (region : Region) × (find (is_new heap) (first ∷ rest) ≡ Some region) × (region.start ≡ at)
      go true is later = (first, rw is refl, begins.0 is)
      go false is later = elim (or_cases (is_within byte first) (list_any (is_within byte) rest) any) [
        | inl here ↦ absurd (let yes = news.0 here in cc)
        | inr behind ↦ (let found = later behind in (found.0, rw is found.1, found.2))
      ]

  pub new_left : (region : Region) × (find (is_new heap) left ≡ Some region) × (region.start ≡ at)
  new_left = search left
      (all_cut (λ region. is_new heap region ≡ true → region.start ≡ at) (λ region. is_new heap region ≡ true → region.start ≡ at)
      (λ region front is was fresh. front_start region front is ∙ was (sym (same_new region front is) ∙ fresh)) grown left cut begin)
      (all_cut (λ region. is_within byte region ≡ true → is_new heap region ≡ true) (λ region. is_within byte region ≡ true → is_new heap region ≡ true)
      (λ region front is was inside. same_new region front is ∙ was (in_region region front is inside)) grown left cut new) there

-- A region is granted anywhere in the window: the state after it is good, and the machine stands for it.
use Rattle.std.proofs.Common.{◌≡◌, ℕ, ◌+◌, ◌*◌, ◌/◌, ◌<◌, ◌≤◌, ◌⊎◌, not, nat_eq, List, [], ◌∷◌, ◌++◌, find, refl, sym, ap, ◌∙◌, arith, true, false, Some}
use Rattle.std.specs.List.{list_any, AllByRecursion}
use Rattle.std.proofs.lemmas.Bool.Decides.{nat_tests}
use Rattle.paging_core.specs.Address.{IsCanonicalRange}
use Rattle.paging_core.specs.PageBits.{bits_of}
use Rattle.machine_model.specs.declared.region.Region.{Region}
use Rattle.machine_model.specs.State.{State, is_within, total_pages, region_at}
use Rattle.machine_model.specs.Tables.{missing, with_tables, used_frames, free_frames}
use Rattle.machine_model.specs.Slots.{AreAscending, IsSlotOf}
use Rattle.machine_model.specs.Place.{meets, meets_any, with_region, all_regions, IsFit}
use Rattle.machine_model.specs.Room.{heap_rights, heap_region}
use Rattle.machine_model.specs.Answer.{is_new}
use Rattle.machine_model.specs.Run.{IsGood, IsGoodBlock, IsHeapRegion, IsUserRegion}
use Rattle.machine_model.specs.Machine.{Paged, IsPagedGrant, Seen, Stands}
use Rattle.machine_model.proofs.Booleans.{or_left, or_right, or_neither, neither_or}
use Rattle.machine_model.proofs.Regions.{within, not_within, all_with, pages_with, any_with, any_all, find_without, find_alone, find_only, in_order_with, none_within}
use Rattle.machine_model.proofs.Slots.{any_heap_more, slots_more, slots_join, slots_whole, whole_still}
use Rattle.machine_model.proofs.Tables.{length-with_tables}
use Rattle.machine_model.proofs.Added.{region_bits, stays, stands_added}

-- the state with one region more of the heap, of which these slots are mapped by one entry each
abbrev pub granted : State → ℕ → ℕ → List ℕ → State
granted s address pages slots = record s {
  heap = with_region (heap_region address pages) s.heap;
  tables =
      with_tables s.tables address pages slots;
  large = s.large ++ slots;
}

-- ---- the state is good

-- pages that meet no region meet none of the heap, and none of the user
pub clear_of : (s : State) (pages address : ℕ) → IsFit s.base s.pages (all_regions s) pages address →
    (meets_any address pages s.heap ≡ false) × (meets_any address pages s.users ≡ false)
clear_of s pages address fit = neither_or (meets_any address pages s.heap) (meets_any address pages s.users)
    (sym (any_all (meets address pages) s.heap s.users) ∙ fit.clear)

-- meeting goes both ways
meets_back : (address pages : ℕ) (region : Region) → meets address pages region ≡ false → meets region.start region.pages (heap_region address pages) ≡ false
meets_back address pages region is = grind (arith, nat_tests)

-- user regions meet a longer heap no more than the old one and the new region
users_beside : (address pages : ℕ) (heap users : List Region) → meets_any address pages users ≡ false → AllByRecursion (IsUserRegion heap) users →
    AllByRecursion (IsUserRegion (with_region (heap_region address pages) heap)) users
users_beside address pages heap [] clear all = tt
users_beside address pages heap (first ∷ rest) clear all =
    let parts : (meets address pages first ≡ false) × (meets_any address pages rest ≡ false) =
    neither_or (meets address pages first) (meets_any address pages rest) clear in
    let joined : meets_any first.start first.pages (with_region (heap_region address pages) heap) ≡ false =
    any_with (meets first.start first.pages) (heap_region address pages) heap
    ∙ or_neither (meets first.start first.pages (heap_region address pages)) (meets_any first.start first.pages heap)
    (meets_back address pages first parts.0) all.0.2 in
    ((all.0.0, all.0.1, joined), users_beside address pages heap rest parts.1 all.1)

pub good_granted : (s : State) (address pages : ℕ) (slots : List ℕ) → IsGood s → IsCanonicalRange (address / 4096) pages →
    IsFit s.base s.pages (all_regions s) pages address →
    pages + missing s.tables address pages ≤ free_frames s → AreAscending slots →
    AllByRecursion (IsSlotOf address pages) slots → IsGood (granted s address pages slots)
good_granted s address pages slots good range fit few ascending within =
    let clear = clear_of s pages address fit in
    let total : total_pages (with_region (heap_region address pages) s.heap) ≡ pages + total_pages s.heap = pages_with (heap_region address pages) s.heap in
    let tables = length-with_tables s.tables address pages slots in
    let some : 0 < pages = range.some in
    let old : used_frames s ≤ s.frames = good.frames in
    record {
      each = λ number block is. (let was : IsGoodBlock s.heap block = good.each number block is in record {
        aligned = was.aligned;
        aligned_16 = was.aligned_16;
        cells = was.cells;
        granted = λ k less. any_with (is_within (block.address + k)) (heap_region address pages) s.heap
            ∙ or_right (is_within (block.address + k) (heap_region address pages)) (list_any (is_within (block.address + k)) s.heap) (was.granted k less);
      });
      apart = good.apart;
      heap_order = in_order_with (heap_region address pages) s.heap some good.heap_order clear.0;
      user_order = good.user_order;
      heap = all_with (IsHeapRegion s) (heap_region address pages) s.heap ((fit.aligned, range), fit.from, fit.within, refl) good.heap;
      users = users_beside address pages s.heap s.users clear.1 good.users;
      frames = omega arith;
      slots = whole_still (heap_region address pages) (all_regions s) (all_regions (granted s address pages slots)) s.large slots
          (λ test. any_heap_more test (heap_region address pages) s.heap s.users) good.slots (slots_whole (heap_region address pages) slots within);
      are_slots = slots_more address pages s.large slots good.are_slots within;
      no_slot_twice = slots_join address pages (all_regions s) s.large slots ascending within fit.clear good.slots good.no_slot_twice;
    }

-- ---- the granted region is the new one of the list

-- each of some regions starts where one of the list does
abbrev pub AllStart : List Region → List Region → Type 0
AllStart list some = AllByRecursion (λ region. list_any (λ old. nat_eq old.start region.start) list ≡ true) some

start_more : (first : Region) (list some : List Region) → AllStart list some → AllStart (first ∷ list) some
start_more first list [] all = tt
start_more first list (region ∷ rest) all =
    (or_right (nat_eq first.start region.start) (list_any (λ old. nat_eq old.start region.start) list) all.0, start_more first list rest all.1)

pub all_start : (list : List Region) → AllStart list list
all_start [] = tt
all_start (first ∷ rest) =
    let same : nat_eq first.start first.start ≡ true = grind (arith, nat_tests) in
    (or_left (nat_eq first.start first.start) (list_any (λ old. nat_eq old.start first.start) rest) same, start_more first rest rest (all_start rest))

pub none_new : (list some : List Region) → AllStart list some → list_any (is_new list) some ≡ false
none_new list [] all = refl
none_new list (region ∷ rest) all = let e = all.0 in rw e (none_new list rest all.1)

-- no region starts at pages that meet none
pub no_start : (s : State) (address pages : ℕ) (list : List Region) → 0 < pages → AllByRecursion (IsHeapRegion s) list → meets_any address pages list ≡ false →
    list_any (λ old. nat_eq old.start address) list ≡ false
no_start s address pages [] some all clear = refl
no_start s address pages (first ∷ rest) some all clear =
    let parts : (meets address pages first ≡ false) × (meets_any address pages rest ≡ false) =
    neither_or (meets address pages first) (meets_any address pages rest) clear in
    let more : 0 < first.pages = all.0.0.1.some in
    or_neither (nat_eq first.start address) (list_any (λ old. nat_eq old.start address) rest)
    (apart address pages first more some parts.0) (no_start s address pages rest some all.1 parts.1)
  where
    apart : (address pages : ℕ) (region : Region) → 0 < region.pages → 0 < pages → meets address pages region ≡ false → nat_eq region.start address ≡ false
    apart address pages region more some clear = grind (arith, nat_tests)

pub find_granted : (s : State) (address pages : ℕ) → IsGood s → 0 < pages → meets_any address pages s.heap ≡ false →
    find (is_new s.heap) (with_region (heap_region address pages) s.heap) ≡ Some (heap_region address pages)
find_granted s address pages good some clear =
    let fresh : list_any (λ old. nat_eq old.start address) s.heap ≡ false = no_start s address pages s.heap some good.heap clear in
    let new : is_new s.heap (heap_region address pages) ≡ true = ap not fresh in
    find_only (is_new s.heap) (heap_region address pages) s.heap new (none_new s.heap s.heap (all_start s.heap))

-- ---- the machine stands for the state

module _ (m : Seen) (new : Paged) (s : State) (address pages : ℕ) (stands : Stands m s)
    (range : IsCanonicalRange (address / 4096) pages) (fit : IsFit s.base s.pages (all_regions s) pages address)
    (few : pages + missing s.tables address pages ≤ free_frames s)
    (grant : IsPagedGrant m.paged new address pages) (regions : new.regions ≡ all_regions (granted s address pages new.slots)) where
  here : (at : ℕ) → address ≤ at → at < address + 4096 * pages → region_bits (region_at (granted s address pages new.slots) at) ≡ Some (bits_of heap_rights)
  here at above below =
      let none : list_any (is_within at) s.heap ≡ false = none_within address pages at s.heap above below (clear_of s pages address fit).0 in
      ap region_bits (find_alone (is_within at) (heap_region address pages) s.heap s.users (within at (heap_region address pages) above below) none)

  elsewhere : (at : ℕ) → (at < address) ⊎ (address + 4096 * pages ≤ at) → region_at (granted s address pages new.slots) at ≡ region_at s at
  elsewhere at beside = find_without (is_within at) (heap_region address pages) s.heap s.users (not_within at (heap_region address pages) beside)

  pub stands_granted : Stands (record m { paged = new }) (granted s address pages new.slots)
  stands_granted =
      let total : total_pages (with_region (heap_region address pages) s.heap) ≡ pages + total_pages s.heap = pages_with (heap_region address pages) s.heap in
      stands_added m new s address pages heap_rights (with_region (heap_region address pages) s.heap) s.users stands range
      fit.aligned grant here elsewhere few (omega arith) regions
      (λ at user. stays m new s address pages heap_rights (with_region (heap_region address pages) s.heap) s.users stands
      range fit.aligned grant here elsewhere at 0 (stands.zeros at user))

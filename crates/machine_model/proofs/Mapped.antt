-- A region of the user is mapped or unmapped: the state after it is good, and the machine stands for it.
use Rattle.std.proofs.Common.{◌≡◌, ℕ, ◌+◌, ◌-◌, ◌*◌, ◌/◌, ◌%◌, ◌^◌, ◌<◌, ◌≤◌, ◌⊎◌, inl, inr, ◌&&◌, not, nat_lt, nat_eq, List, [], ◌∷◌, ◌++◌, length, map, filter, refl, sym, ap, ◌∙◌, subst, arith, mul_comm, Bool, true, false, IsTrue, IsFalse, Option, Some, None, IsSome}
use Rattle.std.specs.Prelude.{◌↔◌}
use Rattle.std.specs.List.{list_any, AllByRecursion}
use Rattle.std.proofs.lemmas.Bool.Decides.{nat_tests}
use Rattle.std.proofs.ByRecursion.{kept_by_passes}
use native.Mathlib.Decide.{dec_lt}
use Rattle.paging_core.specs.Address.{is_canonical, IsCanonicalRange}
use Rattle.paging_core.specs.Prefix.{Prefix, prefix_of}
use Rattle.paging_core.specs.Walk.{Place, reach, large_of, walk_of, reached}
use Rattle.paging_core.specs.PageBits.{bits_of}
use Rattle.paging_core.specs.Tree.{IsTree}
use Rattle.paging_core.specs.declared.page_table.Rights.{Rights}
use Rattle.paging_core.proofs.Reached.{some_not_none}
use Rattle.page_ranges.specs.RangeUnmapping.{cuts_large_page, cut_tables}
use Rattle.machine_model.specs.declared.region.Region.{Region}
use Rattle.machine_model.specs.declared.call.Call.TheVariants.{Map, Unmap}
use Rattle.machine_model.specs.declared.answer.Reply.TheVariants.{Done}
use Rattle.machine_model.specs.State.{State, Known, is_within, end_of_region, total_pages, region_at, Block, block_at, cell_at, cover}
use Rattle.machine_model.specs.Tables.{has_table, missing, with_tables, used_frames, free_frames}
use Rattle.machine_model.specs.Slots.{listed_slots, IsSlot, slot_number, slot_prefix, has_whole, is_whole_in, is_part_in, has_slot, AreAscending, IsSlotOf}
use Rattle.machine_model.specs.Place.{meets, meets_any, with_region, is_at, without_region, all_regions}
use Rattle.machine_model.specs.Room.{user_region}
use Rattle.machine_model.specs.Refusal.{is_page_range, must_refuse}
use Rattle.machine_model.specs.Answer.{settled, after}
use Rattle.machine_model.specs.Run.{IsGood, IsGoodBlock, IsHeapRegion, IsUserRegion, AreRegionsInOrder}
use Rattle.machine_model.specs.Machine.{Paged, HasGotPages, ArePagesGone, Seen, Stands, IsStep}
use Rattle.machine_model.proofs.Booleans.{or_left, or_right, or_cases, neither_or}
use Rattle.machine_model.proofs.Regions.{within, not_within, meets_behind, beside, all_with, pages_with, any_with, any_all, in_order_with, none_within, find_only, find_past, find_behind, find_same, find_none, all_without, pages_without, in_order_without, find_left, starts_behind, none_left, any_left, listed, page_canonical, within_canonical}
use Rattle.machine_model.proofs.Slots.{same_slot, page_slot, page_number, slot_all, has_slot-filter, filter_none, distinct_filter, whole_bounds, whole_meets, any_users_more, slots_more, slots_fewer, slots_join, slots_whole, whole_still, settled_same}
use Rattle.machine_model.proofs.Tables.{length-with_tables}
use Rattle.machine_model.proofs.Known.{known_within}
use Rattle.machine_model.proofs.Added.{found_bits, region_bits, stays, stands_added}
use Rattle.machine_model.proofs.NewSlots.{slots_listed, allowed_slots}

-- ---- ranges of pages

-- the test is that of whole pages in one canonical half
pub range_whole : (start pages : ℕ) → is_page_range start pages ≡ true → (start % 4096 ≡ 0) × IsCanonicalRange (start / 4096) pages
range_whole start pages is =
    let whole : start % 4096 ≡ 0 = grind (arith, nat_tests) in
    let some : 0 < pages = grind (arith, nat_tests) in
    let canonical : is_canonical start ≡ true = grind (arith, nat_tests) in
    let half : (start + 4096 * pages - 1) / 2 ^ 47 ≡ start / 2 ^ 47 = grind (arith, nat_tests) in
    let first : start / 4096 * 4096 ≡ start = omega (arith, whole) in
    (whole, record { some = some; canonical = ap is_canonical first ∙ canonical; one_half = omega (arith, whole, some, half) })

pub whole_range : (start pages : ℕ) → start % 4096 ≡ 0 → IsCanonicalRange (start / 4096) pages → is_page_range start pages ≡ true
whole_range start pages whole range =
    let some = range.some in
    let first : start / 4096 * 4096 ≡ start = omega (arith, whole) in
    let canonical : is_canonical start ≡ true = ap is_canonical (sym first) ∙ range.canonical in
    let one = range.one_half in
    let half : (start + 4096 * pages - 1) / 2 ^ 47 ≡ start / 2 ^ 47 = omega (arith, whole, some, one) in
    let aligned_test : nat_eq (start % 4096) 0 ≡ true = grind (arith, nat_tests) in
    let some_test : nat_lt 0 pages ≡ true = grind (arith, nat_tests) in
    let half_test : nat_eq ((start + 4096 * pages - 1) / 2 ^ 47) (start / 2 ^ 47) ≡ true = grind (arith, nat_tests) in
    rw (aligned_test, some_test, canonical, half_test) refl

-- ---- mapped

-- the state with one region more of the user, of which these slots are mapped by one entry each
abbrev pub with_user : State → ℕ → ℕ → Rights → List ℕ → State
with_user s start pages rights slots = record s {
  users = with_region (user_region start pages rights) s.users;
  tables =
      with_tables s.tables start pages slots;
  large = s.large ++ slots;
}

-- pages that meet no region of either kind meet none
clear_all : (s : State) (start pages : ℕ) → meets_any start pages s.heap ≡ false → meets_any start pages s.users ≡ false →
    meets_any start pages (all_regions s) ≡ false
clear_all s start pages beside_heap beside_users = any_all (meets start pages) s.heap s.users ∙ rw (beside_heap, beside_users) refl

pub good_mapped : (s : State) (start pages : ℕ) (rights : Rights) (slots : List ℕ) → IsGood s → start % 4096 ≡ 0 → IsCanonicalRange (start / 4096) pages →
    meets_any start pages s.heap ≡ false → meets_any start pages s.users ≡ false → pages + missing s.tables start pages ≤ free_frames s →
    AreAscending slots → AllByRecursion (IsSlotOf start pages) slots → IsGood (with_user s start pages rights slots)
good_mapped s start pages rights slots good whole range beside_heap beside_users few ascending within =
    let total : total_pages (with_region (user_region start pages rights) s.users) ≡ pages + total_pages s.users =
    pages_with (user_region start pages rights) s.users in
    let tables = length-with_tables s.tables start pages slots in
    let old : used_frames s ≤ s.frames = good.frames in
    record {
      each = good.each;
      apart = good.apart;
      heap_order = good.heap_order;
      user_order = in_order_with (user_region start pages rights) s.users range.some good.user_order beside_users;
      heap = good.heap;
      users = all_with (IsUserRegion s.heap) (user_region start pages rights) s.users (refl, (whole, range), beside_heap) good.users;
      frames = omega arith;
      slots = whole_still (user_region start pages rights) (all_regions s) (all_regions (with_user s start pages rights slots)) s.large slots
          (λ test. any_users_more test (user_region start pages rights) s.heap s.users) good.slots (slots_whole (user_region start pages rights) slots within);
      are_slots = slots_more start pages s.large slots good.are_slots within;
      no_slot_twice = slots_join start pages (all_regions s) s.large slots ascending within
          (clear_all s start pages beside_heap beside_users) good.slots good.no_slot_twice;
    }

module _ (m : Seen) (new : Paged) (s : State) (start pages : ℕ) (rights : Rights) (stands : Stands m s)
    (whole : start % 4096 ≡ 0) (range : IsCanonicalRange (start / 4096) pages)
    (beside_heap : meets_any start pages s.heap ≡ false) (beside_users : meets_any start pages s.users ≡ false)
    (few : pages + missing s.tables start pages ≤ free_frames s)
    (added : HasGotPages m.paged new start pages rights) (regions : new.regions ≡ all_regions (with_user s start pages rights new.slots))
    (zeros : (at : ℕ) → is_within at (user_region start pages rights) ≡ true → reached new.words new.root at ≡ Some 0) where
  here : (at : ℕ) → start ≤ at → at < start + 4096 * pages → region_bits (region_at (with_user s start pages rights new.slots) at) ≡ Some (bits_of rights)
  here at above below =
      ap region_bits (find_behind (is_within at) s.heap (with_region (user_region start pages rights) s.users)
      (none_within start pages at s.heap above below beside_heap)
      ∙ find_only (is_within at) (user_region start pages rights) s.users
      (within at (user_region start pages rights) above below) (none_within start pages at s.users above below
      beside_users))

  elsewhere : (at : ℕ) → (at < start) ⊎ (start + 4096 * pages ≤ at) → region_at (with_user s start pages rights new.slots) at ≡ region_at s at
  elsewhere at beside = find_same (is_within at) s.heap s.users (with_region (user_region start pages rights) s.users)
      (find_past (is_within at) (user_region start pages rights) s.users (not_within at (user_region start pages rights) beside))

  cleared : (at : ℕ) → list_any (is_within at) (with_region (user_region start pages rights) s.users) ≡ true → reached new.words new.root at ≡ Some 0
  cleared at user = elim (or_cases (is_within at (user_region start pages rights)) (list_any (is_within at) s.users)
      (sym (any_with (is_within at) (user_region start pages rights) s.users) ∙ user)) [
        | inl inside ↦ zeros at inside
        | inr other ↦ stays m new s start pages rights s.heap (with_region (user_region start pages rights) s.users) stands
            range whole added here elsewhere at 0 (stands.zeros at other)
      ]

  pub stands_mapped : Stands (record m { paged = new }) (with_user s start pages rights new.slots)
  stands_mapped =
      let total : total_pages (with_region (user_region start pages rights) s.users) ≡ pages + total_pages s.users =
      pages_with (user_region start pages rights) s.users in
      stands_added m new s start pages rights s.heap (with_region (user_region start pages rights) s.users) stands range
      whole added here elsewhere few (omega arith) regions cleared

-- ---- unmapped

-- a listed region of the user is whole, and lies beside the heap
pub user_beside : (s : State) (start pages : ℕ) → IsGood s → list_any (is_at start pages) s.users ≡ true →
    ((start % 4096 ≡ 0) × IsCanonicalRange (start / 4096) pages) × (meets_any start pages s.heap ≡ false)
user_beside s start pages good there =
    let user = listed (IsUserRegion s.heap) start pages s.users good.users there in
    let at : (n : ℕ) → ((user.0.start % 4096 ≡ 0) × IsCanonicalRange (user.0.start / 4096) n) × (meets_any user.0.start n s.heap ≡ false) →
    ((start % 4096 ≡ 0) × IsCanonicalRange (start / 4096) n) × (meets_any start n s.heap ≡ false) =
    λ n h. subst (λ a. ((a % 4096 ≡ 0) × IsCanonicalRange (a / 4096) n) × (meets_any a n s.heap ≡ false)) user.2 h in
    at pages (subst (λ n. ((user.0.start % 4096 ≡ 0) × IsCanonicalRange (user.0.start / 4096) n) × (meets_any user.0.start n
    s.heap ≡ false)) user.3 (user.1.1, user.1.2))

-- what was reached was walked to
pub reached_walk : (words : List ℕ) (root address byte : ℕ) → reached words root address ≡ Some byte → IsSome (walk_of words root (address / 4096))
reached_walk words root address byte is = go (walk_of words root (address / 4096)) refl
  where
    go : (o : Option Place) → walk_of words root (address / 4096) ≡ o → IsSome o
    go (Some place) walk = refl
    go None walk = let none : reached words root address ≡ None = rw walk refl in absurd (cc)

-- the state with one region of the user less; the slots that it had whole are no longer large
abbrev pub without_user : State → ℕ → ℕ → State
without_user s start pages = settled (record s { users = without_region start pages s.users })

-- its regions
abbrev regions_left : State → ℕ → ℕ → List Region
regions_left s start pages = all_regions (record s { users = without_region start pages s.users })

-- the region that leaves meets no other one
none_met : (start pages : ℕ) (list : List Region) → AreRegionsInOrder list → list_any (is_at start pages) list ≡ true →
    meets_any start pages (without_region start pages list) ≡ false
none_met start pages [] order there = absurd (let no : false ≡ true = there in cc)
none_met start pages (region ∷ rest) order there = go (is_at start pages region) refl (none_met start pages rest order.1)
  where
    later : (at : ℕ) (list : List Region) → start + 4096 * pages ≤ at → AllByRecursion (λ one. at ≤ one.start) list → meets_any start pages list ≡ false
    later at [] behind all = refl
    later at (one ∷ more) behind all =
        let from : at ≤ one.start = all.0 in
        let here : meets start pages one ≡ false = grind (arith, nat_tests) in
        rw here (later at more behind all.1)

    go : (b : Bool) → is_at start pages region ≡ b → (list_any (is_at start pages) rest ≡ true →
        meets_any start pages (without_region start pages rest) ≡ false) →
        meets_any start pages (without_region start pages (region ∷ rest)) ≡ false
    go true is more =
        let same : region.start ≡ start = grind (arith, nat_tests) in
        let long : region.pages ≡ pages = grind (arith, nat_tests) in
        rw is (later (end_of_region region) rest (omega arith) order.0)
    go false is more =
        let in_rest : list_any (is_at start pages) rest ≡ true = rw is at there in
        let end : end_of_region region ≤ start = starts_behind start pages (end_of_region region) rest order.0 in_rest in
        let here = meets_behind start pages region end in
        rw (is, here) (more in_rest)

-- what passes passes with one less, or at the one that leaves
passes_left : (test : Region → Bool) (start pages : ℕ) (list : List Region) → list_any test list ≡ true →
    (list_any test (without_region start pages list) ≡ true) ⊎ ((region : Region) × (is_at start pages region ≡ true) × (test region ≡ true))
passes_left test start pages [] is = absurd (let no : false ≡ true = is in cc)
passes_left test start pages (region ∷ rest) is = go (is_at start pages region) refl
    (or_cases (test region) (list_any test rest) is) (passes_left test start pages rest)
  where
    go : (b : Bool) → is_at start pages region ≡ b → (test region ≡ true) ⊎ (list_any test rest ≡ true) →
        (list_any test rest ≡ true → (list_any test (without_region start pages rest) ≡ true) ⊎ ((one : Region) × (is_at
        start pages one ≡ true) × (test one ≡ true))) →
        (list_any test (without_region start pages (region ∷ rest)) ≡ true) ⊎ ((one : Region) × (is_at start pages one ≡ true) × (test one ≡ true))
    go true at (inl here) more = inr (region, at, here)
    go true at (inr later) more = inl (rw at later)
    go false at (inl here) more = inl (rw at (or_left (test region) (list_any test (without_region start pages rest)) here))
    go false at (inr later) more = elim (more later) [
      | inl left ↦ inl (rw at (or_right (test region) (list_any test (without_region start pages rest)) left))
      | inr leaves ↦ inr leaves
    ]

-- a region at these pages has them
at_start : (start pages : ℕ) (region : Region) → is_at start pages region ≡ true → region.start ≡ start
at_start start pages region is = grind (arith, nat_tests)

at_pages : (start pages : ℕ) (region : Region) → is_at start pages region ≡ true → region.pages ≡ pages
at_pages start pages region is = grind (arith, nat_tests)

-- a slot that lies whole in a region of the state does so still, or it lies among the pages that leave
slot_left : (s : State) (start pages slot : ℕ) → is_whole_in (all_regions s) slot ≡ true →
    (is_whole_in (regions_left s start pages) slot ≡ true) ⊎ ((start ≤ slot) × (slot + 2 ^ 21 ≤ start + 4096 * pages))
slot_left s start pages slot is = elim (or_cases (is_whole_in s.heap slot) (is_whole_in s.users slot) (sym (any_all (has_whole slot) s.heap s.users) ∙ is)) [
  | inl heap ↦ inl (any_all (has_whole slot) s.heap (without_region start pages s.users)
      ∙ or_left (is_whole_in s.heap slot) (is_whole_in (without_region start pages s.users) slot) heap)
  | inr users ↦ elim (passes_left (has_whole slot) start pages s.users users) [
    | inl left ↦ inl (any_all (has_whole slot) s.heap (without_region start pages s.users)
        ∙ or_right (is_whole_in s.heap slot) (is_whole_in (without_region start pages s.users) slot) left)
    | inr leaves ↦ (
        let same : leaves.0.start ≡ start = at_start start pages leaves.0 leaves.1 in
        let long : leaves.0.pages ≡ pages = at_pages start pages leaves.0 leaves.1 in
        let bounds = whole_bounds slot leaves.0 leaves.2 in
        inr (omega (arith, same, long, bounds.0), omega (arith, same, long, bounds.1)))
  ]
]

-- slots among pages that meet no region lie whole in none, and in none in part
apart_pages : (start pages slot : ℕ) (regions : List Region) → start ≤ slot → slot + 2 ^ 21 ≤ start + 4096 * pages →
    meets_any start pages regions ≡ false → meets_any slot 512 regions ≡ false
apart_pages start pages slot [] from to clear = refl
apart_pages start pages slot (region ∷ rest) from to clear =
    let both = neither_or (meets start pages region) (meets_any start pages rest) clear in
    let here : meets slot 512 region ≡ false = elim (beside start pages region both.0) [
      | inl before ↦ meets_behind slot 512 region (omega (arith, before, from))
      | inr behind ↦ meets_before slot 512 region (omega (arith, behind, to))
    ] in
    rw here (apart_pages start pages slot rest from to both.1)
  where
    meets_before : (address count : ℕ) (one : Region) → address + 4096 * count ≤ one.start → meets address count one ≡ false
    meets_before address count one below = grind (arith, nat_tests)

-- no region that is left meets the pages that leave
clear_left : (s : State) (start pages : ℕ) → IsGood s → list_any (is_at start pages) s.users ≡ true → meets_any start pages (regions_left s start pages) ≡ false
clear_left s start pages good there =
    any_all (meets start pages) s.heap (without_region start pages s.users)
    ∙ (let heap = (user_beside s start pages good there).1 in let users = none_met start pages s.users good.user_order there in rw (heap, users) refl)

-- so no slot is left in part
parts_left : (s : State) (start pages : ℕ) → IsGood s → list_any (is_at start pages) s.users ≡ true →
    filter (is_part_in (regions_left s start pages)) s.large ≡ []
parts_left s start pages good there = filter_none (is_part_in (regions_left s start pages)) s.large (each s.large good.slots)
  where
    each : (slots : List ℕ) → AllByRecursion (λ slot. IsTrue (is_whole_in (all_regions s) slot)) slots →
        AllByRecursion (λ slot. is_part_in (regions_left s start pages) slot ≡ false) slots
    each [] all = tt
    each (slot ∷ rest) all = (
      elim (slot_left s start pages slot all.0) [
        | inl left ↦ rw left refl
        | inr leaves ↦ (let clear = apart_pages start pages slot (regions_left s start pages) leaves.0 leaves.1
            (clear_left s start pages good there) in rw clear (and_false (not
            (is_whole_in (regions_left s start pages) slot))))
      ],
      each rest all.1,
    )
      where
        and_false : (b : Bool) → (b && false) ≡ false
        and_false true = refl
        and_false false = refl

-- and no table is made
tables_left : (s : State) (start pages : ℕ) → IsGood s → list_any (is_at start pages) s.users ≡ true → (without_user s start pages).tables ≡ s.tables
tables_left s start pages good there = ap (λ gone. s.tables ++ map slot_prefix gone) (parts_left s start pages good there) ∙ append_none s.tables
  where
    append_none : (xs : List Prefix) → xs ++ [] ≡ xs
    append_none [] = refl
    append_none (x ∷ xs) = ap (λ ys. x ∷ ys) (append_none xs)

pub good_unmapped : (s : State) (start pages : ℕ) → IsGood s → list_any (is_at start pages) s.users ≡ true → IsGood (without_user s start pages)
good_unmapped s start pages good there =
    let total : total_pages (without_region start pages s.users) + pages ≡ total_pages s.users = pages_without start pages s.users there in
    let old : used_frames s ≤ s.frames = good.frames in
    let tables = ap length (tables_left s start pages good there) in
    record {
      each = good.each;
      apart = good.apart;
      heap_order = good.heap_order;
      user_order = in_order_without start pages s.users good.user_order;
      heap = good.heap;
      users = all_without (IsUserRegion s.heap) start pages s.users good.users;
      frames = omega arith;
      slots = kept_by_passes (is_whole_in (regions_left s start pages)) s.large;
      are_slots = slots_fewer IsSlot (is_whole_in (regions_left s start pages)) s.large good.are_slots;
      no_slot_twice = distinct_filter (is_whole_in (regions_left s start pages)) s.large good.no_slot_twice;
    }

module _ (m : Seen) (new : Paged) (s : State) (start pages : ℕ) (good : IsGood s) (stands : Stands m s) (there : list_any (is_at start pages) s.users ≡ true)
    (left : ArePagesGone m.paged new start pages) (uncut : cuts_large_page m.paged.words m.paged.root
    (start / 4096) ≡ false)
    (regions : new.regions ≡ all_regions (without_user s start pages)) where
  -- what is known of the region that leaves
  known_start : (start % 4096 ≡ 0) × (meets_any start pages s.heap ≡ false)
  known_start = let user = user_beside s start pages good there in (user.0.0, user.1)

  -- no region has an address of the pages
  none_there : (at : ℕ) → start ≤ at → at < start + 4096 * pages → region_at (without_user s start pages) at ≡ None
  none_there at above below =
      find_behind (is_within at) s.heap (without_region start pages s.users) (none_within start pages at s.heap above below known_start.1)
      ∙ find_none (is_within at) (without_region start pages s.users) (none_left start pages at s.users good.user_order there above below)

  as_before : (at : ℕ) → (at < start) ⊎ (start + 4096 * pages ≤ at) → region_at (without_user s start pages) at ≡ region_at s at
  as_before at beside = find_same (is_within at) s.heap s.users (without_region start pages s.users)
      (find_left (is_within at) start pages s.users (λ region is.
      let same : region.start ≡ start = at_start start pages region is in
      let long : region.pages ≡ pages = at_pages start pages region is in
      not_within at region (elim beside [ inl before ↦ inl (omega arith) | inr behind ↦ inr (omega arith) ])))

  out_of_range : (page : ℕ) → IsTrue (is_canonical (4096 * page)) → (page < start / 4096) ⊎ (start / 4096 + pages ≤ page) →
      found_bits (walk_of new.words m.paged.root page) ≡ region_bits (region_at (without_user s start pages) (4096 * page))
  out_of_range page canonical beside =
      let aligned = known_start.0 in
      let apart : (k : ℕ) → k < pages → page ≡ start / 4096 + k → ⊥ = λ k less same. elim beside [ inl before ↦ omega arith | inr behind ↦ omega arith ] in
      let out : (4096 * page < start) ⊎ (start + 4096 * pages ≤ 4096 * page) =
      elim beside [ inl before ↦ inl (omega arith) | inr behind ↦ inr (omega arith) ] in
      ap found_bits (left.others page (subst (λ a. IsTrue (is_canonical a)) (mul_comm 4096 page) canonical) apart)
      ∙ (stands.pages_found page canonical ∙ sym (ap region_bits (as_before (4096 * page) out)))

  pages_found : (page : ℕ) → IsTrue (is_canonical (4096 * page)) →
      found_bits (walk_of new.words m.paged.root page) ≡ region_bits (region_at (without_user s start pages) (4096 * page))
  pages_found page canonical = elim (dec_lt page (start / 4096)) [
    | yes before ↦ out_of_range page canonical (inl before)
    | no above ↦ elim (dec_lt page (start / 4096 + pages)) [
      | yes inside ↦ (
          let aligned = known_start.0 in
          let e : start / 4096 + (page - start / 4096) ≡ page = omega arith in
          let gone : walk_of new.words m.paged.root page ≡ None = subst (λ p. walk_of new.words m.paged.root p ≡ None) e
          (left.unmapped (page - start / 4096) (omega arith)) in
          ap found_bits gone ∙ sym (ap region_bits (none_there (4096 * page) (omega arith) (omega arith))))
      | no behind ↦ out_of_range page canonical (inr (omega arith))
    ]
  ]

  -- a byte outside the pages is reached as before
  kept : (at byte : ℕ) → (at < start) ⊎ (start + 4096 * pages ≤ at) → IsTrue (is_canonical (at / 4096 * 4096)) →
      reached m.paged.words m.paged.root at ≡ Some byte →
      reached new.words new.root at ≡ Some byte
  kept at byte beside canonical is =
      let aligned = known_start.0 in
      let apart : (k : ℕ) → k < pages → at / 4096 ≡ start / 4096 + k → ⊥ = λ k less same. elim beside [ inl before ↦ omega arith | inr behind ↦ omega arith ] in
      let same = left.others (at / 4096) canonical apart in
      let walked : IsSome (walk_of new.words m.paged.root (at / 4096)) = subst IsSome (sym same) (reached_walk m.paged.words m.paged.root at byte is) in
      ap (λ r. reached new.words r at) left.root ∙ (left.bytes at walked ∙ is)

  -- an address of the heap, or of a user region that stays, lies beside the pages
  beside_heap : (at : ℕ) → list_any (is_within at) s.heap ≡ true → (at < start) ⊎ (start + 4096 * pages ≤ at)
  beside_heap at inside = elim (dec_lt at start) [
    | yes before ↦ inl before
    | no above ↦ elim (dec_lt at (start + 4096 * pages)) [
      | yes below ↦ (let no : list_any (is_within at) s.heap ≡ false = none_within start pages at s.heap (omega arith) below known_start.1 in absurd (cc))
      | no behind ↦ inr (omega arith)
    ]
  ]

  beside_users : (at : ℕ) → list_any (is_within at) (without_region start pages s.users) ≡ true → (at < start) ⊎ (start + 4096 * pages ≤ at)
  beside_users at inside = elim (dec_lt at start) [
    | yes before ↦ inl before
    | no above ↦ elim (dec_lt at (start + 4096 * pages)) [
      | yes below ↦ (let no : list_any (is_within at) (without_region start pages s.users) ≡ false =
          none_left start pages at s.users good.user_order there (omega arith) below in absurd (cc))
      | no behind ↦ inr (omega arith)
    ]
  ]

  -- a byte of a block, and one of a region of the user
  block_byte : (number k byte : ℕ) (block : Block) → block_at s.blocks number ≡ Some block →
      cell_at block.cells k ≡ Known byte → reached new.words new.root (block.address + k) ≡ Some byte
  block_byte number k byte block is cell =
      let one : IsGoodBlock s.heap block = good.each number block is in
      let inside : k < cover block = (let c = known_within block.cells k byte cell in let n = one.cells in omega arith) in
      let held : list_any (is_within (block.address + k)) s.heap ≡ true = one.granted k inside in
      kept (block.address + k) byte (beside_heap (block.address + k) held)
      (within_canonical (IsHeapRegion s) (λ region h. h.0) (block.address + k) s.heap good.heap held)
      (stands.bytes.known number k byte block is cell)

  user_byte : (at : ℕ) → list_any (is_within at) (without_region start pages s.users) ≡ true → reached new.words new.root at ≡ Some 0
  user_byte at inside =
      let held : list_any (is_within at) s.users ≡ true = any_left (is_within at) start pages s.users inside in
      kept at 0 (beside_users at inside) (within_canonical (IsUserRegion s.heap) (λ region u. u.1) at s.users good.users held) (stands.zeros at held)

  -- a slot that has an address of the pages is large no more, and one that has none stays
  slot_gone : (slot : ℕ) → start < slot + 2 ^ 21 → slot < start + 4096 * pages → IsSlot slot → large_of new.words m.paged.root (slot_number slot) ≡ None
  slot_gone slot below above is =
      let aligned : start % 4096 ≡ 0 = known_start.0 in
      let slot_aligned : slot % 2 ^ 21 ≡ 0 = is.aligned in
      let range = (user_beside s start pages good there).0.1 in
      elim (dec_lt slot start) [
        | yes before ↦ (
            let number : prefix_of (start / 4096 + 0) 3 ≡ slot_number slot = omega (arith, aligned, slot_aligned, before, below) in
            subst (λ n. large_of new.words m.paged.root n ≡ None) number (left.gone.large_gone 0 range.some))
        | no behind ↦ (
            let page : start / 4096 + (slot / 4096 - start / 4096) ≡ slot / 4096 = omega (arith, behind) in
            subst (λ p. large_of new.words m.paged.root (prefix_of p 3) ≡ None) page
            (left.gone.large_gone (slot / 4096 - start / 4096) (omega (arith, aligned, slot_aligned, behind, above))))
      ]

  slot_stays : (slot : ℕ) → (slot + 2 ^ 21 ≤ start) ⊎ (start + 4096 * pages ≤ slot) → IsSlot slot →
      large_of new.words m.paged.root (slot_number slot) ≡ large_of m.paged.words m.paged.root (slot_number slot)
  slot_stays slot beside is = left.gone.larges_stay (slot_number slot) (λ k less same. (
      let range = (user_beside s start pages good there).0.1 in
      let aligned : start % 4096 ≡ 0 = known_start.0 in
      let canonical = page_canonical (start / 4096) pages k range less in
      let of : slot ≡ (start / 4096 + k) / 512 * 2 ^ 21 = same_slot slot ((start / 4096 + k) / 512 * 2 ^ 21) is
      (page_slot (start / 4096 + k) canonical) (same ∙ sym (page_number (start / 4096 + k))) in
      elim beside [ inl before ↦ omega (arith, aligned, of, before, less) | inr behind ↦ omega (arith, aligned, of, behind, less) ]))

  larges_met : (slot : ℕ) → IsSlot slot → IsSome (large_of new.words m.paged.root (slot_number slot)) ↔ IsTrue
      (has_slot (filter (is_whole_in (regions_left s start pages)) s.large) slot)
  larges_met slot is = elim (dec_lt start (slot + 2 ^ 21)) [
    | yes below ↦ elim (dec_lt slot (start + 4096 * pages)) [
      | yes above ↦ (
          let none = slot_gone slot below above is in (
            (λ x. absurd (some_not_none (large_of new.words m.paged.root (slot_number slot)) x none)),
            (λ x. absurd (
                let both = and_both (has_slot s.large slot) (is_whole_in (regions_left s start pages) slot)
                (sym (has_slot-filter (is_whole_in (regions_left s start pages)) s.large slot) ∙ x) in
                let met = whole_meets start pages slot (regions_left s start pages) below above both.1 in
                let clear = clear_left s start pages good there in
                cc)),
          ))
      | no behind ↦ stays_met slot is (inr (omega (arith, behind)))
    ]
    | no before ↦ stays_met slot is (inl (omega (arith, before)))
  ]
    where
      and_both : (a b : Bool) → (a && b) ≡ true → (a ≡ true) × (b ≡ true)
      and_both true b is = (refl, is)
      and_both false b is = absurd (cc)

      stays_met : (slot : ℕ) → IsSlot slot → (slot + 2 ^ 21 ≤ start) ⊎ (start + 4096 * pages ≤ slot) →
          IsSome (large_of new.words m.paged.root (slot_number slot)) ↔ IsTrue (has_slot (filter (is_whole_in (regions_left s start pages)) s.large) slot)
      stays_met slot is beside =
          let same = slot_stays slot beside is in
          let met = stands.larges_met slot is in (
            (λ x.
                let listed : has_slot s.large slot ≡ true = met.0 (subst IsSome same x) in
                let whole : is_whole_in (regions_left s start pages) slot ≡ true =
                elim (slot_left s start pages slot (slot_all (λ one. IsTrue (is_whole_in (all_regions s) one)) s.large
                slot good.slots listed)) [
                  | inl stays ↦ stays
                  | inr leaves ↦ absurd (elim beside [ inl before ↦ omega (arith, before, leaves.0) | inr behind ↦ omega (arith, behind, leaves.1) ])
                ] in
                has_slot-filter (is_whole_in (regions_left s start pages)) s.large slot ∙ rw (listed, whole) refl),
            (λ x. subst IsSome (sym same) (met.1 (and_both (has_slot s.large slot)
                (is_whole_in (regions_left s start pages) slot) (sym (has_slot-filter
                (is_whole_in (regions_left s start pages)) s.large slot) ∙ x)).0)),
          )

  pub stands_unmapped : Stands (record m { paged = new }) (without_user s start pages)
  stands_unmapped =
      let was = stands.free_frames in
      let all = good.frames in
      let total : total_pages (without_region start pages s.users) + pages ≡ total_pages s.users = pages_without start pages s.users there in
      let tables = ap length (tables_left s start pages good there) in
      let none : cut_tables m.paged.words m.paged.root (start / 4096) ≡ 0 = rw uncut refl in
      let count = left.gone.count in
      let counted = left.tables in
      record {
        root = left.root ∙ stands.root;
        tree = subst (λ r. IsTree new.words r new.free) (sym left.root) left.tree;
        free_frames = omega arith;
        table_count = (let many = stands.table_count in omega arith);
        pages_found = λ page canonical. ap (λ r. found_bits (walk_of new.words r page)) left.root ∙ pages_found page canonical;
        tables_met = λ level number some less. subst (λ r. IsSome (reach new.words r level number) ↔ IsTrue
            (has_table (without_user s start pages).tables (record { level = level; number = number }))) (sym left.root)
            (subst (λ ts. IsSome (reach new.words m.paged.root level number) ↔ IsTrue
            (has_table ts (record { level = level; number = number }))) (sym (tables_left s start pages good there))
            (subst (λ o. IsSome o ↔ IsTrue (has_table s.tables (record { level = level; number = number })))
            (sym (left.gone.tables_stay level number less (λ same at. uncut)))
            (stands.tables_met level number some less)));
        larges_met = λ slot is. subst (λ r. IsSome (large_of new.words r (slot_number slot)) ↔ IsTrue
            (has_slot (without_user s start pages).large slot)) (sym left.root) (larges_met slot is);
        regions = regions;
        blocks = stands.blocks;
        base = left.base ∙ stands.base;
        pages = left.pages_is ∙ stands.pages;
        granularity = stands.granularity;
        frames = ap (λ n. n / 512) left.gone.size ∙ stands.frames;
        bytes = record { known = block_byte };
        zeros = user_byte;
      }

-- ---- the steps

-- no refusal must come
pub map_clear : (s : State) (start pages : ℕ) (rights : Rights) → start % 4096 ≡ 0 → IsCanonicalRange (start / 4096) pages →
    meets_any start pages s.heap ≡ false →
    meets_any start pages s.users ≡ false → pages + missing s.tables start pages ≤ free_frames s → must_refuse s (Map start pages rights) ≡ None
map_clear s start pages rights whole range beside_heap beside_users few =
    let is : is_page_range start pages ≡ true = whole_range start pages whole range in
    let enough : nat_lt (free_frames s) (pages + missing s.tables start pages) ≡ false = grind (arith, nat_tests) in
    rw (is, beside_heap, beside_users, enough) refl

pub unmap_clear : (s : State) (start pages : ℕ) → start % 4096 ≡ 0 → IsCanonicalRange (start / 4096) pages → meets_any start pages s.heap ≡ false →
    list_any (is_at start pages) s.users ≡ true → must_refuse s (Unmap start pages) ≡ None
unmap_clear s start pages whole range beside_heap there =
    let is : is_page_range start pages ≡ true = whole_range start pages whole range in
    rw (is, beside_heap, there) refl

-- a region is mapped, and the answer lists its slots that one entry maps
pub step_mapped : (m : Seen) (new : Paged) (s : State) (start pages : ℕ) (rights : Rights) (slots : List ℕ) → IsGood s →
    start % 4096 ≡ 0 → IsCanonicalRange (start / 4096) pages → meets_any start pages s.heap ≡ false → meets_any start pages s.users ≡ false →
    pages + missing s.tables start pages ≤ free_frames s → AreAscending slots → AllByRecursion (IsSlotOf start pages) slots →
    AllByRecursion (λ slot. IsFalse (has_table s.tables (slot_prefix slot))) slots → Stands (record m { paged = new }) (with_user s start pages rights slots) →
    IsStep s (Map start pages rights) (record { reply = Done; regions = None; large = listed_slots slots }) (record m { paged = new })
step_mapped m new s start pages rights slots good whole range beside_heap beside_users few ascending within bare stands =
    let is_good = good_mapped s start pages rights slots good whole range beside_heap beside_users few ascending within in
    let same : with_user s start pages rights slots ≡ after s (Map start pages rights) (record { reply = Done; regions = None; large = listed_slots slots }) =
    sym (settled_same (with_user s start pages rights slots) is_good.slots)
    ∙ ap (λ list. settled (with_user s start pages rights list)) (sym (slots_listed slots)) in
    record {
      allowed = record {
        reply = (map_clear s start pages rights whole range beside_heap beside_users few, refl);
        listed = tt;
        large = allowed_slots s (Map start pages rights) Done None (record { start = start; pages = pages }) slots refl ascending within bare;
      };
      good = subst IsGood same is_good;
      stands = subst (Stands (record m { paged = new })) same stands;
    }

-- one is unmapped
pub step_unmapped : (m : Seen) (new : Paged) (s : State) (start pages : ℕ) → IsGood s → list_any (is_at start pages) s.users ≡ true →
    Stands (record m { paged = new }) (without_user s start pages) → IsStep s (Unmap start pages)
    (record { reply = Done; regions = None; large = None }) (record m { paged = new })
step_unmapped m new s start pages good there stands =
    let user = user_beside s start pages good there in
    record {
      allowed = record { reply = (unmap_clear s start pages user.0.0 user.0.1 user.1 there, refl); listed = tt; large = tt };
      good = good_unmapped s start pages good there;
      stands = stands;
    }

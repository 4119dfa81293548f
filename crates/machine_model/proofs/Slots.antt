-- Slots of 2 MiB, lists of them, and those that one entry maps.
use Rattle.std.proofs.Common.{◌≡◌, ℕ, ◌+◌, ◌*◌, ◌/◌, ◌%◌, ◌^◌, ◌<◌, ◌≤◌, ◌-◌, inl, inr, ◌&&◌, ◌||◌, nat_eq, List, [], ◌∷◌, ◌++◌, filter, map, fold, refl, sym, ap, ◌∙◌, subst, arith, Bool, true, false, cond, IsTrue}
use Rattle.std.specs.List.{list_any, AllByRecursion}
use Rattle.std.proofs.lemmas.Bool.Decides.{nat_tests}
use Rattle.std.proofs.lemmas.List.Folds.{list_any-append}
use Rattle.paging_core.specs.Address.{is_canonical, IsCanonicalRange}
use Rattle.paging_core.specs.Prefix.{Prefix, prefix_of}
use Rattle.paging_core.proofs.Ranges.{same_number}
use Rattle.machine_model.specs.declared.region.Region.{Region}
use Rattle.machine_model.specs.State.{State, end_of_region}
use Rattle.machine_model.specs.Tables.{is_same, has_table}
use Rattle.machine_model.specs.Slots.{IsSlot, slot_number, slot_prefix, has_whole, is_whole_in, is_part_in, has_slot, AreDistinctSlots, AreAscending, IsSlotOf}
use Rattle.machine_model.specs.Place.{meets, meets_any, with_region, all_regions}
use Rattle.machine_model.specs.Answer.{settled}
use Rattle.machine_model.proofs.Booleans.{or_left, or_right, or_cases}
use Rattle.machine_model.proofs.Regions.{any_with, any_all, meets_true, page_canonical}
use Rattle.machine_model.proofs.Tables.{same_refl, same_is}

-- ---- one slot

-- canonical slots with equal numbers are one
pub same_slot : (one other : ℕ) → IsSlot one → IsSlot other → slot_number one ≡ slot_number other → one ≡ other
same_slot one other is_one is_other same =
    let first : one % 2 ^ 21 ≡ 0 = is_one.aligned in
    let second : other % 2 ^ 21 ≡ 0 = is_other.aligned in
    let one_page : one ≡ one / 4096 * 4096 = omega (arith, first) in
    let other_page : other ≡ other / 4096 * 4096 = omega (arith, second) in
    let low : one / 4096 % 2 ^ 36 ≡ other / 4096 % 2 ^ 36 = omega (arith, first, second, same) in
    let page : one / 4096 ≡ other / 4096 =
    same_number (one / 4096) (other / 4096) (subst (λ a. IsTrue (is_canonical a)) one_page is_one.canonical)
    (subst (λ a. IsTrue (is_canonical a)) other_page is_other.canonical) low in
    omega (arith, one_page, other_page, page)

-- the slot of a page, and its number
pub page_slot : (page : ℕ) → IsTrue (is_canonical (page * 4096)) → IsSlot (page / 512 * 2 ^ 21)
page_slot page canonical =
    let half : page / 512 * 2 ^ 21 / 2 ^ 47 ≡ page * 4096 / 2 ^ 47 = omega arith in
    record { aligned = omega arith; canonical = ap (λ q. nat_eq q 0 || nat_eq q (2 ^ 17 - 1)) half ∙ canonical }

pub page_number : (page : ℕ) → slot_number (page / 512 * 2 ^ 21) ≡ prefix_of page 3
page_number page = omega arith

-- a slot, by its count of 2 MiB, that lies whole in a range of pages
pub slot_among : (address pages count : ℕ) → address % 4096 ≡ 0 → IsCanonicalRange (address / 4096) pages →
    address / 4096 ≤ 512 * count → 512 * count + 512 ≤ address / 4096 + pages →
    IsSlotOf address pages (count * 2 ^ 21)
slot_among address pages count whole range from to =
    let page : address / 4096 + (512 * count - address / 4096) ≡ 512 * count = omega (arith, from) in
    let canonical : IsTrue (is_canonical (512 * count * 4096)) =
    subst (λ p. IsTrue (is_canonical (p * 4096))) page (page_canonical (address / 4096) pages (512 * count - address / 4096) range (omega (arith, from, to))) in
    let same : 512 * count * 4096 ≡ count * 2 ^ 21 = omega arith in
    record {
      is_slot = record { aligned = omega arith; canonical = subst (λ a. IsTrue (is_canonical a)) same canonical };
      from = omega (arith, whole, from);
      within = omega (arith, whole, to);
    }

-- ---- lists of slots

-- what holds of all holds of a listed one
pub slot_all : (P : ℕ → Type 0) (slots : List ℕ) (slot : ℕ) → AllByRecursion P slots → has_slot slots slot ≡ true → P slot
slot_all P [] slot all is = absurd (let no : false ≡ true = is in cc)
slot_all P (first ∷ rest) slot all is = elim (or_cases (nat_eq first slot) (has_slot rest slot) is) [
  | inl here ↦ (let same : first ≡ slot = grind (arith, nat_tests) in subst P same all.0)
  | inr later ↦ slot_all P rest slot all.1 later
]

-- what holds of each listed one holds of all
pub all_slots : (P : ℕ → Type 0) (slots : List ℕ) → ((slot : ℕ) → has_slot slots slot ≡ true → P slot) → AllByRecursion P slots
all_slots P [] each = tt
all_slots P (first ∷ rest) each =
    let same : nat_eq first first ≡ true = grind (arith, nat_tests) in (
      each first (or_left (nat_eq first first) (has_slot rest first) same),
      all_slots P rest (λ slot is. each slot (or_right (nat_eq first slot) (has_slot rest slot) is)),
    )

pub has_slot-append : (some more : List ℕ) (slot : ℕ) → has_slot (some ++ more) slot ≡ (has_slot some slot || has_slot more slot)
has_slot-append some more slot = list_any-append (λ one. nat_eq one slot) some more

-- of a filtered list those that pass are listed
pub has_slot-filter : (test : ℕ → Bool) (slots : List ℕ) (slot : ℕ) → has_slot (filter test slots) slot ≡ (has_slot slots slot && test slot)
has_slot-filter test [] slot = refl
has_slot-filter test (first ∷ rest) slot = go (test first) refl (nat_eq first slot) refl (has_slot-filter test rest slot)
  where
    go : (t : Bool) → test first ≡ t → (e : Bool) → nat_eq first slot ≡ e → has_slot (filter test rest) slot ≡ (has_slot rest slot && test slot) →
        has_slot (cond t (first ∷ filter test rest) (filter test rest)) slot ≡ ((nat_eq first slot || has_slot rest slot) && test slot)
    go true passes true same later = let one : first ≡ slot = grind (arith, nat_tests) in let here : test slot ≡ true =
        ap test (sym one) ∙ passes in rw (same, here) refl
    go true passes false other later = rw other later
    go false fails true same later =
        let one : first ≡ slot = grind (arith, nat_tests) in
        let here : test slot ≡ false = ap test (sym one) ∙ fails in
        later ∙ (none (has_slot rest slot) (test slot) here ∙ sym (rw same here))
      where
        none : (a b : Bool) → b ≡ false → (a && b) ≡ false
        none true b is = is
        none false b is = refl
    go false fails false other later = rw other later

-- all pass, or none does
pub filter_all : {X : Type 0} (test : X → Bool) (xs : List X) → AllByRecursion (λ x. test x ≡ true) xs → filter test xs ≡ xs
filter_all test [] all = refl
filter_all test (first ∷ rest) all = let here = all.0 in rw here (ap (λ xs. first ∷ xs) (filter_all test rest all.1))

pub filter_none : {X : Type 0} (test : X → Bool) (xs : List X) → AllByRecursion (λ x. test x ≡ false) xs → filter test xs ≡ []
filter_none test [] all = refl
filter_none test (first ∷ rest) all = let here = all.0 in rw here (filter_none test rest all.1)

-- what holds of both lists holds of the one after the other
pub all_append : (P : ℕ → Type 0) (some more : List ℕ) → AllByRecursion P some → AllByRecursion P more → AllByRecursion P (some ++ more)
all_append P [] more first second = second
all_append P (slot ∷ rest) more first second = (first.0, all_append P rest more first.1 second)

-- ---- no slot twice

-- a slot that is after all of these is none of them
none_later : (slot : ℕ) (slots : List ℕ) → AllByRecursion (λ later. slot < later) slots → has_slot slots slot ≡ false
none_later slot [] all = refl
none_later slot (first ∷ rest) all =
    let less : slot < first = all.0 in
    let other : nat_eq first slot ≡ false = grind (arith, nat_tests) in
    rw other (none_later slot rest all.1)

pub ascending_distinct : (slots : List ℕ) → AreAscending slots → AreDistinctSlots slots
ascending_distinct [] is = tt
ascending_distinct (slot ∷ rest) is = (none_later slot rest is.0, ascending_distinct rest is.1)

pub distinct_append : (some more : List ℕ) → AreDistinctSlots some → AreDistinctSlots more →
    ((slot : ℕ) → has_slot some slot ≡ true → has_slot more slot ≡ false) → AreDistinctSlots (some ++ more)
distinct_append [] more first second apart = second
distinct_append (slot ∷ rest) more first second apart =
    let same : nat_eq slot slot ≡ true = grind (arith, nat_tests) in
    let not_more : has_slot more slot ≡ false = apart slot (or_left (nat_eq slot slot) (has_slot rest slot) same) in
    let not_rest = first.0 in (
      has_slot-append rest more slot ∙ rw not_rest not_more,
      distinct_append rest more first.1 second (λ other is. apart other (or_right (nat_eq slot other) (has_slot rest other) is)),
    )

pub distinct_filter : (test : ℕ → Bool) (slots : List ℕ) → AreDistinctSlots slots → AreDistinctSlots (filter test slots)
distinct_filter test [] is = tt
distinct_filter test (slot ∷ rest) is = go (test slot) (distinct_filter test rest is.1)
  where
    go : (b : Bool) → AreDistinctSlots (filter test rest) → AreDistinctSlots
        (cond b (slot ∷ filter test rest) (filter test rest))
    go true later = (let gone = is.0 in has_slot-filter test rest slot ∙ rw gone refl, later)
    go false later = later

-- ---- prefixes of slots

-- the prefix of a listed slot is listed, and no other one
pub prefix_listed : (slots : List ℕ) (slot : ℕ) → has_slot slots slot ≡ true → has_table (map slot_prefix slots) (slot_prefix slot) ≡ true
prefix_listed [] slot is = absurd (let no : false ≡ true = is in cc)
prefix_listed (first ∷ rest) slot is = elim (or_cases (nat_eq first slot) (has_slot rest slot) is) [
  | inl here ↦ (let same : first ≡ slot = grind (arith, nat_tests) in
      or_left (is_same (slot_prefix slot) (slot_prefix first)) (has_table (map slot_prefix rest) (slot_prefix slot))
      (subst (λ (s : ℕ). is_same (slot_prefix slot) (slot_prefix s) ≡ true) (sym same) (same_refl (slot_prefix slot))))
  | inr later ↦ or_right (is_same (slot_prefix slot) (slot_prefix first)) (has_table (map slot_prefix rest) (slot_prefix slot)) (prefix_listed rest slot later)
]

pub listed_prefix : (slots : List ℕ) (p : Prefix) → has_table (map slot_prefix slots) p ≡ true →
    (slot : ℕ) × (has_slot slots slot ≡ true) × (p ≡ slot_prefix slot)
listed_prefix [] p is = absurd (let no : false ≡ true = is in cc)
listed_prefix (first ∷ rest) p is = elim (or_cases (is_same p (slot_prefix first)) (has_table (map slot_prefix rest) p) is) [
  | inl here ↦ (let same : nat_eq first first ≡ true = grind (arith, nat_tests) in
      (first, or_left (nat_eq first first) (has_slot rest first) same, same_is p (slot_prefix first) here))
  | inr later ↦ (let found = listed_prefix rest p later in (found.0, or_right (nat_eq first found.0) (has_slot rest found.0) found.1, found.2))
]

-- ---- slots in regions

pub whole_true : (slot : ℕ) (region : Region) → region.start ≤ slot → slot + 2 ^ 21 ≤ end_of_region region → has_whole slot region ≡ true
whole_true slot region from to = grind (arith, nat_tests)

pub whole_bounds : (slot : ℕ) (region : Region) → has_whole slot region ≡ true → (region.start ≤ slot) × (slot + 2 ^ 21 ≤ end_of_region region)
whole_bounds slot region is = grind (arith, nat_tests)

-- a region that has a slot whole meets pages that have an address of the slot
pub whole_meets : (address pages slot : ℕ) (regions : List Region) → address < slot + 2 ^ 21 →
    slot < address + 4096 * pages → is_whole_in regions slot ≡ true → meets_any address pages regions ≡ true
whole_meets address pages slot [] below above is = absurd (let no : false ≡ true = is in cc)
whole_meets address pages slot (region ∷ rest) below above is = elim (or_cases (has_whole slot region) (is_whole_in rest slot) is) [
  | inl here ↦ (let bounds = whole_bounds slot region here in
      or_left (meets address pages region) (meets_any address pages rest) (meets_true address pages region (omega (arith, bounds.1)) (omega (arith, bounds.0))))
  | inr later ↦ or_right (meets address pages region) (meets_any address pages rest) (whole_meets address pages slot rest below above later)
]

-- a test passes with one more region if it passes at the region or passed before
pub any_heap_more : (test : Region → Bool) (region : Region) (heap users : List Region) →
    list_any test (fold (λ list one. with_region one list) (with_region region heap) users) ≡ (test region || list_any test
    (fold (λ list one. with_region one list) heap users))
any_heap_more test region heap users =
    any_all test (with_region region heap) users
    ∙ (ap (λ b. b || list_any test users) (any_with test region heap) ∙ (turn (test region) (list_any test heap)
    (list_any test users) ∙ ap (λ b. test region || b) (sym (any_all test heap users))))
  where
    turn : (a b c : Bool) → ((a || b) || c) ≡ (a || (b || c))
    turn true b c = refl
    turn false b c = refl

pub any_users_more : (test : Region → Bool) (region : Region) (heap users : List Region) →
    list_any test (fold (λ list one. with_region one list) heap (with_region region users)) ≡ (test region || list_any test
    (fold (λ list one. with_region one list) heap users))
any_users_more test region heap users =
    any_all test heap (with_region region users)
    ∙ (ap (λ b. list_any test heap || b) (any_with test region users) ∙ (turn (test region) (list_any test heap)
    (list_any test users) ∙ ap (λ b. test region || b) (sym (any_all test heap users))))
  where
    turn : (a b c : Bool) → (b || (a || c)) ≡ (a || (b || c))
    turn true true c = refl
    turn true false c = refl
    turn false b c = refl

-- ---- slots that join

-- Slots of pages that meet no region join those that lie whole in regions: each lies whole in one, and none is twice.
pub slots_join : (address pages : ℕ) (regions : List Region) (large slots : List ℕ) → AreAscending slots →
    AllByRecursion (IsSlotOf address pages) slots → meets_any address pages regions ≡ false →
    AllByRecursion (λ slot. IsTrue (is_whole_in regions slot)) large → AreDistinctSlots large →
    AreDistinctSlots (large ++ slots)
slots_join address pages regions large slots ascending within clear whole distinct =
    distinct_append large slots distinct (ascending_distinct slots ascending) (λ slot is. apart slot is (has_slot slots slot) refl)
  where
    apart : (slot : ℕ) → has_slot large slot ≡ true → (b : Bool) → has_slot slots slot ≡ b → b ≡ false
    apart slot is false listed = refl
    apart slot is true listed = absurd (
        let of : IsSlotOf address pages slot = slot_all (IsSlotOf address pages) slots slot within listed in
        let from = of.from in
        let to = of.within in
        let met = whole_meets address pages slot regions (omega (arith, from)) (omega (arith, to))
        (slot_all (λ one. IsTrue (is_whole_in regions one)) large slot whole is) in
        cc)

-- slots of pages are slots, and so are some of them
pub slots_more : (address pages : ℕ) (large slots : List ℕ) → AllByRecursion IsSlot large →
    AllByRecursion (IsSlotOf address pages) slots → AllByRecursion IsSlot (large ++ slots)
slots_more address pages [] [] are within = tt
slots_more address pages [] (slot ∷ rest) are within = (within.0.is_slot, slots_more address pages [] rest are within.1)
slots_more address pages (slot ∷ large) slots are within = (are.0, slots_more address pages large slots are.1 within)

pub slots_fewer : (P : ℕ → Type 0) (test : ℕ → Bool) (slots : List ℕ) → AllByRecursion P slots → AllByRecursion P (filter test slots)
slots_fewer P test [] all = tt
slots_fewer P test (slot ∷ rest) all = go (test slot) (slots_fewer P test rest all.1)
  where
    go : (b : Bool) → AllByRecursion P (filter test rest) → AllByRecursion P (cond b (slot ∷ filter test rest) (filter test rest))
    go true later = (all.0, later)
    go false later = later

-- a region has the slots of its pages whole
pub slots_whole : (region : Region) (slots : List ℕ) → AllByRecursion (IsSlotOf region.start region.pages) slots →
    AllByRecursion (λ slot. has_whole slot region ≡ true) slots
slots_whole region [] within = tt
slots_whole region (slot ∷ rest) within = (
  let from = within.0.from in let to = within.0.within in
      whole_true slot region from to,
  slots_whole region rest within.1,
)

-- each slot still lies whole in a region if one joins, and so does each of its own
pub whole_still : (region : Region) (old new : List Region) (large slots : List ℕ) →
    ((test : Region → Bool) → list_any test new ≡ (test region || list_any test old)) →
    AllByRecursion (λ slot. IsTrue (is_whole_in old slot)) large → AllByRecursion (λ slot. has_whole slot region ≡ true)
    slots → AllByRecursion (λ slot. IsTrue (is_whole_in new slot)) (large ++ slots)
whole_still region old new [] [] joins whole here = tt
whole_still region old new [] (slot ∷ rest) joins whole here =
    (joins (has_whole slot) ∙ or_left (has_whole slot region) (is_whole_in old slot) here.0, whole_still region old new [] rest joins whole here.1)
whole_still region old new (slot ∷ rest) slots joins whole here =
    (joins (has_whole slot) ∙ or_right (has_whole slot region) (is_whole_in old slot) whole.0, whole_still region old new rest slots joins whole.1 here)

-- ---- what is large settles

-- If each slot lies whole in a region, all stay as they are.
pub settled_same : (s : State) → AllByRecursion (λ slot. IsTrue (is_whole_in (all_regions s) slot)) s.large → settled s ≡ s
settled_same s whole =
    let large : filter (is_whole_in (all_regions s)) s.large ≡ s.large = filter_all (is_whole_in (all_regions s)) s.large whole in
    let parts : filter (is_part_in (all_regions s)) s.large ≡ [] = filter_none (is_part_in (all_regions s)) s.large (no_part (all_regions s) s.large whole) in
    ap (λ gone. record s { tables = s.tables ++ map slot_prefix gone; large = filter (is_whole_in (all_regions s)) s.large }) parts
    ∙ (ap (λ tables. record s { tables = tables; large = filter (is_whole_in (all_regions s)) s.large }) (append_none s.tables)
    ∙ ap (λ slots. record s { large = slots }) large)
  where
    append_none : (xs : List Prefix) → xs ++ [] ≡ xs
    append_none [] = refl
    append_none (x ∷ xs) = ap (λ ys. x ∷ ys) (append_none xs)

    no_part : (regions : List Region) (slots : List ℕ) → AllByRecursion (λ slot. IsTrue (is_whole_in regions slot)) slots →
        AllByRecursion (λ slot. is_part_in regions slot ≡ false) slots
    no_part regions [] all = tt
    no_part regions (slot ∷ rest) all = (let here : is_whole_in regions slot ≡ true = all.0 in rw here refl, no_part regions rest all.1)

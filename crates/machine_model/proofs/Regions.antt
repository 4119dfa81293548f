-- Regions that join a sorted list.
use Rattle.std.proofs.Common.{◌≡◌, ℕ, ◌+◌, ◌*◌, ◌/◌, ◌%◌, ◌^◌, ◌<◌, ◌≤◌, ◌⊎◌, inl, inr, ◌||◌, nat_lt, nat_eq, List, [], ◌∷◌, ◌++◌, length, find, fold, refl, sym, ap, ◌∙◌, subst, ◌-◌, arith, Bool, true, false, cond, IsTrue, Some, None}
use Rattle.std.proofs.lemmas.Bool.Decides.{nat_tests}
use Rattle.std.specs.List.{list_any, AllByRecursion}
use Rattle.paging_core.specs.Address.{is_canonical, IsCanonicalRange}
use Rattle.machine_model.specs.declared.region.Region.{Region}
use Rattle.machine_model.specs.State.{end_of_region, is_within, total_pages}
use Rattle.machine_model.specs.Place.{meets, meets_any, with_region, is_at, without_region}
use Rattle.machine_model.specs.Run.{AreRegionsInOrder, IsWholePages}
use Rattle.machine_model.proofs.Booleans.{or_false, or_left, or_right, or_cases, or_swap, neither_or}

-- ---- one region

pub within : (address : ℕ) (region : Region) → region.start ≤ address → address < end_of_region region → is_within address region ≡ true
within address region above below = grind (arith, nat_tests)

pub within_bounds : (address : ℕ) (region : Region) → is_within address region ≡ true → (region.start ≤ address) × (address < end_of_region region)
within_bounds address region is = grind (arith, nat_tests)

pub not_within : (address : ℕ) (region : Region) → (address < region.start) ⊎ (end_of_region region ≤ address) → is_within address region ≡ false
not_within address region (inl before) = grind (arith, nat_tests)
not_within address region (inr behind) = grind (arith, nat_tests)

pub meets_true : (address pages : ℕ) (region : Region) → address < end_of_region region →
    region.start < address + 4096 * pages → meets address pages region ≡ true
meets_true address pages region above below = grind (arith, nat_tests)

pub meets_behind : (address pages : ℕ) (region : Region) → end_of_region region ≤ address →
    meets address pages region ≡ false
meets_behind address pages region above = grind (arith, nat_tests)

-- pages that meet no region lie beside it
pub beside : (address pages : ℕ) (region : Region) → meets address pages region ≡ false →
    (end_of_region region ≤ address) ⊎ (address + 4096 * pages ≤ region.start)
beside address pages region is = grind (arith, nat_tests)

-- ---- a list with one more

-- what holds of all holds with one more
pub all_with : (P : Region → Type 0) (region : Region) (list : List Region) → P region → AllByRecursion P list → AllByRecursion P (with_region region list)
all_with P region [] here all = (here, tt)
all_with P region (first ∷ rest) here all = go (nat_lt region.start first.start) (all_with P region rest here all.1)
  where
    go : (b : Bool) → AllByRecursion P (with_region region rest) → AllByRecursion P (cond b (region ∷ first ∷ rest) (first ∷ with_region region rest))
    go true later = (here, all)
    go false later = (all.0, later)

-- its pages are added
pub pages_with : (region : Region) (list : List Region) → total_pages (with_region region list) ≡ region.pages + total_pages list
pages_with region [] = refl
pages_with region (first ∷ rest) = go (nat_lt region.start first.start) (pages_with region rest)
  where
    go : (b : Bool) → total_pages (with_region region rest) ≡ region.pages + total_pages rest →
        total_pages (cond b (region ∷ first ∷ rest) (first ∷ with_region region rest)) ≡ region.pages + (first.pages + total_pages rest)
    go true later = refl
    go false later = omega arith

-- it has one region more
pub length_with : (region : Region) (list : List Region) → length (with_region region list) ≡ length list + 1
length_with region [] = refl
length_with region (first ∷ rest) = go (nat_lt region.start first.start) (length_with region rest)
  where
    go : (b : Bool) → length (with_region region rest) ≡ length rest + 1 →
        length (cond b (region ∷ first ∷ rest) (first ∷ with_region region rest)) ≡ length (first ∷ rest) + 1
    go true later = omega arith
    go false later = omega arith

-- a test passes in the longer list if it passes at the new one or in the list
pub any_with : (test : Region → Bool) (region : Region) (list : List Region) → list_any test (with_region region list) ≡ (test region || list_any test list)
any_with test region [] = refl
any_with test region (first ∷ rest) = go (nat_lt region.start first.start) (any_with test region rest)
  where
    go : (b : Bool) → list_any test (with_region region rest) ≡ (test region || list_any test rest) →
        list_any test (cond b (region ∷ first ∷ rest) (first ∷ with_region region rest)) ≡ (test region || (test first || list_any test rest))
    go true later = refl
    go false later = rw later (or_swap (test first) (test region) (list_any test rest))

-- a test passes in the joined lists if it passes in one of them
pub any_all : (test : Region → Bool) (heap users : List Region) →
    list_any test (fold (λ list region. with_region region list) heap users) ≡ (list_any test heap || list_any test users)
any_all test heap [] = sym (or_false (list_any test heap))
any_all test heap (first ∷ rest) =
    any_all test (with_region first heap) rest
    ∙ (ap (λ b. b || list_any test rest) (any_with test first heap) ∙ turn (test first) (list_any test heap) (list_any test rest))
  where
    turn : (a b c : Bool) → ((a || b) || c) ≡ (b || (a || c))
    turn true true c = refl
    turn true false c = refl
    turn false b c = refl

-- one that fails the test is passed over
pub find_without : (test : Region → Bool) (region : Region) (list more : List Region) → test region ≡ false →
    find test (with_region region list ++ more) ≡ find test (list ++ more)
find_without test region [] more fails = rw fails refl
find_without test region (first ∷ rest) more fails = go (nat_lt region.start first.start) (find_without test region rest more fails)
  where
    go : (b : Bool) → find test (with_region region rest ++ more) ≡ find test (rest ++ more) →
        find test (cond b (region ∷ first ∷ rest) (first ∷ with_region region rest) ++ more) ≡ cond (test first) (Some first) (find test (rest ++ more))
    go true later = rw fails refl
    go false later = rw later refl

-- the only one that passes is found
pub find_alone : (test : Region → Bool) (region : Region) (list more : List Region) → test region ≡ true → list_any test list ≡ false →
    find test (with_region region list ++ more) ≡ Some region
find_alone test region [] more passes none = rw passes refl
find_alone test region (first ∷ rest) more passes none = go (nat_lt region.start first.start) (find_alone test region rest more passes both.1)
  where
    both : (test first ≡ false) × (list_any test rest ≡ false)
    both = neither_or (test first) (list_any test rest) none

    go : (b : Bool) → find test (with_region region rest ++ more) ≡ Some region →
        find test (cond b (region ∷ first ∷ rest) (first ∷ with_region region rest) ++ more) ≡ Some region
    go true later = rw passes refl
    go false later = let e : test first ≡ false = both.0 in rw e later

pub later_starts : (end later_end : ℕ) (list : List Region) → end ≤ later_end →
    AllByRecursion (λ later. later_end ≤ later.start) list → AllByRecursion (λ later. end ≤ later.start) list
later_starts end later_end [] less all = tt
later_starts end later_end (first ∷ rest) less all = (omega (arith, all.0), later_starts end later_end rest less all.1)

-- the list stays sorted if the region meets none of it
pub in_order_with : (region : Region) (list : List Region) → 0 < region.pages → AreRegionsInOrder list →
    meets_any region.start region.pages list ≡ false → AreRegionsInOrder (with_region region list)
in_order_with region [] some order none_met = (tt, tt)
in_order_with region (first ∷ rest) some order none_met = go (nat_lt region.start first.start) refl (in_order_with region rest some order.1 both.1)
  where
    both : (meets region.start region.pages first ≡ false) × (meets_any region.start region.pages rest ≡ false)
    both = neither_or (meets region.start region.pages first) (meets_any region.start region.pages rest) none_met

    go : (b : Bool) → nat_lt region.start first.start ≡ b → AreRegionsInOrder (with_region region rest) →
        AreRegionsInOrder (cond b (region ∷ first ∷ rest) (first ∷ with_region region rest))
    go true sooner later =
        let less : region.start < first.start = grind (arith, nat_tests) in
        let end : end_of_region region ≤ first.start = elim (beside region.start region.pages first both.0)
        [ inl behind ↦ omega arith | inr before ↦ before ] in
        ((end, later_starts (end_of_region region) (end_of_region first) rest (omega arith) order.0), order)
    go false sooner later =
        let more : first.start ≤ region.start = grind (arith, nat_tests) in
        let end : end_of_region first ≤ region.start = elim (beside region.start region.pages first both.0)
        [ inl behind ↦ behind | inr before ↦ omega arith ] in
        (all_with (λ later. end_of_region first ≤ later.start) region rest end order.0, later)

-- an address of the pages lies in no region that they do not meet
pub none_within : (address pages at : ℕ) (list : List Region) → address ≤ at → at < address + 4096 * pages →
    meets_any address pages list ≡ false → list_any (is_within at) list ≡ false
none_within address pages at [] above below none = refl
none_within address pages at (first ∷ rest) above below none =
    let both : (meets address pages first ≡ false) × (meets_any address pages rest ≡ false) =
    neither_or (meets address pages first) (meets_any address pages rest) none in
    let here : is_within at first ≡ false = elim (beside address pages first both.0)
    [ inl behind ↦ not_within at first (inr (omega arith)) | inr before ↦ not_within at first (inl (omega arith)) ] in
    rw here (none_within address pages at rest above below both.1)

-- ---- two lists, one after the other

append_none : (xs : List Region) → xs ++ [] ≡ xs
append_none [] = refl
append_none (x ∷ xs) = ap (λ ys. x ∷ ys) (append_none xs)

-- the only one that passes is found in one list
pub find_only : (test : Region → Bool) (region : Region) (list : List Region) → test region ≡ true →
    list_any test list ≡ false → find test (with_region region list) ≡ Some region
find_only test region list passes none = ap (find test) (sym (append_none (with_region region list))) ∙ find_alone test region list [] passes none

-- and one that fails is passed over
pub find_past : (test : Region → Bool) (region : Region) (list : List Region) → test region ≡ false → find test (with_region region list) ≡ find test list
find_past test region list fails =
    ap (find test) (sym (append_none (with_region region list))) ∙ (find_without test region list [] fails ∙ ap (find test) (append_none list))

-- if none of the first list passes, the second one is searched
pub find_behind : (test : Region → Bool) (first second : List Region) → list_any test first ≡ false → find test (first ++ second) ≡ find test second
find_behind test [] second none = refl
find_behind test (region ∷ rest) second none =
    let both : (test region ≡ false) × (list_any test rest ≡ false) = neither_or (test region) (list_any test rest) none in
    rw both.0 (find_behind test rest second both.1)

-- what is found in the second one alone counts
pub find_same : (test : Region → Bool) (first old new : List Region) → find test new ≡ find test old → find test (first ++ new) ≡ find test (first ++ old)
find_same test [] old new same = same
find_same test (region ∷ rest) old new same = ap (λ later. cond (test region) (Some region) later) (find_same test rest old new same)

-- none is found if none passes
pub find_none : (test : Region → Bool) (list : List Region) → list_any test list ≡ false → find test list ≡ None
find_none test [] none = refl
find_none test (region ∷ rest) none =
    let both : (test region ≡ false) × (list_any test rest ≡ false) = neither_or (test region) (list_any test rest) none in
    rw both.0 (find_none test rest both.1)

-- ---- a list with one less

-- what holds of all holds with one less
pub all_without : (P : Region → Type 0) (start pages : ℕ) (list : List Region) → AllByRecursion P list → AllByRecursion P (without_region start pages list)
all_without P start pages [] all = tt
all_without P start pages (region ∷ rest) all = go (is_at start pages region) (all_without P start pages rest all.1)
  where
    go : (b : Bool) → AllByRecursion P (without_region start pages rest) → AllByRecursion P (cond b rest (region ∷ without_region start pages rest))
    go true later = all.1
    go false later = (all.0, later)

-- its pages are taken off
pub pages_without : (start pages : ℕ) (list : List Region) → list_any (is_at start pages) list ≡ true →
    total_pages (without_region start pages list) + pages ≡ total_pages list
pages_without start pages [] there = let no : false ≡ true = there in absurd (cc)
pages_without start pages (region ∷ rest) there = go (is_at start pages region) refl (pages_without start pages rest)
  where
    go : (b : Bool) → is_at start pages region ≡ b → (list_any (is_at start pages) rest ≡ true →
        total_pages (without_region start pages rest) + pages ≡ total_pages rest) →
        total_pages (without_region start pages (region ∷ rest)) + pages ≡ total_pages (region ∷ rest)
    go true is later = let same : region.pages ≡ pages = grind (arith, nat_tests) in rw is (omega arith)
    go false is later = let more = later (rw is at there) in rw is (omega arith)

-- the list stays sorted
pub in_order_without : (start pages : ℕ) (list : List Region) → AreRegionsInOrder list → AreRegionsInOrder (without_region start pages list)
in_order_without start pages [] order = tt
in_order_without start pages (region ∷ rest) order = go (is_at start pages region) (in_order_without start pages rest order.1)
  where
    go : (b : Bool) → AreRegionsInOrder (without_region start pages rest) → AreRegionsInOrder (cond b rest (region ∷ without_region start pages rest))
    go true later = order.1
    go false later = (all_without (λ later. end_of_region region ≤ later.start) start pages rest order.0, later)

-- what fails for the one that leaves is found as before
pub find_left : (test : Region → Bool) (start pages : ℕ) (list : List Region) → ((region : Region) → is_at start pages region ≡ true → test region ≡ false) →
    find test (without_region start pages list) ≡ find test list
find_left test start pages [] fails = refl
find_left test start pages (region ∷ rest) fails = go (is_at start pages region) refl (find_left test start pages rest fails)
  where
    go : (b : Bool) → is_at start pages region ≡ b → find test (without_region start pages rest) ≡ find test rest →
        find test (without_region start pages (region ∷ rest)) ≡ find test (region ∷ rest)
    go true is later = let no = fails region is in rw (is, no) refl
    go false is later = rw is (ap (λ o. cond (test region) (Some region) o) later)

-- what passes with one less passes
pub any_left : (test : Region → Bool) (start pages : ℕ) (list : List Region) →
    list_any test (without_region start pages list) ≡ true → list_any test list ≡ true
any_left test start pages [] is = is
any_left test start pages (region ∷ rest) is = go (is_at start pages region) is (any_left test start pages rest)
  where
    go : (b : Bool) → list_any test (cond b rest (region ∷ without_region start pages rest)) ≡ true →
        (list_any test (without_region start pages rest) ≡ true → list_any test rest ≡ true) →
        (test region || list_any test rest) ≡ true
    go true is later = or_right (test region) (list_any test rest) is
    go false is later = elim (or_cases (test region) (list_any test (without_region start pages rest)) is) [
      | inl here ↦ or_left (test region) (list_any test rest) here
      | inr there ↦ or_right (test region) (list_any test rest) (later there)
    ]

-- a listed one starts where all do, or after that
pub starts_behind : (start pages from : ℕ) (list : List Region) → AllByRecursion (λ later. from ≤ later.start) list →
    list_any (is_at start pages) list ≡ true → from ≤ start
starts_behind start pages from [] all there = let no : false ≡ true = there in absurd (cc)
starts_behind start pages from (region ∷ rest) all there = go (is_at start pages region) refl (starts_behind start pages from rest all.1)
  where
    go : (b : Bool) → is_at start pages region ≡ b → (list_any (is_at start pages) rest ≡ true → from ≤ start) → from ≤ start
    go true is later = let same : region.start ≡ start = grind (arith, nat_tests) in omega (arith, all.0)
    go false is later = later (rw is at there)

none_behind : (at from : ℕ) (list : List Region) → at < from → AllByRecursion (λ later. from ≤ later.start) list → list_any (is_within at) list ≡ false
none_behind at from [] less all = refl
none_behind at from (region ∷ rest) less all = let here = not_within at region (inl (omega (arith, all.0))) in rw here (none_behind at from rest less all.1)

-- an address of the one that leaves lies in no other
pub none_left : (start pages at : ℕ) (list : List Region) → AreRegionsInOrder list →
    list_any (is_at start pages) list ≡ true →
    start ≤ at → at < start + 4096 * pages →
    list_any (is_within at) (without_region start pages list) ≡ false
none_left start pages at [] order there above below = let no : false ≡ true = there in absurd (cc)
none_left start pages at (region ∷ rest) order there above below = go (is_at start pages region) refl (λ t. none_left start pages at rest order.1 t above below)
  where
    go : (b : Bool) → is_at start pages region ≡ b → (list_any (is_at start pages) rest ≡ true →
        list_any (is_within at) (without_region start pages rest) ≡ false) →
        list_any (is_within at) (without_region start pages (region ∷ rest)) ≡ false
    go true is later =
        let same : region.start ≡ start = grind (arith, nat_tests) in
        let long : region.pages ≡ pages = grind (arith, nat_tests) in
        rw is (none_behind at (end_of_region region) rest (omega arith) order.0)
    go false is later =
        let in_rest : list_any (is_at start pages) rest ≡ true = rw is at there in
        let end : end_of_region region ≤ start = starts_behind start pages (end_of_region region) rest order.0 in_rest in
        let here = not_within at region (inr (omega arith)) in
        rw (is, here) (later in_rest)

-- a listed region has what all have
pub listed : (P : Region → Type 0) (start pages : ℕ) (list : List Region) → AllByRecursion P list → list_any (is_at start pages) list ≡ true →
    (region : Region) × P region × (region.start ≡ start) × (region.pages ≡ pages)
listed P start pages [] all there = let no : false ≡ true = there in absurd (cc)
listed P start pages (region ∷ rest) all there = go (is_at start pages region) refl (listed P start pages rest all.1)
  where
    go : (b : Bool) → is_at start pages region ≡ b →
        (list_any (is_at start pages) rest ≡ true → (other : Region) × P other × (other.start ≡ start) × (other.pages ≡ pages)) →
        (other : Region) × P other × (other.start ≡ start) × (other.pages ≡ pages)
    go true is later = (region, all.0, grind (arith, nat_tests), grind (arith, nat_tests))
    go false is later = later (rw is at there)

-- ---- canonical addresses

-- each page of a canonical range is canonical
pub page_canonical : (first pages k : ℕ) → IsCanonicalRange first pages → k < pages → IsTrue (is_canonical ((first + k) * 4096))
page_canonical first pages k range less =
    let same : (first + k) * 4096 / 2 ^ 47 ≡ first * 4096 / 2 ^ 47 = (let h = range.one_half in omega arith) in
    ap (λ q. nat_eq q 0 || nat_eq q (2 ^ 17 - 1)) same ∙ range.canonical

-- the page of an address in whole regions is canonical
pub within_canonical : (P : Region → Type 0) → ((region : Region) → P region → IsWholePages region) → (at : ℕ) (list : List Region) → AllByRecursion P list →
    list_any (is_within at) list ≡ true → IsTrue (is_canonical (at / 4096 * 4096))
within_canonical P whole at [] all there = let no : false ≡ true = there in absurd (cc)
within_canonical P whole at (region ∷ rest) all there = go (is_within at region) refl (within_canonical P whole at rest all.1)
  where
    go : (b : Bool) → is_within at region ≡ b → (list_any (is_within at) rest ≡ true →
        IsTrue (is_canonical (at / 4096 * 4096))) → IsTrue (is_canonical (at / 4096 * 4096))
    go true is later =
        let w = whole region all.0 in
        let start : region.start % 4096 ≡ 0 = w.0 in
        let bounds = within_bounds at region is in
        let page : region.start / 4096 + (at / 4096 - region.start / 4096) ≡ at / 4096 = omega (arith, start, bounds.0) in
        subst (λ p. IsTrue (is_canonical (p * 4096))) page
        (page_canonical (region.start / 4096) region.pages (at / 4096 - region.start / 4096) w.1 (omega (arith, start, bounds.0, bounds.1)))
    go false is later = later (rw is at there)

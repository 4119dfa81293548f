-- The regions of the heap among those of the heap and of the user.
use Rattle.std.proofs.Common.{◌≡◌, ◌≢◌, ℕ, ◌+◌, ◌-◌, ◌*◌, ◌/◌, ◌^◌, ◌<◌, ◌≤◌, inl, inr, ◌||◌, ◌&&◌, not, nat_lt, nat_eq, List, [], ◌∷◌, map, fold, refl, sym, ap, ◌∙◌, arith, Bool, true, false, cond, IsTrue, IsSome}
use Rattle.std.specs.List.{list_any, AllByRecursion}
use Rattle.std.proofs.lemmas.Bool.Decides.{nat_tests}
use Rattle.paging_core.specs.Address.{is_canonical}
use Rattle.heap_memory.specs.declared.grant.Grant.{Grant}
use Rattle.heap_memory.specs.Regions.{is_granted, IsApart, with_grant}
use Rattle.machine_model.specs.declared.region.Region.{Region}
use Rattle.machine_model.specs.State.{State, end_of_region, is_within}
use Rattle.machine_model.specs.Place.{meets, meets_any, with_region, all_regions}
use Rattle.machine_model.specs.Room.{heap_region}
use Rattle.machine_model.specs.Run.{IsGood, IsHeapRegion, IsUserRegion}
use Rattle.machine_model.specs.Machine.{is_of_user}
use Rattle.machine_model.proofs.Booleans.{or_left, or_right, or_cases, neither_or}
use Rattle.machine_model.proofs.Regions.{within, within_bounds, beside}
use Rattle.mapped_regions.specs.Regions.{AreLaid, is_at, kind_at, without_region}
use Rattle.mapped_regions.proofs.AllRegions.{joined_all}
use Rattle.mapped_regions.specs.Mapped.{IsPageRange, IsRegion}
use Rattle.paged_systems.specs.Words.{heap_regions, grant_of}

-- ---- a byte of a region of the heap

-- it is granted where a region has it
pub granted_same : (list : List Region) (address : ℕ) → is_granted (map grant_of list) address ≡ list_any (is_within address) list
granted_same [] address = refl
granted_same (region ∷ rest) address = ap (λ b. is_within address region || b) (granted_same rest address)

-- some region has it
pub heap_any : (test : Region → Bool) (list : List Region) → list_any test (heap_regions list) ≡ true → list_any test list ≡ true
heap_any test [] is = is
heap_any test (first ∷ rest) is = go first.heap is (heap_any test rest)
  where
    go : (b : Bool) → list_any test (cond b (first ∷ heap_regions rest) (heap_regions rest)) ≡ true →
        (list_any test (heap_regions rest) ≡ true → list_any test rest ≡ true) → (test first || list_any test rest) ≡ true
    go true is later = elim (or_cases (test first) (list_any test (heap_regions rest)) is) [
      | inl here ↦ or_left (test first) (list_any test rest) here
      | inr behind ↦ or_right (test first) (list_any test rest) (later behind)
    ]
    go false is later = or_right (test first) (list_any test rest) (later is)

-- so does a byte of the user
pub user_any : (address : ℕ) (list : List Region) → is_of_user list address ≡ true → list_any (is_within address) list ≡ true
user_any address [] is = is
user_any address (first ∷ rest) is = go first.heap is (user_any address rest)
  where
    go : (b : Bool) → (not b && is_within address first || is_of_user rest address) ≡ true →
        (is_of_user rest address ≡ true → list_any (is_within address) rest ≡ true) →
        (is_within address first || list_any (is_within address) rest) ≡ true
    go true is later = or_right (is_within address first) (list_any (is_within address) rest) (later is)
    go false is later = elim (or_cases (is_within address first) (is_of_user rest address) is) [
      | inl here ↦ or_left (is_within address first) (list_any (is_within address) rest) here
      | inr behind ↦ or_right (is_within address first) (list_any (is_within address) rest) (later behind)
    ]

pub kind_some : (address : ℕ) (list : List Region) → list_any (is_within address) list ≡ true → IsSome (kind_at list address)
kind_some address [] is = absurd (cc)
kind_some address (first ∷ rest) is = go (is_within address first) refl (kind_some address rest)
  where
    go : (b : Bool) → is_within address first ≡ b → (list_any (is_within address) rest ≡ true →
        IsSome (kind_at rest address)) → IsSome (kind_at (first ∷ rest) address)
    go true here later = rw here refl
    go false here later = rw here (later (rw here at is))

-- its address is canonical
range_within : (start pages address : ℕ) → IsPageRange start pages → start ≤ address → address < start + 4096 * pages → IsTrue (is_canonical address)
range_within start pages address range from before =
    let whole = range.0 in
    let half = range.1.one_half in
    let same : address / 2 ^ 47 ≡ start / 4096 * 4096 / 2 ^ 47 = omega arith in
    ap (λ q. nat_eq q 0 || nat_eq q (2 ^ 17 - 1)) same ∙ range.1.canonical

pub within_canonical : (base window address : ℕ) (list : List Region) → AllByRecursion (IsRegion base window) list →
    list_any (is_within address) list ≡ true → IsTrue (is_canonical address)
within_canonical base window address [] all is = absurd (cc)
within_canonical base window address (first ∷ rest) all is = elim (or_cases (is_within address first) (list_any (is_within address) rest) is) [
  | inl here ↦ (let bounds = within_bounds address first here in range_within first.start first.pages address all.0.range bounds.0 bounds.1)
  | inr later ↦ within_canonical base window address rest all.1 later
]

-- every byte of its page is one of a region of the heap
pub same_page : (from to a b : ℕ) (list : List Region) → AreLaid from list to → a / 4096 ≡ b / 4096 →
    list_any (is_within a) (heap_regions list) ≡ true → list_any (is_within b) (heap_regions list) ≡ true
same_page from to a b [] laid same is = is
same_page from to a b (first ∷ rest) laid same is = go first.heap is (same_page (end_of_region first) to a b rest laid.3
    same)
  where
    here : is_within a first ≡ true → is_within b first ≡ true
    here is =
        let bounds = within_bounds a first is in
        let whole = laid.1 in
        within b first (omega (arith, bounds.0)) (omega (arith, bounds.1))

    go : (h : Bool) → list_any (is_within a) (cond h (first ∷ heap_regions rest) (heap_regions rest)) ≡ true →
        (list_any (is_within a) (heap_regions rest) ≡ true → list_any (is_within b) (heap_regions rest) ≡ true) →
        list_any (is_within b) (cond h (first ∷ heap_regions rest) (heap_regions rest)) ≡ true
    go true is later = elim (or_cases (is_within a first) (list_any (is_within a) (heap_regions rest)) is) [
      | inl at_first ↦ or_left (is_within b first) (list_any (is_within b) (heap_regions rest)) (here at_first)
      | inr behind ↦ or_right (is_within b first) (list_any (is_within b) (heap_regions rest)) (later behind)
    ]
    go false is later = later is

-- and none is of the user
any_from : (from to address : ℕ) (list : List Region) → AreLaid from list to → list_any (is_within address) list ≡ true → from ≤ address
any_from from to address [] laid is = absurd (cc)
any_from from to address (first ∷ rest) laid is = elim (or_cases (is_within address first) (list_any (is_within address) rest) is) [
  | inl here ↦ (let bounds = within_bounds address first here in omega (arith, laid.0, bounds.0))
  | inr later ↦ (let more = any_from (end_of_region first) to address rest laid.3 later in omega (arith, laid.0, more))
]

pub not_of_user : (from to a b : ℕ) (list : List Region) → AreLaid from list to → a / 4096 ≡ b / 4096 →
    list_any (is_within a) (heap_regions list) ≡ true → is_of_user list b ≡ true → ⊥
not_of_user from to a b [] laid same is user = absurd (cc)
not_of_user from to a b (first ∷ rest) laid same is user = go first.heap is user (not_of_user (end_of_region first) to a b rest laid.3 same)
  where
    -- the one in the first region, the other behind it
    apart : (x y : ℕ) → x / 4096 ≡ y / 4096 → is_within x first ≡ true → list_any (is_within y) rest ≡ true → ⊥
    apart x y page here behind =
        let bounds = within_bounds x first here in
        let more = any_from (end_of_region first) to y rest laid.3 behind in
        let whole = laid.1 in
        absurd (omega (arith, bounds.1, more))

    go : (h : Bool) → list_any (is_within a) (cond h (first ∷ heap_regions rest) (heap_regions rest)) ≡ true →
        (not h && is_within b first || is_of_user rest b) ≡ true →
        (list_any (is_within a) (heap_regions rest) ≡ true → is_of_user rest b ≡ true → ⊥) → ⊥
    go true is user later = elim (or_cases (is_within a first) (list_any (is_within a) (heap_regions rest)) is) [
      | inl here ↦ apart a b same here (user_any b rest user)
      | inr behind ↦ later behind user
    ]
    go false is user later = elim (or_cases (is_within b first) (is_of_user rest b) user) [
      | inl here ↦ apart b a (sym same) here (heap_any (is_within a) rest is)
      | inr behind ↦ later is behind
    ]

-- ---- pages that meet no region

pub apart_from : (address pages : ℕ) (list : List Region) → meets_any address pages list ≡ false →
    AllByRecursion (IsApart address (address + 4096 * pages)) (map grant_of (heap_regions list))
apart_from address pages [] clear = tt
apart_from address pages (first ∷ rest) clear =
    let both : (meets address pages first ≡ false) × (meets_any address pages rest ≡ false) =
    neither_or (meets address pages first) (meets_any address pages rest) clear in
    go first.heap both.0 (apart_from address pages rest both.1)
  where
    go : (b : Bool) → meets address pages first ≡ false → AllByRecursion (IsApart address (address + 4096 * pages)) (map grant_of (heap_regions rest)) →
        AllByRecursion (IsApart address (address + 4096 * pages)) (map grant_of (cond b (first ∷ heap_regions rest) (heap_regions rest)))
    go true here later = (beside address pages first here, later)
    go false here later = later

-- ---- a region joins

pub heap_first : (region : Region) (list : List Region) → region.heap ≡ true → heap_regions (region ∷ list) ≡ region ∷ heap_regions list
heap_first region list heap = ap (λ b. cond b (region ∷ heap_regions list) (heap_regions list)) heap

pub user_first : (region : Region) (list : List Region) → region.heap ≡ false → heap_regions (region ∷ list) ≡ heap_regions list
user_first region list user = ap (λ b. cond b (region ∷ heap_regions list) (heap_regions list)) user

-- one of the user changes nothing for the heap
pub heap_beside : (region : Region) (list : List Region) → region.heap ≡ false → heap_regions (with_region region list) ≡ heap_regions list
heap_beside region [] user = user_first region [] user
heap_beside region (first ∷ rest) user = go (nat_lt region.start first.start) (heap_beside region rest user)
  where
    go : (b : Bool) → heap_regions (with_region region rest) ≡ heap_regions rest →
        heap_regions (cond b (region ∷ first ∷ rest) (first ∷ with_region region rest)) ≡ heap_regions (first ∷ rest)
    go true later = user_first region (first ∷ rest) user
    go false later = ap (λ list. cond first.heap (first ∷ list) list) later

-- one of the heap joins those of the heap
first_of : (region : Region) (from to : ℕ) (list : List Region) → AreLaid from list to → region.start < from →
    with_region region (heap_regions list) ≡ region ∷ heap_regions list
first_of region from to [] laid less = refl
first_of region from to (first ∷ rest) laid less =
    let sooner : nat_lt region.start first.start ≡ true = grind (arith, nat_tests, less, laid.0) in
    go first.heap sooner (first_of region (end_of_region first) to rest laid.3 (omega (arith, less, laid.0)))
  where
    go : (b : Bool) → nat_lt region.start first.start ≡ true → with_region region (heap_regions rest) ≡ region ∷ heap_regions rest →
        with_region region (cond b (first ∷ heap_regions rest) (heap_regions rest)) ≡ region ∷ cond b (first ∷ heap_regions rest) (heap_regions rest)
    go true sooner later = rw sooner refl
    go false sooner later = later

pub heap_joined : (region : Region) (from to : ℕ) (list : List Region) → AreLaid from list to → region.heap ≡ true →
    heap_regions (with_region region list) ≡ with_region region (heap_regions list)
heap_joined region from to [] laid heap = heap_first region [] heap
heap_joined region from to (first ∷ rest) laid heap = go (nat_lt region.start first.start) refl (heap_joined region (end_of_region first) to rest laid.3 heap)
  where
    behind : (b : Bool) → nat_lt region.start first.start ≡ false → heap_regions (with_region region rest) ≡ with_region region (heap_regions rest) →
        cond b (first ∷ heap_regions (with_region region rest)) (heap_regions (with_region region rest)) ≡ with_region
        region (cond b (first ∷ heap_regions rest) (heap_regions rest))
    behind true test later = rw test (ap (λ list. first ∷ list) later)
    behind false test later = later

    before : (b : Bool) → nat_lt region.start first.start ≡ true → with_region region (heap_regions rest) ≡ region ∷ heap_regions rest →
        region ∷ cond b (first ∷ heap_regions rest) (heap_regions rest) ≡ with_region region (cond b (first ∷ heap_regions rest) (heap_regions rest))
    before true test later = rw test refl
    before false test later = sym later

    go : (b : Bool) → nat_lt region.start first.start ≡ b → heap_regions (with_region region rest) ≡ with_region region (heap_regions rest) →
        heap_regions (cond b (region ∷ first ∷ rest) (first ∷ with_region region rest)) ≡ with_region region (heap_regions (first ∷ rest))
    go true test later =
        let less : region.start < first.start = grind (arith, nat_tests) in
        heap_first region (first ∷ rest) heap ∙ (before first.heap test (first_of region (end_of_region first) to rest laid.3 (omega (arith, less))))
    go false test later = behind first.heap test later

-- as grants too
pub grants_joined : (region : Region) (list : List Region) → map grant_of (with_region region list) ≡ with_grant (grant_of region) (map grant_of list)
grants_joined region [] = refl
grants_joined region (first ∷ rest) = go (nat_lt region.start first.start) (grants_joined region rest)
  where
    go : (b : Bool) → map grant_of (with_region region rest) ≡ with_grant (grant_of region) (map grant_of rest) →
        map grant_of (cond b (region ∷ first ∷ rest) (first ∷ with_region region rest)) ≡ cond b
        (grant_of region ∷ grant_of first ∷ map grant_of rest) (grant_of first ∷ with_grant (grant_of region)
        (map grant_of rest))
    go true later = refl
    go false later = ap (λ (gs : List Grant). grant_of first ∷ gs) later

-- ---- a region leaves

-- one of the user that has just these pages begins behind what stands before
user_from : (start pages from to : ℕ) (list : List Region) → AreLaid from list to →
    list_any (λ region. not region.heap && is_at start pages region) list ≡ true → from ≤ start
user_from start pages from to [] laid there = absurd (cc)
user_from start pages from to (first ∷ rest) laid there = elim (or_cases (not first.heap && is_at start pages first)
    (list_any (λ region. not region.heap && is_at start pages region) rest) there) [
      | inl here ↦ (let begins = at_start first.heap here in omega (arith, laid.0, begins))
      | inr later ↦ (let more = user_from start pages (end_of_region first) to rest laid.3 later in
          omega (arith, laid.0, more))
    ]
  where
    at_start : (h : Bool) → (not h && is_at start pages first) ≡ true → first.start ≡ start
    at_start true is = absurd (cc)
    at_start false is = grind (arith, nat_tests)

-- it leaves nothing for the heap
pub heap_left : (start pages from to : ℕ) (list : List Region) → AreLaid from list to →
    list_any (λ region. not region.heap && is_at start pages region) list ≡ true →
    heap_regions (without_region start pages list) ≡ heap_regions list
heap_left start pages from to [] laid there = absurd (cc)
heap_left start pages from to (first ∷ rest) laid there = go (is_at start pages first) refl first.heap refl
    (heap_left start pages (end_of_region first) to rest laid.3)
  where
    later_there : (not first.heap && is_at start pages first) ≡ false → list_any (λ region. not region.heap && is_at start pages region) rest ≡ true
    later_there none = elim (or_cases (not first.heap && is_at start pages first)
        (list_any (λ region. not region.heap && is_at start pages region) rest) there) [
          | inl here ↦ absurd (cc)
          | inr later ↦ later
        ]

    neither : (b : Bool) → (not b && false) ≡ false
    neither true = refl
    neither false = refl

    go : (t : Bool) → is_at start pages first ≡ t → (h : Bool) → first.heap ≡ h →
        (list_any (λ region. not region.heap && is_at start pages region) rest ≡ true → heap_regions (without_region start pages rest) ≡ heap_regions rest) →
        heap_regions (cond t rest (first ∷ without_region start pages rest)) ≡ heap_regions (first ∷ rest)
    go true is false user rest_left = sym (user_first first rest user)
    go true is true heap rest_left =
        let later = later_there (ap (λ b. not b && is_at start pages first) heap) in
        let behind = user_from start pages (end_of_region first) to rest laid.3 later in
        let same : first.start ≡ start = grind (arith, nat_tests) in
        absurd (omega (arith, behind, same, laid.2))
    go false is h heap rest_left =
        let none : (not first.heap && is_at start pages first) ≡ false = ap (λ b. not first.heap && b) is ∙ neither first.heap in
        ap (λ list. cond first.heap (first ∷ list) list) (rest_left (later_there none))

-- ---- of the regions of a state

pub all_more : {A : Type 0} (P Q : A → Type 0) → ((a : A) → P a → Q a) → (list : List A) → AllByRecursion P list → AllByRecursion Q list
all_more P Q more [] all = tt
all_more P Q more (first ∷ rest) all = (more first all.0, all_more P Q more rest all.1)

none_but_heap : (list : List Region) → AllByRecursion (λ region. region.heap ≡ true) list → heap_regions list ≡ list
none_but_heap [] all = refl
none_but_heap (first ∷ rest) all = heap_first first rest all.0 ∙ ap (λ list. first ∷ list) (none_but_heap rest all.1)

of_all : (heap users : List Region) → AllByRecursion (λ region. region.heap ≡ false) users →
    heap_regions (fold (λ list region. with_region region list) heap users) ≡ heap_regions heap
of_all heap [] all = refl
of_all heap (user ∷ users) all = of_all (with_region user heap) users all.1 ∙ heap_beside user heap all.0

pub heap_of_all : (s : State) → IsGood s → heap_regions (all_regions s) ≡ s.heap
heap_of_all s good =
    of_all s.heap s.users (all_more (IsUserRegion s.heap) (λ region. region.heap ≡ false) (λ region is. is.0) s.users good.users)
    ∙ none_but_heap s.heap (all_more (IsHeapRegion s) (λ region. region.heap ≡ true) (λ region is. ap (λ (r : Region). r.heap) is.3) s.heap good.heap)

-- a grant that meets none of the user's begins where none of them does
others_begin : (heap : List Region) (address pages : ℕ) (users : List Region) → 0 < pages →
    AllByRecursion (IsUserRegion heap) users → meets_any address pages users ≡ false →
    AllByRecursion (λ user. user.start ≢ address) users
others_begin heap address pages [] some all clear = tt
others_begin heap address pages (first ∷ rest) some all clear =
    let both : (meets address pages first ≡ false) × (meets_any address pages rest ≡ false) =
    neither_or (meets address pages first) (meets_any address pages rest) clear in
    let more = all.0.1.1.some in (
      λ same. elim (beside address pages first both.0) [ inl before ↦ omega (arith, before, same, more) | inr behind ↦ omega (arith, behind, same, some) ],
      others_begin heap address pages rest some all.1 both.1,
    )

-- so it joins all regions as it joins the heap's
pub joined_state : (s : State) (address pages : ℕ) → IsGood s → 0 < pages → meets_any address pages s.users ≡ false →
    with_region (heap_region address pages) (all_regions s) ≡ fold (λ list region. with_region region list)
    (with_region (heap_region address pages) s.heap) s.users
joined_state s address pages good some clear = sym (joined_all (heap_region address pages) s.heap s.users
    (others_begin s.heap address pages s.users some good.users clear))

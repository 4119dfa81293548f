-- Whose an address is, by one half of the regions.
use Rattle.std.proofs.Common.{◌≡◌, ◌<◌, ◌≤◌, ℕ, zero, suc, ◌+◌, ◌-◌, ◌/◌, Bool, true, false, List, [], ◌∷◌, length, get_or, take, drop, refl, sym, ◌∙◌, ap, arith, add-one, length-drop, length-take-le, take_all}
use Rattle.std.specs.Prelude.{if◌then◌else◌}
use Rattle.std.specs.List.{AllByRecursion}
use Rattle.std.proofs.lemmas.Bool.Decides.{nat_tests}
use Rattle.heap_tables.specs.declared.owners.Owned.{Owned}
use Rattle.heap_tables.specs.declared.owners.Owner.{Owner}
use Rattle.heap_tables.specs.declared.owners.Owner.TheVariants.{Heap, User}
use Rattle.heap_tables.specs.Owners.{owned_end, has_address, owner_at, AreOwnedAscending}

-- what is taken for a region if there is none
abbrev pub none : Owned
none = record { start = 0; pages = 0; owner = Heap }

after_it : (address : ℕ) (region : Owned) → owned_end region ≤ address → has_address address region ≡ false
after_it address region past = grind (arith, nat_tests, past)

before_it : (address : ℕ) (region : Owned) → address < region.start → has_address address region ≡ false
before_it address region before = grind (arith, nat_tests, before)

in_it : (address : ℕ) (region : Owned) → region.start ≤ address → address < owned_end region → has_address address region ≡ true
in_it address region from to = grind (arith, nat_tests, from, to)

-- one of the regions that come after another begins after it
begins_after : (end : ℕ) (regions : List Owned) (i : ℕ) (d : Owned) → i < length regions →
    AllByRecursion (λ next. end ≤ next.start) regions → end ≤ (get_or regions i d).start
begins_after end [] i d within all = absurd (omega (arith, within))
begins_after end (region ∷ regions) zero d within all = all.0
begins_after end (region ∷ regions) (suc i) d within all = begins_after end regions i d (omega (arith, within)) all.1

-- an address after one of the regions is in none up to it
behind : (regions : List Owned) (i : ℕ) (d : Owned) (address : ℕ) → AreOwnedAscending regions → i < length regions →
    owned_end (get_or regions i d) ≤ address → owner_at regions address ≡ owner_at (drop (suc i) regions) address
behind [] i d address ascending within past = absurd (omega (arith, within))
behind (region ∷ regions) zero d address ascending within past =
    ap (λ (b : Bool). if b then region.owner else owner_at regions address) (after_it address region past)
behind (region ∷ regions) (suc i) d address ascending within past =
    let within' : i < length regions = omega (arith, within) in
    let begins = begins_after (owned_end region) regions i d within' ascending.0 in
    let before : owned_end region ≤ address = omega (arith, begins, past) in
    ap (λ (b : Bool). if b then region.owner else owner_at regions address) (after_it address region before)
    ∙ behind regions i d address ascending.1 within' past

pub owner_past : (regions : List Owned) (i : ℕ) (d : Owned) (address : ℕ) → AreOwnedAscending regions → i < length regions →
    owned_end (get_or regions i d) ≤ address → owner_at regions address ≡ owner_at (drop (i + 1) regions) address
owner_past regions i d address ascending within past =
    behind regions i d address ascending within past ∙ ap (λ (n : ℕ). owner_at (drop n regions) address) (sym (add-one i))

-- no region has an address before all of them
nowhere : (regions : List Owned) (address : ℕ) → AllByRecursion (λ (next : Owned). address < next.start) regions → owner_at regions address ≡ User
nowhere [] address all = refl
nowhere (region ∷ regions) address all = ap (λ (b : Bool). if b then region.owner else owner_at regions address)
    (before_it address region all.0) ∙ nowhere regions address all.1

all_after : (end address : ℕ) (regions : List Owned) → address < end →
    AllByRecursion (λ (next : Owned). end ≤ next.start) regions → AllByRecursion (λ (next : Owned). address < next.start)
    regions
all_after end address [] before all = tt
all_after end address (region ∷ regions) before all = (let first = all.0 in omega (arith, before, first), all_after end address regions before all.1)

-- an address before one of the regions is in none from it on
pub owner_before : (regions : List Owned) (i : ℕ) (d : Owned) (address : ℕ) → AreOwnedAscending regions →
    i < length regions →
    address < (get_or regions i d).start → owner_at regions address ≡ owner_at (take i regions) address
owner_before [] i d address ascending within before = absurd (omega (arith, within))
owner_before (region ∷ regions) zero d address ascending within before =
    let begins : address < owned_end region = omega (arith, before) in
    ap (λ (b : Bool). if b then region.owner else owner_at regions address) (before_it address region before)
    ∙ nowhere regions address (all_after (owned_end region) address regions begins ascending.0)
owner_before (region ∷ regions) (suc i) d address ascending within before =
    ap (λ (o : Owner). if has_address address region then region.owner else o) (owner_before regions i d address ascending.1 (omega (arith, within)) before)

-- an address in one of the regions is of its owner
pub owner_in : (regions : List Owned) (i : ℕ) (d : Owned) (address : ℕ) → AreOwnedAscending regions → i < length regions →
    (get_or regions i d).start ≤ address → address < owned_end (get_or regions i d) →
    owner_at regions address ≡ (get_or regions i d).owner
owner_in [] i d address ascending within from to = absurd (omega (arith, within))
owner_in (region ∷ regions) zero d address ascending within from to =
    ap (λ (b : Bool). if b then region.owner else owner_at regions address) (in_it address region from to)
owner_in (region ∷ regions) (suc i) d address ascending within from to =
    let within' : i < length regions = omega (arith, within) in
    let begins = begins_after (owned_end region) regions i d within' ascending.0 in
    let past : owned_end region ≤ address = omega (arith, begins, from) in
    ap (λ (b : Bool). if b then region.owner else owner_at regions address) (after_it address region past)
    ∙ owner_in regions i d address ascending.1 within' from to

-- both halves ascend
pub drop_ascends : (i : ℕ) (regions : List Owned) → AreOwnedAscending regions → AreOwnedAscending (drop i regions)
drop_ascends zero regions ascending = ascending
drop_ascends (suc i) [] ascending = tt
drop_ascends (suc i) (region ∷ regions) ascending = drop_ascends i regions ascending.1

front_all : (P : Owned → Type 0) (i : ℕ) (regions : List Owned) → AllByRecursion P regions → AllByRecursion P (take i regions)
front_all P zero regions all = tt
front_all P (suc i) [] all = tt
front_all P (suc i) (region ∷ regions) all = (all.0, front_all P i regions all.1)

pub take_ascends : (i : ℕ) (regions : List Owned) → AreOwnedAscending regions → AreOwnedAscending (take i regions)
take_ascends zero regions ascending = tt
take_ascends (suc i) [] ascending = tt
take_ascends (suc i) (region ∷ regions) ascending = (
  front_all (λ next. owned_end region ≤ next.start) i regions
      ascending.0,
  take_ascends i regions ascending.1,
)

-- ---- the halves at the middle

half_within : (regions : List Owned) → 0 < length regions → length regions / 2 < length regions
half_within regions some = omega (arith, some)

rest_is : (regions : List Owned) (i : ℕ) → take (length regions - i) (drop i regions) ≡ drop i regions
rest_is regions i = let long = length-drop i regions in take_all (length regions - i) (drop i regions) (omega (arith, long))

-- what is after the middle, and what is before it
abbrev pub upper : List Owned → List Owned
upper regions = take (length regions - (length regions / 2 + 1)) (drop (length regions / 2 + 1) regions)

abbrev pub lower : List Owned → List Owned
lower regions = take (length regions / 2) regions

pub upper_less : (regions : List Owned) → 0 < length regions → length (upper regions) < length regions
upper_less regions some =
    let same = ap length (rest_is regions (length regions / 2 + 1)) in
    let long = length-drop (length regions / 2 + 1) regions in
    omega (arith, same, long, some)

pub lower_less : (regions : List Owned) → 0 < length regions → length (lower regions) < length regions
lower_less regions some =
    let long = length-take-le (length regions / 2) regions (omega arith) in
    omega (arith, long, some)

pub upper_ascends : (regions : List Owned) → AreOwnedAscending regions → AreOwnedAscending (upper regions)
upper_ascends regions ascending =
    take_ascends (length regions - (length regions / 2 + 1)) (drop (length regions / 2 + 1) regions) (drop_ascends (length regions / 2 + 1) regions ascending)

pub lower_ascends : (regions : List Owned) → AreOwnedAscending regions → AreOwnedAscending (lower regions)
lower_ascends regions ascending = take_ascends (length regions / 2) regions ascending

pub owner_upper : (regions : List Owned) (address : ℕ) → AreOwnedAscending regions → 0 < length regions →
    owned_end (get_or regions (length regions / 2) none) ≤ address → owner_at (upper regions) address ≡ owner_at regions
    address
owner_upper regions address ascending some past =
    ap (λ (rs : List Owned). owner_at rs address) (rest_is regions (length regions / 2 + 1))
    ∙ sym (owner_past regions (length regions / 2) none address ascending (half_within regions some) past)

pub owner_lower : (regions : List Owned) (address : ℕ) → AreOwnedAscending regions → 0 < length regions →
    address < (get_or regions (length regions / 2) none).start → owner_at (lower regions) address ≡ owner_at regions address
owner_lower regions address ascending some before = sym (owner_before regions (length regions / 2) none address ascending (half_within regions some) before)

pub owner_middle : (regions : List Owned) (address : ℕ) → AreOwnedAscending regions → 0 < length regions →
    (get_or regions (length regions / 2) none).start ≤ address → address < owned_end
    (get_or regions (length regions / 2) none)
    →
    (get_or regions (length regions / 2) none).owner ≡ owner_at regions address
owner_middle regions address ascending some from to = sym (owner_in regions (length regions / 2) none address ascending (half_within regions some) from to)

-- Whose the pages of a machine are.
use Rattle.std.proofs.Common.{◌≡◌, ◌<◌, ◌≤◌, ℕ, ◌+◌, ◌-◌, ◌*◌, ◌/◌, ◌%◌, ◌^◌, Bool, true, false, ◌||◌, List, [], ◌∷◌, Option, Some, None, nat_eq, nat_lt, is_some, cond, refl, sym, ◌∙◌, ap, subst, arith}
use Rattle.std.specs.Prelude.{find, option_map, IsSome, if◌then◌else◌}
use Rattle.std.specs.List.{AllByRecursion}
use Rattle.std.proofs.lemmas.Bool.Decides.{nat_tests}
use Rattle.paging_core.specs.Address.{is_canonical}
use Rattle.paging_core.specs.declared.page_table.Rights.{Rights}
use Rattle.paging_core.specs.Walk.{Place, large_of, reach, walk_of}
use Rattle.machine_model.specs.declared.region.Region.{Region}
use Rattle.machine_model.specs.State.{is_within, end_of_region}
use Rattle.machine_model.specs.Slots.{slot_number, has_whole, is_whole_in}
use Rattle.machine_model.specs.Machine.{Paged, rights_of}
use Rattle.machine_model.proofs.Found.{rights_alike}
use Rattle.mapped_regions.specs.Regions.{AreLaid, kind_at}
use Rattle.paged_systems.specs.Layout.{IsPagedKept}
use Rattle.heap_tables.specs.declared.lines.Line.{Line}
use Rattle.heap_tables.specs.declared.owners.Owned.{Owned}
use Rattle.heap_tables.specs.declared.owners.Owner.{Owner}
use Rattle.heap_tables.specs.declared.owners.Owner.TheVariants.{Heap, User}
use Rattle.heap_tables.specs.Owners.{address_of, owner_at, AreOwnedAscending}
use Rattle.heap_tables.specs.Walked.{EachPageIsInItsLine, HaveOneOwner, IsOwned, IsWalked, place_in}
use Rattle.heap_picture.specs.Owners.{owned_by, owned_regions, lines_in, is_heap, IsOfOwner, EachPageHasItsOwner}

-- ---- regions ascend

begin_after : (low from to : ℕ) (regions : List Region) → low ≤ from → AreLaid from regions to →
    AllByRecursion (λ (next : Owned). low ≤ next.start) (owned_regions regions)
begin_after low from to [] before laid = tt
begin_after low from to (region ∷ regions) before laid =
    let here = laid.0 in (
      omega (arith, before, here),
      begin_after low (end_of_region region) to regions (omega (arith, before, here)) laid.3,
    )

pub laid_ascends : (from to : ℕ) (regions : List Region) → AreLaid from regions to →
    AreOwnedAscending (owned_regions regions)
laid_ascends from to [] laid = tt
laid_ascends from to (region ∷ regions) laid =
    let here : end_of_region region ≤ end_of_region region = omega arith in (
      begin_after (end_of_region region) (end_of_region region) to regions here laid.3,
      laid_ascends (end_of_region region) to regions laid.3,
    )

-- ---- an address in a region has its owner

heap_is : (heap : Bool) → heap ≡ is_heap (if heap then Heap else User)
heap_is true = refl
heap_is false = refl

owner_found : (regions : List Region) (at : ℕ) → IsSome (find (is_within at) regions) →
    option_map (λ (region : Region). region.heap) (find (is_within at) regions) ≡ Some
    (is_heap (owner_at (owned_regions regions) at))
owner_found [] at some = absurd (let wrong : false ≡ true = some in cc)
owner_found (r ∷ rs) at some = go (is_within at r) refl (owner_found rs at)
  where
    go : (b : Bool) → is_within at r ≡ b → (IsSome (find (is_within at) rs) →
        option_map (λ (region : Region). region.heap) (find (is_within at) rs) ≡ Some
        (is_heap (owner_at (owned_regions rs) at))) →
        option_map (λ (region : Region). region.heap) (find (is_within at) (r ∷ rs)) ≡ Some (is_heap (owner_at (owned_regions (r ∷ rs)) at))
    go true is rest =
        ap (λ (b : Bool). option_map (λ (region : Region). region.heap) (cond b (Some r) (find (is_within at) rs))) is
        ∙ ap (λ (b : Bool). Some b) (heap_is r.heap)
        ∙ sym (ap (λ (b : Bool). Some (is_heap (cond b (owned_by r).owner (owner_at (owned_regions rs) at)))) is)
    go false is rest =
        let some' = ap (λ (b : Bool). is_some (cond b (Some r) (find (is_within at) rs))) (sym is) ∙ some in
        ap (λ (b : Bool). option_map (λ (region : Region). region.heap) (cond b (Some r) (find (is_within at) rs))) is
        ∙ rest some'
        ∙ sym (ap (λ (b : Bool). Some (is_heap (cond b (owned_by r).owner (owner_at (owned_regions rs) at)))) is)

-- ---- the pages of a slot that lies whole in a region have one owner

whole_after : (from to slot : ℕ) (regions : List Region) → AreLaid from regions to → is_whole_in regions slot ≡ true → from ≤ slot
whole_after from to slot [] laid whole = absurd (let wrong : false ≡ true = whole in cc)
whole_after from to slot (r ∷ rs) laid whole = go (has_whole slot r) refl (whole_after (end_of_region r) to slot rs laid.3)
  where
    go : (b : Bool) → has_whole slot r ≡ b → (is_whole_in rs slot ≡ true → end_of_region r ≤ slot) → from ≤ slot
    go true is rest = let first = laid.0 in let begins : r.start ≤ slot = grind (arith, nat_tests, is) in omega (arith, first, begins)
    go false is rest =
        let first = laid.0 in
        let later = rest (ap (λ (b : Bool). b || is_whole_in rs slot) (sym is) ∙ whole) in
        omega (arith, first, later)

in_whole : (slot k : ℕ) (r : Region) → k < 2 ^ 21 → has_whole slot r ≡ true → is_within (slot + k) r ≡ true
in_whole slot k r low whole = grind (arith, nat_tests, low, whole)

not_before : (at : ℕ) (r : Region) → end_of_region r ≤ at → is_within at r ≡ false
not_before at r past = grind (arith, nat_tests, past)

one_owner : (from to slot k : ℕ) (regions : List Region) → k < 2 ^ 21 → AreLaid from regions to →
    is_whole_in regions slot ≡ true → owner_at (owned_regions regions) (slot + k) ≡ owner_at (owned_regions regions)
    (slot + 0)
one_owner from to slot k [] low laid whole = absurd (let wrong : false ≡ true = whole in cc)
one_owner from to slot k (r ∷ rs) low laid whole = go (has_whole slot r) refl
    (one_owner (end_of_region r) to slot k rs low laid.3)
  where
    both : (b : Bool) → is_within (slot + k) r ≡ b → is_within (slot + 0) r ≡ b →
        owner_at (owned_regions rs) (slot + k) ≡ owner_at (owned_regions rs) (slot + 0) →
        owner_at (owned_regions (r ∷ rs)) (slot + k) ≡ owner_at (owned_regions (r ∷ rs)) (slot + 0)
    both b one other rest =
        ap (λ (b : Bool). cond b (owned_by r).owner (owner_at (owned_regions rs) (slot + k))) one
        ∙ ap (λ (o : Owner). cond b (owned_by r).owner o) rest
        ∙ sym (ap (λ (b : Bool). cond b (owned_by r).owner (owner_at (owned_regions rs) (slot + 0))) other)

    in_first : is_within (slot + k) r ≡ true → is_within (slot + 0) r ≡ true →
        owner_at (owned_regions (r ∷ rs)) (slot + k) ≡ owner_at (owned_regions (r ∷ rs)) (slot + 0)
    in_first one other =
        ap (λ (b : Bool). cond b (owned_by r).owner (owner_at (owned_regions rs) (slot + k))) one
        ∙ sym (ap (λ (b : Bool). cond b (owned_by r).owner (owner_at (owned_regions rs) (slot + 0))) other)

    go : (b : Bool) → has_whole slot r ≡ b → (is_whole_in rs slot ≡ true → owner_at (owned_regions rs) (slot + k) ≡ owner_at (owned_regions rs) (slot + 0)) →
        owner_at (owned_regions (r ∷ rs)) (slot + k) ≡ owner_at (owned_regions (r ∷ rs)) (slot + 0)
    go true is rest = in_first (in_whole slot k r low is) (in_whole slot 0 r (omega arith) is)
    go false is rest =
        let whole' = ap (λ (b : Bool). b || is_whole_in rs slot) (sym is) ∙ whole in
        let later = whole_after (end_of_region r) to slot rs laid.3 whole' in
        both false (not_before (slot + k) r (omega (arith, later))) (not_before (slot + 0) r (omega (arith, later))) (rest whole')

-- ---- addresses of pages

low_half : (q : ℕ) → q < 1 → (nat_eq q 0 || nat_eq q (2 ^ 17 - 1)) ≡ true
low_half q low = grind (arith, nat_tests, low)

high_half : (q : ℕ) → q ≡ 2 ^ 17 - 1 → (nat_eq q 0 || nat_eq q (2 ^ 17 - 1)) ≡ true
high_half q is = grind (arith, nat_tests, is)

-- a canonical address where a page begins, with the low bits of its number
record IsAddressOf (page address : ℕ) : Type 0 where
  pub canonical : is_canonical address ≡ true
  pub whole : address % 4096 ≡ 0
  pub page_is : address / 4096 % 2 ^ 36 ≡ page % 2 ^ 36

address_is : (page : ℕ) → IsAddressOf page (address_of page)
address_is page = go (nat_lt (page % 2 ^ 36) (2 ^ 35)) refl
  where
    go : (b : Bool) → nat_lt (page % 2 ^ 36) (2 ^ 35) ≡ b → IsAddressOf page (cond b (page % 2 ^ 36 * 4096) (page % 2 ^ 36 * 4096 + (2 ^ 64 - 2 ^ 48)))
    go true is =
        let low : page % 2 ^ 36 < 2 ^ 35 = grind (arith, nat_tests, is) in
        record {
          canonical = low_half (page % 2 ^ 36 * 4096 / 2 ^ 47) (omega (arith, low));
          whole = omega arith;
          page_is = omega (arith, low);
        }
    go false is =
        let high : 2 ^ 35 ≤ page % 2 ^ 36 = grind (arith, nat_tests, is) in
        record {
          canonical = high_half ((page % 2 ^ 36 * 4096 + (2 ^ 64 - 2 ^ 48)) / 2 ^ 47) (omega (arith, high));
          whole = omega arith;
          page_is = omega (arith, high);
        }

address_low : (page : ℕ) → page < 2 ^ 35 → address_of page ≡ 4096 * page
address_low page low =
    let is : nat_lt (page % 2 ^ 36) (2 ^ 35) ≡ true = grind (arith, nat_tests, low) in
    ap (λ (b : Bool). cond b (page % 2 ^ 36 * 4096) (page % 2 ^ 36 * 4096 + (2 ^ 64 - 2 ^ 48))) is ∙ omega (arith, low)

address_high : (page : ℕ) → 2 ^ 35 ≤ page → page < 2 ^ 36 → address_of page ≡ 4096 * page + (2 ^ 64 - 2 ^ 48)
address_high page high low =
    let is : nat_lt (page % 2 ^ 36) (2 ^ 35) ≡ false = grind (arith, nat_tests, high, low) in
    ap (λ (b : Bool). cond b (page % 2 ^ 36 * 4096) (page % 2 ^ 36 * 4096 + (2 ^ 64 - 2 ^ 48))) is ∙ omega (arith, low)

-- a slot goes by its number: its address, and those of its pages from there on
record IsSlotAt (number slot : ℕ) : Type 0 where
  pub aligned : slot % 2 ^ 21 ≡ 0
  pub pages : (index : ℕ) → index < 512 → address_of (512 * number + index) ≡ slot + 4096 * index

slot_at : (number : ℕ) → number < 2 ^ 27 → IsSlotAt number (address_of (512 * number))
slot_at number few = go (nat_lt number (2 ^ 26)) refl
  where
    go : (b : Bool) → nat_lt number (2 ^ 26) ≡ b → IsSlotAt number (address_of (512 * number))
    go true is =
        let low : number < 2 ^ 26 = grind (arith, nat_tests, is) in
        let first : address_of (512 * number) ≡ 4096 * (512 * number) = address_low (512 * number) (omega (arith, low)) in
        record {
          aligned = ap (λ (a : ℕ). a % 2 ^ 21) first ∙ omega arith;
          pages = λ index within.
              address_low (512 * number + index) (omega (arith, low, within))
              ∙ (let sum : 4096 * (512 * number + index) ≡ 4096 * (512 * number) + 4096 * index = omega arith in sum)
              ∙ ap (λ (a : ℕ). a + 4096 * index) (sym first);
        }
    go false is =
        let high : 2 ^ 26 ≤ number = grind (arith, nat_tests, is) in
        let first : address_of (512 * number) ≡ 4096 * (512 * number) + (2 ^ 64 - 2 ^ 48) =
        address_high (512 * number) (omega (arith, high)) (omega (arith, few)) in
        record {
          aligned = ap (λ (a : ℕ). a % 2 ^ 21) first ∙ omega arith;
          pages = λ index within.
              address_high (512 * number + index) (omega (arith, high)) (omega (arith, few, within))
              ∙ (let sum : 4096 * (512 * number + index) + (2 ^ 64 - 2 ^ 48) ≡ 4096 * (512 * number) + (2 ^ 64 - 2 ^ 48) + 4096 * index = omega arith in sum)
              ∙ ap (λ (a : ℕ). a + 4096 * index) (sym first);
        }

slot_number_is : (number : ℕ) → number < 2 ^ 27 → slot_number (address_of (512 * number)) ≡ number
slot_number_is number few =
    let is = address_is (512 * number) in
    ap (λ (n : ℕ). n / 512) is.page_is ∙ omega (arith, few)

-- ---- what the lines say

none_more : (n : ℕ) → n + 0 ≡ n
none_more n = omega arith

-- a large page lies whole in a region
one_owner_each : (p : Paged) → IsPagedKept p → HaveOneOwner p.words (owned_regions p.regions) p.root
one_owner_each p kept number index few within some =
    let slot = address_of (512 * number) in
    let at = slot_at number few in
    let is = address_is (512 * number) in
    let met = subst (λ (n : ℕ). IsSome (large_of p.words p.root n)) (sym (slot_number_is number few)) some in
    let whole = kept.mapped.larges slot (record { aligned = at.aligned; canonical = is.canonical }) met in
    ap (owner_at (owned_regions p.regions)) (at.pages index within)
    ∙ one_owner 0 (2 ^ 64) slot (4096 * index) p.regions (omega (arith, within)) kept.laid whole
    ∙ ap (owner_at (owned_regions p.regions)) (none_more slot)

-- the walk of a page goes by the low bits of its number
walk_alike : (words : List ℕ) (root one other : ℕ) → one % 2 ^ 36 ≡ other % 2 ^ 36 → walk_of words root one ≡ walk_of words root other
unfolding walk_of
walk_alike words root one other same = ap (reach words root 4) same

some_region : (o : Option Region) (rights : Rights) → Some rights ≡ option_map (λ (kind : Bool × Rights). kind.1)
    (option_map (λ (region : Region). (region.heap, region.rights)) o) → IsSome o
some_region None rights is = absurd (let wrong : Some rights ≡ None = is in cc)
some_region (Some region) rights is = refl

-- a page that is mapped lies in a region
page_found : (p : Paged) (page at : ℕ) (place : Place) → IsPagedKept p → IsAddressOf page at →
    walk_of p.words p.root page ≡ Some place → IsSome (find (is_within at) p.regions)
page_found p page at place kept is met =
    let whole = is.whole in
    let here : 4096 * (at / 4096) ≡ at = omega (arith, whole) in
    let there : at / 4096 * 4096 ≡ at = omega (arith, whole) in
    let walk = walk_alike p.words p.root (at / 4096) page is.page_is ∙ met in
    let found = kept.mapped.found (at / 4096) (ap is_canonical there ∙ is.canonical) in
    let rights = rights_alike (λ (kind : Bool × Rights). kind.1) (walk_of p.words p.root (at / 4096)) (kind_at p.regions (4096 * (at / 4096))) found in
    some_region (find (is_within at) p.regions) (rights_of place)
    (sym (ap (option_map rights_of) walk) ∙ rights ∙ ap (λ (a : ℕ). option_map (λ (kind : Bool × Rights). kind.1) (kind_at p.regions a)) here)

owner_said : (p : Paged) (line : Line) → IsPagedKept p → IsWalked p.words p.root line → IsOwned (owned_regions p.regions) line → IsOfOwner p.regions line
owner_said p line kept walked owned page from to =
    owner_found p.regions (address_of page) (page_found p page (address_of page) (place_in line page) kept (address_is page) (walked page from to))
    ∙ ap (λ (o : Owner). Some (is_heap o)) (owned page from to)

all_said : (p : Paged) (lines : List Line) → IsPagedKept p → AllByRecursion (IsWalked p.words p.root) lines →
    AllByRecursion (IsOwned (owned_regions p.regions)) lines → AllByRecursion (IsOfOwner p.regions) lines
all_said p [] kept walked owned = tt
all_said p (line ∷ lines) kept walked owned = (owner_said p line kept walked.0 owned.0, all_said p lines kept walked.1 owned.1)

pub each_has_its_owner : EachPageIsInItsLine → EachPageHasItsOwner
each_has_its_owner law p kept =
    let lines = law p.words (owned_regions p.regions) p.root in
    all_said p (lines_in p) kept lines.walked.said (lines.owned (one_owner_each p kept))

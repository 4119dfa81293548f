-- The regions of a paged system that are cut: what stays, one cut after another.
use Rattle.std.proofs.Common.{◌≡◌, ℕ, ◌+◌, ◌-◌, ◌*◌, ◌/◌, ◌%◌, ◌^◌, ◌<◌, ◌≤◌, inl, inr, ◌&&◌, ◌||◌, Bool, true, false, cond, not, nat_lt, List, [], ◌∷◌, length, refl, sym, ap, ◌∙◌, subst, arith, IsTrue, IsSome, Option, Some, None}
use Rattle.std.specs.Prelude.{if◌then◌else◌}
use Rattle.std.specs.List.{AllByRecursion, list_any, filter}
use Rattle.std.proofs.lemmas.Bool.{cases_lt}
use Rattle.std.proofs.lemmas.Bool.Decides.{nat_tests}
use Rattle.paging_core.specs.Address.{is_canonical}
use Rattle.paging_core.specs.Walk.{Place, reach, large_of, walk_of, reached}
use Rattle.machine_model.specs.declared.region.Region.{Region}
use Rattle.machine_model.specs.State.{end_of_region, is_within}
use Rattle.machine_model.specs.Place.{meets}
use Rattle.machine_model.specs.Slots.{IsSlot, slot_number}
use Rattle.machine_model.specs.Cut.{AreCut}
use Rattle.machine_model.specs.Machine.{Paged, OnlyHeapBytesChange, is_of_user}
use Rattle.machine_model.proofs.Cut.{none_cut, cut_on}
use Rattle.machine_model.proofs.Settled.{cut_slots}
use Rattle.mapped_regions.specs.Regions.{AreLaid, cut_regions}

-- the regions of the user among these
abbrev pub user_regions : List Region → List Region
user_regions regions = filter (λ region. not region.heap) regions

module _ (low pages : ℕ) (aligned : low % 4096 ≡ 0) where
  pub cut_are : (from to : ℕ) (regions : List Region) → AreLaid from regions to → AreCut regions (cut_regions low pages regions)
  cut_are from to [] laid = refl
  cut_are from to (region ∷ rest) laid = go (meets low pages region) (nat_lt region.start low) refl refl (cut_are (end_of_region region) to rest laid.3)
    where
      go : (met before : Bool) → meets low pages region ≡ met → nat_lt region.start low ≡ before → AreCut rest (cut_regions low pages rest) →
          AreCut (region ∷ rest) (if met then (if before then record region {
            pages =
                (low - region.start) / 4096;
          } ∷ cut_regions
          low pages rest else cut_regions low pages rest) else region ∷ cut_regions low pages rest)
      go false before met test later = inr (region, cut_regions low pages rest, inl refl, refl, later)
      go true false met test later = inl later
      go true true met test later =
          let less : region.start < low = grind (arith, nat_tests) in
          let inside : low < end_of_region region = grind (arith, nat_tests) in
          let at_page = laid.1 in
          inr (record region { pages = (low - region.start) / 4096 }, cut_regions low pages rest, inr (omega arith, omega arith, refl), refl, later)

-- pages of which no address is the user's meet none of the user's regions
pub users_apart : (low pages from to : ℕ) (regions : List Region) → AreLaid from regions to → 0 < pages →
    ((address : ℕ) → low ≤ address → address < low + 4096 * pages → AllByRecursion (λ region. region.heap ≡ false → is_within address region ≡ false) regions) →
    AllByRecursion (λ region. region.heap ≡ false → meets low pages region ≡ false) regions
users_apart low pages from to [] laid more none = tt
users_apart low pages from to (region ∷ rest) laid more none = (
  λ user. apart user (meets low pages region) refl,
  users_apart low pages (end_of_region region) to rest laid.3 more (λ address low_is high_is.
      (none address low_is high_is).1),
)
  where
    apart : region.heap ≡ false → (met : Bool) → meets low pages region ≡ met → meets low pages region ≡ false
    apart user false is = is
    apart user true is = absurd (elim (cases_lt region.start low) [
      | inl before ↦ (
          let high : low < end_of_region region = grind (arith, nat_tests) in
          let some : region.start < low + 4096 * pages = grind (arith, nat_tests) in
          let out : is_within low region ≡ false = (none low (omega arith) (omega arith)).0 user in
          let in_it : is_within low region ≡ true = grind (arith, nat_tests) in
          cc)
      | inr behind ↦ (
          let some : region.start < low + 4096 * pages = grind (arith, nat_tests) in
          let high : low < end_of_region region = grind (arith, nat_tests) in
          let out : is_within region.start region ≡ false = (none region.start (omega arith) some).0 user in
          let pages_are = laid.2 in
          let in_it : is_within region.start region ≡ true = grind (arith, nat_tests) in
          cc)
    ])

not_not : (b : Bool) → not b ≡ true → b ≡ false
not_not false is = refl
not_not true is = absurd (cc)

pub users_stay : (low pages : ℕ) (regions : List Region) → AllByRecursion (λ region. region.heap ≡ false → meets low pages region ≡ false) regions →
    user_regions (cut_regions low pages regions) ≡ user_regions regions
users_stay low pages [] apart = refl
users_stay low pages (region ∷ rest) apart = go (not region.heap) refl (users_stay low pages rest apart.1)
  where
    -- what a cut makes of a region of the heap is no region of the user
    own : (met before : Bool) → not region.heap ≡ false →
        user_regions (if met then (if before then record region { pages = (low - region.start) / 4096 } ∷ cut_regions low
        pages
        rest else cut_regions low pages rest) else region ∷ cut_regions low pages rest)
        ≡ user_regions (cut_regions low pages rest)
    own true true heap = ap (λ (b : Bool). cond b (record region { pages = (low - region.start) / 4096 } ∷ user_regions
        (cut_regions low pages rest)) (user_regions (cut_regions low pages rest))) heap
    own true false heap = refl
    own false before heap = ap (λ (b : Bool). cond b (region ∷ user_regions (cut_regions low pages rest)) (user_regions (cut_regions low pages rest))) heap

    go : (user : Bool) → not region.heap ≡ user → user_regions (cut_regions low pages rest) ≡ user_regions rest →
        user_regions (cut_regions low pages (region ∷ rest)) ≡ user_regions (region ∷ rest)
    go false heap later = own (meets low pages region) (nat_lt region.start low) heap
        ∙ (later ∙ sym (ap (λ (b : Bool). cond b (region ∷ user_regions rest) (user_regions rest)) heap))
    go true user later =
        let out : meets low pages region ≡ false = apart.0 (not_not region.heap user) in
        ap (λ (met : Bool). user_regions (if met then (if nat_lt region.start low
        then record region { pages = (low - region.start) / 4096 } ∷ cut_regions low pages rest else cut_regions low pages
        rest)
        else region ∷ cut_regions low pages rest)) out
        ∙ ap (λ (rs : List Region). cond (not region.heap) (region ∷ rs) rs) later

-- a byte is the user's where a region of the user has it
user_same : (address : ℕ) (regions : List Region) → is_of_user regions address ≡ list_any (is_within address) (user_regions regions)
user_same address [] = refl
user_same address (region ∷ rest) = go region.heap (user_same address rest)
  where
    go : (heap : Bool) → is_of_user rest address ≡ list_any (is_within address) (user_regions rest) →
        (not heap && is_within address region || is_of_user rest address) ≡ list_any (is_within address)
        (cond (not heap) (region ∷ user_regions rest) (user_regions rest))
    go true later = later
    go false later = ap (λ (b : Bool). is_within address region || b) later

-- What stays where runs are given back, and how the regions are cut: every table, every page of the user with its frame,
-- and every byte of the user. One slot that was mapped by one entry may have been cut, and has a table then.
pub record AreShortened (old new : Paged) (slot : Option ℕ) : Type 0 where
  pub base : new.base ≡ old.base
  pub pages_is : new.pages ≡ old.pages
  pub root : new.root ≡ old.root
  pub tables : new.tables ≡ old.tables + length (cut_slots slot)
  pub joins : new.joins ≡ old.joins
  pub slots : new.slots ≡ old.slots
  pub laid : AreLaid 0 new.regions (2 ^ 64)
  pub cut : AreCut old.regions new.regions
  pub users : user_regions new.regions ≡ user_regions old.regions
  pub size : length new.words ≡ length old.words
  pub walks :
      (level number : ℕ) → level < 4 → ((one : ℕ) → slot ≡ Some one → level ≡ 3 → number ≡ slot_number one → ⊥) →
      reach new.words new.root level number ≡ reach old.words old.root level number
  pub table : (one : ℕ) → slot ≡ Some one → IsSome (reach new.words new.root 3 (slot_number one))
  pub was_large : (one : ℕ) → slot ≡ Some one → IsSlot one × IsSome (large_of old.words old.root (slot_number one))
  -- no large page comes, and no page; of a large page that leaves a page is unmapped
  pub larges : (number : ℕ) → number < 2 ^ 27 → IsSome (large_of new.words new.root number) → IsSome (large_of old.words old.root number)
  pub large_gone :
      (number : ℕ) → number < 2 ^ 27 → IsSome (large_of old.words old.root number) → large_of new.words new.root number ≡ None →
      (k : ℕ) × (k < 512) × (reach new.words new.root 4 (512 * number + k) ≡ None)
  pub pages_go : (number : ℕ) → reach old.words old.root 4 number ≡ None → reach new.words new.root 4 number ≡ None
  pub user_pages :
      (address : ℕ) → IsTrue (is_canonical address) → is_of_user old.regions address ≡ true →
      walk_of new.words new.root (address / 4096) ≡ walk_of old.words old.root (address / 4096)
  pub user_bytes :
      (address : ℕ) → IsTrue (is_canonical address) → is_of_user old.regions address ≡ true → IsSome (walk_of old.words old.root (address / 4096)) →
      reached new.words new.root address ≡ reached old.words old.root address

pub some_not_none : {A : Type 0} (o : Option A) → IsSome o → o ≡ None → ⊥
some_not_none None is none = absurd (cc)
some_not_none (Some x) is none = cc

still_shortened : (p : Paged) (words : List ℕ) → AreLaid 0 p.regions (2 ^ 64) →
    OnlyHeapBytesChange p (record p { words = words }) → AreShortened p (record p { words = words }) None
unfolding walk_of
still_shortened p words laid still = record {
  base = refl;
  pages_is = refl;
  root = refl;
  tables = omega arith;
  joins = refl;
  slots = refl;
  laid = laid;
  cut = none_cut p.regions;
  users = refl;
  size = still.size;
  walks = λ level number low other. still.walks level number (omega (arith, low));
  table = λ one is. absurd (cc);
  was_large = λ one is. absurd (cc);
  larges = λ number small is. subst IsSome (still.larges number) is;
  large_gone = λ number small is gone. absurd (some_not_none (large_of p.words p.root number) is (sym (still.larges number) ∙ gone));
  pages_go = λ number none. still.walks 4 number (omega arith) ∙ none;
  user_pages = λ address canonical user. still.walks 4 (address / 4096 % 2 ^ 36) (omega arith);
  user_bytes = λ address canonical user some. still.users address user;
}

-- with no event
pub shortened_still : (old new : Paged) → AreLaid 0 old.regions (2 ^ 64) → OnlyHeapBytesChange old new → AreShortened old new None
shortened_still old new laid still = subst (λ (p : Paged). AreShortened old p None) (sym still.others)
    (still_shortened old new.words laid (subst (OnlyHeapBytesChange old) still.others still))

-- what was cut in the first time, or in the second
module _ (x y z : Paged) (second_slot : Option ℕ) (first : AreShortened x y None) (second : AreShortened y z second_slot) where
  still_user : (address : ℕ) → is_of_user x.regions address ≡ true → is_of_user y.regions address ≡ true
  still_user address user = user_same address y.regions ∙ (ap (list_any (is_within address)) first.users ∙ (sym (user_same address x.regions) ∙ user))

  walks_first : (level number : ℕ) → level < 4 → reach y.words y.root level number ≡ reach x.words x.root level number
  walks_first level number low = first.walks level number low (λ one is. absurd (let no : None ≡ Some one = is in cc))

  pub shortened_then : AreShortened x z second_slot
  shortened_then = record {
    base = second.base ∙ first.base;
    pages_is = second.pages_is ∙ first.pages_is;
    root = second.root ∙ first.root;
    tables = (let a = first.tables in let b = second.tables in omega (arith, a, b));
    joins = second.joins ∙ first.joins;
    slots = second.slots ∙ first.slots;
    laid = second.laid;
    cut = cut_on x.regions y.regions z.regions first.cut second.cut;
    users = second.users ∙ first.users;
    size = second.size ∙ first.size;
    walks = λ level number low other. second.walks level number low other ∙ walks_first level number low;
    table = second.table;
    was_large = λ one is. (let w = second.was_large one is in (w.0, first.larges (slot_number one) (omega arith) w.1));
    larges = λ number small is. first.larges number small (second.larges number small is);
    large_gone = λ number small is gone. left number small is gone (large_of y.words y.root number) refl;
    pages_go = λ number none. second.pages_go number (first.pages_go number none);
    user_pages = λ address canonical user. second.user_pages address canonical (still_user address user) ∙ first.user_pages address canonical user;
    user_bytes = λ address canonical user some.
        second.user_bytes address canonical (still_user address user) (subst IsSome
        (sym (first.user_pages address canonical user)) some) ∙ first.user_bytes address canonical user some;
  }
    where
      left : (number : ℕ) → number < 2 ^ 27 → IsSome (large_of x.words x.root number) →
          large_of z.words z.root number ≡ None → (o : Option Place) → large_of y.words y.root number ≡ o →
          (k : ℕ) × (k < 512) × (reach z.words z.root 4 (512 * number + k) ≡ None)
      left number small is gone None none = let page = first.large_gone number small is none in (page.0, page.1, second.pages_go (512 * number + page.0) page.2)
      left number small is gone (Some large) some = second.large_gone number small (subst IsSome (sym some) (let h : IsSome (Some large) = cc in h)) gone

module _ (x y z : Paged) (one : ℕ) (first : AreShortened x y (Some one)) (second : AreShortened y z None) where
  user_still : (address : ℕ) → is_of_user x.regions address ≡ true → is_of_user y.regions address ≡ true
  user_still address user = user_same address y.regions ∙ (ap (list_any (is_within address)) first.users ∙ (sym (user_same address x.regions) ∙ user))

  walks_then : (level number : ℕ) → level < 4 → reach z.words z.root level number ≡ reach y.words y.root level number
  walks_then level number low = second.walks level number low (λ other is. absurd (let no : None ≡ Some other = is in cc))

  pub shortened_before : AreShortened x z (Some one)
  shortened_before = record {
    base = second.base ∙ first.base;
    pages_is = second.pages_is ∙ first.pages_is;
    root = second.root ∙ first.root;
    tables = (let a = first.tables in let b = second.tables in omega (arith, a, b));
    joins = second.joins ∙ first.joins;
    slots = second.slots ∙ first.slots;
    laid = second.laid;
    cut = cut_on x.regions y.regions z.regions first.cut second.cut;
    users = second.users ∙ first.users;
    size = second.size ∙ first.size;
    walks = λ level number low other. walks_then level number low ∙ first.walks level number low other;
    table = λ slot is. subst IsSome (sym (walks_then 3 (slot_number slot) (omega arith))) (first.table slot is);
    was_large = first.was_large;
    larges = λ number small is. first.larges number small (second.larges number small is);
    large_gone = λ number small is gone. left number small is gone (large_of y.words y.root number) refl;
    pages_go = λ number none. second.pages_go number (first.pages_go number none);
    user_pages = λ address canonical user. second.user_pages address canonical (user_still address user) ∙ first.user_pages address canonical user;
    user_bytes = λ address canonical user some.
        second.user_bytes address canonical (user_still address user) (subst IsSome
        (sym (first.user_pages address canonical user)) some) ∙ first.user_bytes address canonical user some;
  }
    where
      left : (number : ℕ) → number < 2 ^ 27 → IsSome (large_of x.words x.root number) →
          large_of z.words z.root number ≡ None → (o : Option Place) → large_of y.words y.root number ≡ o →
          (k : ℕ) × (k < 512) × (reach z.words z.root 4 (512 * number + k) ≡ None)
      left number small is gone None none = let page = first.large_gone number small is none in (page.0, page.1, second.pages_go (512 * number + page.0) page.2)
      left number small is gone (Some large) some = second.large_gone number small (subst IsSome (sym some) (let h : IsSome (Some large) = cc in h)) gone

-- whole runs after anything
pub shortened_on : (x y z : Paged) (slot : Option ℕ) → AreShortened x y slot → AreShortened y z None → AreShortened x z slot
shortened_on x y z None first second = shortened_then x y z None first second
shortened_on x y z (Some one) first second = shortened_before x y z one first second

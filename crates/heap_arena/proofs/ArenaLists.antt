-- A list of arenas, of which the first has to do with a call, or the others.
use Rattle.std.specs.Prelude.{◌≡◌, ◌≢◌, ℕ, zero, suc, ◌+◌, ◌*◌, ◌^◌, ◌<◌, ◌≤◌, ◌⊎◌, ◌-◌, ◌/◌, Bool, true, false, ◌&&◌, ◌||◌, nat_le, nat_lt, if◌then◌else◌, max, List, [], ◌∷◌, ◌++◌, Some, Result, Ok, Err, IfErr, OnErr, IsTrue, length, take, drop, insert, slice_index, slice_index_or, slice_set}
use Rattle.std.specs.List.{AllByRecursion, AllZip, list_all, list_any, refill}
use Rattle.std.proofs.Common.{◌∙◌, ap, sym, subst, refl, inl, inr, arith, append-nil, drop_of_length-le, take_all}
use Rattle.std.proofs.lemmas.Bool.Decides.{nat_tests}
use Rattle.heap_memory.specs.declared.grant.Grant.{Grant}
use Rattle.heap_memory.specs.declared.grant.GrantFault.{GrantFault}
use Rattle.heap_memory.specs.Regions.{is_granted, with_grant, IsApart, IsWordOf}
use Rattle.heap_memory.specs.RunLaws.{granted_before}
use Rattle.heap_memory.specs.Events.{Granted, Refused, Released}
use Rattle.heap_memory.specs.Words.{IsStored}
use borrow.Rule.Slice.PartMut.{put_mid}
use Rattle.heap_arena.specs.Grants.{are_between}
use Rattle.heap_arena.specs.Arena.{regions_of, word_of, end_of, has_room, top_without, IsSameArena, IsArenaAfter, IsGrantedAtTop, IsTakenBack, IsUnwritten, IsWrittenAt, KeepsOthers}
use Rattle.heap_arena.specs.Arenas.{are_in_order, regions_of_all, word_among, place_for, overlaps, AreAfter, AreTakenBack, AreUnwritten, AreWrittenAt, IsAdded, IsGrantedAmong, IsGrantedByOne, IsOnlyWritten}
use Rattle.heap_arena.specs.declared.arena.Arena.{Arena}
use Rattle.heap_arena.proofs.GrantLemmas.{granted_between}
use Rattle.heap_arena.specs.ArenaLaws.{after_none, after_other, ever_before}
use Rattle.heap_arena.specs.ArenasLaws.{inside, order_rest, rest_behind, all_after_none, all_after_refused, all_after_on}

-- ---- grants, and others after them

pub granted_append : (xs ys : List Grant) (at : ℕ) → is_granted (xs ++ ys) at ≡ (is_granted xs at || is_granted ys at)
granted_append [] ys at = refl
granted_append (x ∷ xs) ys at = grind (arith, granted_append xs ys at)

-- a grant in front of others
pub with_front : (mid high : ℕ) (grant : Grant) (xs ys : List Grant) → grant.base < mid → IsTrue (are_between mid high ys) →
    with_grant grant (xs ++ ys) ≡ with_grant grant xs ++ ys
with_front mid high grant [] [] before rest = refl
with_front mid high grant [] (y ∷ ys) before rest = grind (arith, nat_tests)
with_front mid high grant (x ∷ xs) ys before rest = go (nat_lt grant.base x.base) (with_front mid high grant xs ys before rest)
  where
    go : (b : Bool) → with_grant grant (xs ++ ys) ≡ with_grant grant xs ++ ys →
        (if b then grant ∷ x ∷ (xs ++ ys) else x ∷ with_grant grant (xs ++ ys)) ≡ (if b then grant ∷ x ∷ xs
        else x ∷ with_grant grant xs) ++ ys
    go true same = refl
    go false same = ap (λ (gs : List Grant). x ∷ gs) same

-- a grant after others
pub with_behind : (low mid : ℕ) (grant : Grant) (xs ys : List Grant) → mid ≤ grant.base → IsTrue (are_between low mid xs) →
    with_grant grant (xs ++ ys) ≡ xs ++ with_grant grant ys
with_behind low mid grant [] ys behind front = refl
with_behind low mid grant (x ∷ xs) ys behind front =
    let not_before : nat_lt grant.base x.base ≡ false = grind (arith, nat_tests) in
    rw not_before (ap (λ (gs : List Grant). x ∷ gs) (with_behind low mid grant xs ys behind (grind (arith, nat_tests))))

pub apart_append : (from to : ℕ) (xs ys : List Grant) → AllByRecursion (IsApart from to) xs →
    AllByRecursion (IsApart from to) ys → AllByRecursion (IsApart from to) (xs ++ ys)
apart_append from to [] ys front rest = rest
apart_append from to (x ∷ xs) ys front rest = (front.0, apart_append from to xs ys front.1 rest)

pub apart_before : (from to mid high : ℕ) (ys : List Grant) → to ≤ mid → IsTrue (are_between mid high ys) → AllByRecursion (IsApart from to) ys
apart_before from to mid high [] before between = tt
apart_before from to mid high (y ∷ ys) before between = (inr (grind (arith, nat_tests)), apart_before from to mid high ys before (grind (arith, nat_tests)))

-- ---- arenas by ascending address

-- of arenas in order, what is said of the first and the others
module _ (arena : Arena) (arenas : List Arena) (order : IsTrue (are_in_order (arena ∷ arenas))) where
  pub in_first : (at : ℕ) → IsWordOf (regions_of_all (arena ∷ arenas)) at → at < end_of arena → IsWordOf (regions_of arena) at
  in_first at is before = record {
    granted = grind (
      arith,
      nat_tests,
      granted_append (regions_of arena) (regions_of_all arenas) at,
      granted_between (end_of arena) (2 ^ 64) (regions_of_all arenas) at (rest_behind arena arenas order),
      is.granted,
    );
    aligned = is.aligned;
  }

  pub in_rest : (at : ℕ) → IsWordOf (regions_of_all (arena ∷ arenas)) at → end_of arena ≤ at → IsWordOf (regions_of_all arenas) at
  in_rest at is past = record {
    granted = grind (
      arith,
      nat_tests,
      granted_append (regions_of arena) (regions_of_all arenas) at,
      granted_between arena.base (end_of arena) (regions_of arena) at (inside arena),
      is.granted,
    );
    aligned = is.aligned;
  }

-- the order depends on where arenas begin, and how many words they have
pub order_same : (olds news : List Arena) → AllZip (λ x y. IsSameArena x y) olds news → IsTrue (are_in_order olds) → IsTrue (are_in_order news)
order_same [] [] same order = refl
order_same [] (new ∷ news) same order = elim same [ ]
order_same (old ∷ olds) [] same order = elim same [ ]
order_same (old ∷ olds) (new ∷ news) same order = go olds news same.1 (grind (arith, nat_tests)) (order_same olds news same.1 (order_rest old olds order))
  where
    end_same : end_of new ≡ end_of old
    end_same = let base = same.0.base in ap (λ (n : ℕ). new.base + 8 * n) same.0.len ∙ omega (arith, base)

    begins : (xs ys : List Arena) → AllZip (λ x y. IsSameArena x y) xs ys →
        IsTrue (list_all (λ (later : Arena). nat_le (end_of old) later.base) xs) →
        IsTrue (list_all (λ (later : Arena). nat_le (end_of new) later.base) ys)
    begins [] [] are h = refl
    begins [] (y ∷ ys) are h = elim are [ ]
    begins (x ∷ xs) [] are h = elim are [ ]
    begins (x ∷ xs) (y ∷ ys) are h = let base = are.0.base in let end = end_same in grind (arith, nat_tests, begins xs ys are.1, base, end)

    go : (xs ys : List Arena) → AllZip (λ x y. IsSameArena x y) xs ys →
        IsTrue (list_all (λ (later : Arena). nat_le (end_of old) later.base) xs) → IsTrue (are_in_order ys) →
        IsTrue (list_all (λ (later : Arena). nat_le (end_of new) later.base) ys && are_in_order ys)
    go xs ys are h rest = grind (arith, begins xs ys are h, rest)

-- ---- a list of arenas of which the first is taken apart

-- all but the first, as a part of a slice
abbrev pub rest_of : List Arena → List Arena
rest_of arenas = take (length arenas - 1) (drop 1 arenas)

rest_is : (x : Arena) (xs : List Arena) → rest_of (x ∷ xs) ≡ xs
rest_is x xs = take_all (length (x ∷ xs) - 1) xs (omega arith)

pub index_any : (arenas : List Arena) (d e : Arena) → 0 < length arenas → slice_index_or arenas 0 d ≡ slice_index_or arenas 0 e
index_any [] d e some = absurd (omega (arith, some))
index_any (arena ∷ arenas) d e some = refl

module _ (d : Arena) (at : ℕ) where
  pub first_word : (arenas : List Arena) → 0 < length arenas → IsTrue (are_in_order arenas) →
      IsWordOf (regions_of_all arenas) at → at < end_of (slice_index_or arenas 0 d) →
      IsWordOf (regions_of (slice_index_or arenas 0 d)) at
  first_word [] some order is before = absurd (omega (arith, some))
  first_word (arena ∷ arenas) some order is before = in_first arena arenas order at is before

  pub rest_word : (arenas : List Arena) → 0 < length arenas → IsTrue (are_in_order arenas) →
      IsWordOf (regions_of_all arenas) at → end_of (slice_index_or arenas 0 d) ≤ at →
      IsWordOf (regions_of_all (rest_of arenas)) at
  rest_word [] some order is past = absurd (omega (arith, some))
  rest_word (arena ∷ arenas) some order is past = rw (rest_is arena arenas) (in_rest arena arenas order at is past)

pub rest_order : (arenas : List Arena) → IsTrue (are_in_order arenas) → IsTrue (are_in_order (rest_of arenas))
rest_order [] order = refl
rest_order (arena ∷ arenas) order = rw (rest_is arena arenas) (order_rest arena arenas order)

pub rest_less : (arenas : List Arena) → 0 < length arenas → length (rest_of arenas) < length arenas
rest_less [] some = absurd (omega (arith, some))
rest_less (arena ∷ arenas) some = rw (rest_is arena arenas) (omega arith)

-- the others, put back after the first
pub put_rest : (x : Arena) (xs ys : List Arena) → put_mid 1 (length (x ∷ xs) - 1) (x ∷ xs) ys ≡ x ∷ ys
put_rest x xs ys = ap (λ (zs : List Arena). x ∷ (ys ++ zs)) (drop_of_length-le xs (omega arith)) ∙ ap (λ (zs : List Arena). x ∷ zs) (append-nil ys)

pub zip_first : (R : Arena → Arena → Type 0) → ((x : Arena) → R x x) → (arenas : List Arena) (d new : Arena) →
    0 < length arenas → R (slice_index_or arenas 0 d) new → AllZip R arenas (slice_set arenas 0 new)
zip_first R same [] d new some here = absurd (omega (arith, some))
zip_first R same (arena ∷ arenas) d new some here = (here, all arenas)
  where
    all : (xs : List Arena) → AllZip R xs xs
    all [] = tt
    all (x ∷ xs) = (same x, all xs)

pub set_same : (arenas : List Arena) (d new : Arena) → 0 < length arenas → new ≡ slice_index_or arenas 0 d → slice_set arenas 0 new ≡ arenas
set_same [] d new some same = absurd (omega (arith, some))
set_same (arena ∷ arenas) d new some same = ap (λ (a : Arena). a ∷ arenas) same

-- ---- a word that is stored

pub stored_first : (arenas : List Arena) (d new : Arena) (at value : ℕ) → 0 < length arenas → IsTrue (are_in_order arenas) →
    at < end_of (slice_index_or arenas 0 d) → IsSameArena (slice_index_or arenas 0 d) new →
    IsStored (regions_of (slice_index_or arenas 0 d)) (word_of (slice_index_or arenas 0 d)) at value (word_of new) →
    IsStored (regions_of_all arenas) (word_among arenas) at value (word_among (slice_set arenas 0 new))
stored_first [] d new at value some order before same stored = absurd (omega (arith, some))
stored_first (arena ∷ arenas) d new at value some order before same stored =
    let base = same.base in
    let len = same.len in
    let end : end_of new ≡ end_of arena = ap (λ (n : ℕ). new.base + 8 * n) len ∙ omega (arith, base) in
    let there : nat_lt at (end_of new) ≡ true = grind (arith, nat_tests) in
    record {
      here = rw there stored.here;
      elsewhere = λ other is differ.
          ap (λ (e : ℕ). if nat_lt other e then word_of new other else word_among arenas other) end ∙ go other is differ (nat_lt other (end_of arena)) refl;
    }
  where
    go : (other : ℕ) → IsWordOf (regions_of_all (arena ∷ arenas)) other → other ≢ at → (b : Bool) →
        nat_lt other (end_of arena) ≡ b → (if b then word_of new other else word_among arenas other) ≡ (if b then word_of
        arena other else word_among arenas other)
    go other is differ true is_b = stored.elsewhere other (in_first arena arenas order other is (grind (arith, nat_tests))) differ
    go other is differ false is_b = refl

pub stored_rest : (arenas : List Arena) (d : Arena) (news : List Arena) (at value : ℕ) → 0 < length arenas →
    IsTrue (are_in_order arenas) → end_of (slice_index_or arenas 0 d) ≤ at →
    IsStored (regions_of_all (rest_of arenas)) (word_among (rest_of arenas)) at value (word_among news) →
    IsStored (regions_of_all arenas) (word_among arenas) at value (word_among
    (put_mid 1 (length arenas - 1) arenas news))
stored_rest [] d news at value some order past stored = absurd (omega (arith, some))
stored_rest (arena ∷ arenas) d news at value some order past given =
    let stored = subst (λ (xs : List Arena). IsStored (regions_of_all xs) (word_among xs) at value (word_among news)) (rest_is arena arenas) given in
    let not_there : nat_lt at (end_of arena) ≡ false = grind (arith, nat_tests) in
    rw (put_rest arena arenas news) (record {
      here = rw not_there stored.here;
      elsewhere = λ other is differ. go other (nat_lt other (end_of arena)) refl
          (λ behind. stored.elsewhere other (in_rest arena arenas order other is behind) differ);
    })
  where
    go : (other : ℕ) (b : Bool) → nat_lt other (end_of arena) ≡ b → (end_of arena ≤ other →
        word_among news other ≡ word_among arenas other) → (if b then word_of arena other else word_among news other) ≡ (if
        b then word_of arena other else word_among arenas other)
    go other true is_b rest = refl
    go other false is_b rest = rest (grind (arith, nat_tests))

pub written_first : (arenas : List Arena) (d new : Arena) (at : ℕ) → 0 < length arenas → IsWrittenAt at 1 (slice_index_or arenas 0 d) new →
    AreWrittenAt at 1 arenas (slice_set arenas 0 new)
written_first [] d new at some written = absurd (omega (arith, some))
written_first (arena ∷ arenas) d new at some written = record {
  only = zip_first (λ x y. KeepsOthers at 1 x y × (y.top ≡ x.top) × (y.peak ≡ x.peak)) (λ x. (λ i beside. refl, refl, refl))
      (arena ∷ arenas) d new some (written.others, written.top, written.peak);
  regions = ap (λ (gs : List Grant). gs ++ regions_of_all arenas) written.regions;
  follows = zip_first (λ x y. IsArenaAfter x [] y) after_none (arena ∷ arenas) d new some written.follows;
}

pub written_rest : (arenas news : List Arena) (at : ℕ) → 0 < length arenas → AreWrittenAt at 1 (rest_of arenas) news →
    AreWrittenAt at 1 arenas (put_mid 1 (length arenas - 1) arenas news)
written_rest [] news at some given = absurd (omega (arith, some))
written_rest (arena ∷ arenas) news at some given =
    let written = subst (λ (xs : List Arena). AreWrittenAt at 1 xs news) (rest_is arena arenas) given in
    rw (put_rest arena arenas news) (record {
      only = ((λ i beside. refl, refl, refl), written.only);
      regions = ap (λ (gs : List Grant). regions_of arena ++ gs) written.regions;
      follows = (after_none arena, written.follows);
    })

-- ---- a grant

-- where it is, of arenas that begin after an address
pub placed_behind : (end size base : ℕ) (arenas : List Arena) → IsTrue
    (list_all (λ (later : Arena). nat_le end later.base) arenas) → place_for arenas size ≡ Some base → end ≤ base
placed_behind end size base [] are is = absurd (cc)
placed_behind end size base (arena ∷ arenas) are is = go (has_room arena size) is (placed_behind end size base arenas (grind (arith, nat_tests)))
  where
    go : (b : Bool) → (if b then Some arena.top else place_for arenas size) ≡ Some base → (place_for arenas size ≡ Some base → end ≤ base) → end ≤ base
    go true here rest = (let same : arena.top ≡ base = cc in let begins = arena.begins in grind (arith, nat_tests))
    go false there rest = rest there

pub apart_behind : (from to low mid : ℕ) (xs : List Grant) → mid ≤ from → IsTrue (are_between low mid xs) → AllByRecursion (IsApart from to) xs
apart_behind from to low mid [] past between = tt
apart_behind from to low mid (x ∷ xs) past between = (inl (grind (arith, nat_tests)), apart_behind from to low mid xs past (grind (arith, nat_tests)))

-- it ends among the words of the arena that has room for it
pub grant_ends : (arena : Arena) (grant : Grant) (size : ℕ) → grant ≡ record { base = arena.top; size = size; flags = 0 } →
    has_room arena size ≡ true → grant.base + grant.size ≤ end_of arena
grant_ends arena grant size is room =
    let base : grant.base ≡ arena.top = ap (λ (g : Grant). g.base) is in
    let bytes : grant.size ≡ size = ap (λ (g : Grant). g.size) is in grind (arith, nat_tests, base, bytes, room)

module _ (d : Arena) (grant : Grant) where
  pub apart_first : (arenas : List Arena) → 0 < length arenas → IsTrue (are_in_order arenas) →
      grant.base + grant.size ≤ end_of (slice_index_or arenas 0 d) → AllByRecursion
      (IsApart grant.base (grant.base + grant.size)) (regions_of (slice_index_or arenas 0 d)) →
      AllByRecursion (IsApart grant.base (grant.base + grant.size)) (regions_of_all arenas)
  apart_first [] some order ends apart = absurd (omega (arith, some))
  apart_first (arena ∷ arenas) some order ends apart =
      apart_append grant.base (grant.base + grant.size) (regions_of arena) (regions_of_all arenas) apart
      (apart_before grant.base (grant.base + grant.size) (end_of arena) (2 ^ 64) (regions_of_all arenas) ends (rest_behind arena arenas order))

  pub regions_first : (arenas : List Arena) (new : Arena) → 0 < length arenas → IsTrue (are_in_order arenas) →
      grant.base < end_of (slice_index_or arenas 0 d) → regions_of new ≡ with_grant grant
      (regions_of (slice_index_or arenas 0 d)) →
      regions_of_all (slice_set arenas 0 new) ≡ with_grant grant (regions_of_all arenas)
  regions_first [] new some order begins are = absurd (omega (arith, some))
  regions_first (arena ∷ arenas) new some order begins are =
      ap (λ (gs : List Grant). gs ++ regions_of_all arenas) are
      ∙ sym (with_front (end_of arena) (2 ^ 64) grant (regions_of arena) (regions_of_all arenas) begins (rest_behind arena arenas order))

module _ (grant : Grant) (size : ℕ) where
  pub apart_rest : (arenas : List Arena) → IsTrue (are_in_order arenas) →
      place_for (rest_of arenas) size ≡ Some grant.base → AllByRecursion (IsApart grant.base (grant.base + grant.size))
      (regions_of_all (rest_of arenas)) →
      AllByRecursion (IsApart grant.base (grant.base + grant.size)) (regions_of_all arenas)
  apart_rest [] order place apart = tt
  apart_rest (arena ∷ arenas) order place_given apart_given =
      let is = rest_is arena arenas in
      let place : place_for arenas size ≡ Some grant.base = ap (λ (xs : List Arena). place_for xs size) (sym is) ∙ place_given in
      let apart : AllByRecursion (IsApart grant.base (grant.base + grant.size)) (regions_of_all arenas) =
      subst (λ (xs : List Arena). AllByRecursion (IsApart grant.base (grant.base + grant.size)) (regions_of_all xs)) is
      apart_given in
      apart_append grant.base (grant.base + grant.size) (regions_of arena) (regions_of_all arenas)
      (apart_behind grant.base (grant.base + grant.size) arena.base (end_of arena) (regions_of arena)
      (placed_behind (end_of arena) size grant.base arenas (grind (arith, nat_tests)) place) (inside arena)) apart

  pub regions_rest : (arenas news : List Arena) → IsTrue (are_in_order arenas) →
      place_for (rest_of arenas) size ≡ Some grant.base → 0 < length arenas →
      regions_of_all news ≡ with_grant grant (regions_of_all (rest_of arenas)) →
      regions_of_all (put_mid 1 (length arenas - 1) arenas news) ≡ with_grant grant (regions_of_all arenas)
  regions_rest [] news order place some are = absurd (omega (arith, some))
  regions_rest (arena ∷ arenas) news order place_given some are_given =
      let is = rest_is arena arenas in
      let place : place_for arenas size ≡ Some grant.base = ap (λ (xs : List Arena). place_for xs size) (sym is) ∙ place_given in
      let are : regions_of_all news ≡ with_grant grant (regions_of_all arenas) = are_given
      ∙ ap (λ (xs : List Arena). with_grant grant (regions_of_all xs)) is in
      ap regions_of_all (put_rest arena arenas news) ∙ (ap (λ (gs : List Grant). regions_of arena ++ gs) are
      ∙ sym (with_behind arena.base (end_of arena) grant (regions_of arena) (regions_of_all arenas)
      (placed_behind (end_of arena) size grant.base arenas (grind (arith, nat_tests)) place) (inside arena)))

-- of the arenas one was granted something, and the others were not
module _ (grant : Grant) (size : ℕ) where
  others_after : (end : ℕ) (arenas : List Arena) → grant.base < end → IsTrue
      (list_all (λ (later : Arena). nat_le end later.base) arenas) → AreAfter arenas (Granted size grant ∷ []) arenas
  others_after end [] before are = tt
  others_after end (arena ∷ arenas) before are = (
    after_other size grant arena (grind (arith, nat_tests)),
    others_after end arenas before (grind (arith, nat_tests)),
  )

  pub after_first : (arenas : List Arena) (d new : Arena) → 0 < length arenas → IsTrue (are_in_order arenas) → grant.base < end_of (slice_index_or arenas 0 d) →
      IsArenaAfter (slice_index_or arenas 0 d) (Granted size grant ∷ []) new → AreAfter arenas (Granted size grant ∷ []) (slice_set arenas 0 new)
  after_first [] d new some order before here = absurd (omega (arith, some))
  after_first (arena ∷ arenas) d new some order before here = (here, others_after (end_of arena) arenas before (grind (arith, nat_tests)))

  pub after_rest : (arenas news : List Arena) → 0 < length arenas → IsTrue (are_in_order arenas) → place_for (rest_of arenas) size ≡ Some grant.base →
      AreAfter (rest_of arenas) (Granted size grant ∷ []) news → AreAfter arenas (Granted size grant ∷ []) (put_mid 1 (length arenas - 1) arenas news)
  after_rest [] news some order place after = absurd (omega (arith, some))
  after_rest (arena ∷ arenas) news some order place_given after_given =
      let is = rest_is arena arenas in
      let place : place_for arenas size ≡ Some grant.base = ap (λ (xs : List Arena). place_for xs size) (sym is) ∙ place_given in
      let after : AreAfter arenas (Granted size grant ∷ []) news = subst (λ (xs : List Arena). AreAfter xs (Granted size grant ∷ []) news) is after_given in
      let past : end_of arena ≤ grant.base = placed_behind (end_of arena) size grant.base arenas (grind (arith, nat_tests)) place in
      subst (λ (xs : List Arena). AreAfter (arena ∷ arenas) (Granted size grant ∷ []) xs) (sym (put_rest arena arenas news))
      (after_other size grant arena (grind (arith, nat_tests, past)), after)

pub granted_first : (arenas : List Arena) (d new : Arena) (size : ℕ) (grant : Grant) → 0 < length arenas → IsTrue (are_in_order arenas) → 0 < size →
    IsGrantedAtTop size (slice_index_or arenas 0 d) grant new → IsArenaAfter (slice_index_or arenas 0 d) (Granted size grant ∷ []) new →
    IsGrantedAmong size arenas grant (slice_set arenas 0 new)
granted_first [] d new size grant some order bytes at_top after = absurd (omega (arith, some))
granted_first (arena ∷ arenas) d new size grant some order bytes at_top after =
    let place = at_top.place in
    let base : arena.top ≡ grant.base = sym (ap (λ (g : Grant). g.base) place) in
    let is_size : grant.size ≡ size = ap (λ (g : Grant). g.size) place in
    let ends = grant_ends arena grant size place at_top.room in
    let before : grant.base < end_of arena = omega (arith, ends, is_size, bytes) in
    record {
      place = (
        ap (λ (b : Bool). if b then Some arena.top else place_for arenas size) at_top.room ∙ ap (λ (n : ℕ). Some n) base,
        is_size,
        ap (λ (g : Grant). g.flags) place,
      );
      by_one = zip_first (λ x y. (y ≡ x) ⊎ ((x.top ≡ grant.base) × (y.top ≡ grant.base + size) × (y.peak ≡ max x.peak (grant.base + size)))) (λ x. inl refl)
          (arena ∷ arenas) d new some
          (inr (base, at_top.top ∙ ap (λ (n : ℕ). n + size) base, at_top.peak ∙ ap (λ (n : ℕ). max arena.peak (n + size)) base));
      good = at_top.good;
      apart = apart_first d grant (arena ∷ arenas) some order ends at_top.apart;
      regions = regions_first d grant (arena ∷ arenas) new some order before at_top.regions;
      follows = after_first grant size (arena ∷ arenas) d new some order before after;
    }

pub granted_rest : (arenas news : List Arena) (d : Arena) (size : ℕ) (grant : Grant) → 0 < length arenas → IsTrue (are_in_order arenas) →
    has_room (slice_index_or arenas 0 d) size ≡ false → IsGrantedAmong size (rest_of arenas) grant news →
    IsGrantedAmong size arenas grant (put_mid 1 (length arenas - 1) arenas news)
granted_rest [] news d size grant some order full given = absurd (omega (arith, some))
granted_rest (arena ∷ arenas) news d size grant some order full given =
    let rest = subst (λ (xs : List Arena). IsGrantedAmong size xs grant news) (rest_is arena arenas) given in
    record {
      place = (ap (λ (b : Bool). if b then Some arena.top else place_for arenas size) full ∙ rest.place.0, rest.place.1, rest.place.2);
      by_one = subst (λ (xs : List Arena). IsGrantedByOne grant.base size (arena ∷ arenas) xs) (sym (put_rest arena arenas news)) (inl refl, rest.by_one);
      good = rest.good;
      apart = apart_rest grant size (arena ∷ arenas) order given.place.0 given.apart;
      regions = regions_rest grant size (arena ∷ arenas) news order given.place.0 some given.regions;
      follows = after_rest grant size (arena ∷ arenas) news some order given.place.0 given.follows;
    }

-- ---- words that stay

unwritten_none : (arena : Arena) → IsUnwritten arena arena
unwritten_none arena = record { same = record { base = refl; len = refl; table = refl }; words = refl }

pub unwritten_first : (arenas : List Arena) (d new : Arena) → 0 < length arenas → IsUnwritten (slice_index_or arenas 0 d) new →
    AreUnwritten arenas (slice_set arenas 0 new)
unwritten_first arenas d new some here = zip_first (λ x y. IsUnwritten x y) unwritten_none arenas d new some here

pub unwritten_rest : (arenas news : List Arena) → 0 < length arenas → AreUnwritten (rest_of arenas) news →
    AreUnwritten arenas (put_mid 1 (length arenas - 1) arenas news)
unwritten_rest [] news some given = absurd (omega (arith, some))
unwritten_rest (arena ∷ arenas) news some given =
    subst (λ (xs : List Arena). AreUnwritten (arena ∷ arenas) xs) (sym (put_rest arena arenas news))
    (unwritten_none arena, subst (λ (xs : List Arena). AreUnwritten xs news) (rest_is arena arenas) given)

-- ---- words that are written one after the other

only_none : (at : ℕ) (arenas : List Arena) → IsOnlyWritten at 0 arenas arenas
only_none at [] = tt
only_none at (arena ∷ arenas) = ((λ i beside. refl, refl, refl), only_none at arenas)

keeps_more : (at i : ℕ) (x y z : Arena) → y.base ≡ x.base → KeepsOthers at i x y → KeepsOthers (at + 8 * i) 1 y z → KeepsOthers at (i + 1) x z
keeps_more at i x y z base first second = λ k beside.
    second k (elim beside [ inl low ↦ inl (omega (arith, base, low)) | inr high ↦ inr (omega (arith, base, high)) ])
    ∙ first k (elim beside [ inl low ↦ inl low | inr high ↦ inr (omega (arith, high)) ])

only_more : (at i : ℕ) (xs ys zs : List Arena) → AreAfter xs [] ys → IsOnlyWritten at i xs ys →
    IsOnlyWritten (at + 8 * i) 1 ys zs → IsOnlyWritten at (i + 1) xs zs
only_more at i [] [] [] after first second = tt
only_more at i [] [] (z ∷ zs) after first second = elim second [ ]
only_more at i [] (y ∷ ys) zs after first second = elim first [ ]
only_more at i (x ∷ xs) [] zs after first second = elim first [ ]
only_more at i (x ∷ xs) (y ∷ ys) [] after first second = elim second [ ]
only_more at i (x ∷ xs) (y ∷ ys) (z ∷ zs) after first second = (
  (keeps_more at i x y z after.0.same.base first.0.0 second.0.0, second.0.1 ∙ first.0.1, second.0.2 ∙ first.0.2),
  only_more at i xs ys zs after.1 first.1 second.1,
)

pub written_none : (at : ℕ) (arenas : List Arena) → AreWrittenAt at 0 arenas arenas
written_none at arenas = record { only = only_none at arenas; regions = refl; follows = all_after_none arenas }

pub written_more : (at i : ℕ) (xs ys zs : List Arena) → AreWrittenAt at i xs ys → AreWrittenAt (at + 8 * i) 1 ys zs → AreWrittenAt at (i + 1) xs zs
written_more at i xs ys zs first second = record {
  only = only_more at i xs ys zs first.follows first.only second.only;
  regions = second.regions ∙ first.regions;
  follows = all_after_on xs ys zs [] [] [] first.follows second.follows refl;
}

-- ---- a further arena

all_insert : (test : Arena → Bool) (new : Arena) (place : ℕ) (arenas : List Arena) → IsTrue (list_all test arenas) →
    IsTrue (test new) → IsTrue (list_all test (insert arenas place new))
all_insert test new zero arenas are is = grind (arith, are, is)
all_insert test new (suc place) [] are is = grind (arith, is)
all_insert test new (suc place) (arena ∷ arenas) are is = grind (arith, all_insert test new place arenas, are, is)

-- after the first of others
pub order_insert : (new : Arena) (d : Arena) (place : ℕ) (arenas : List Arena) → 0 < length arenas →
    IsTrue (are_in_order arenas) → end_of (slice_index_or arenas 0 d) ≤ new.base →
    IsTrue (are_in_order (insert (rest_of arenas) place new)) →
    IsTrue (are_in_order (insert arenas (place + 1) new))
order_insert new d place [] some order past rest = absurd (omega (arith, some))
order_insert new d place (arena ∷ arenas) some order past given =
    let rest = subst (λ (xs : List Arena). IsTrue (are_in_order (insert xs place new))) (rest_is arena arenas) given in
    let next : place + 1 ≡ suc place = omega arith in
    subst (λ (n : ℕ). IsTrue (are_in_order (insert (arena ∷ arenas) n new))) (sym next)
    (let begins : IsTrue (nat_le (end_of arena) new.base) = grind (arith, nat_tests) in
    let all = all_insert (λ (later : Arena). nat_le (end_of arena) later.base) new place arenas
    (grind (arith, nat_tests, order)) begins in grind (arith, all, rest))

-- in front of all
pub order_first : (new : Arena) (d : Arena) (arenas : List Arena) → IsTrue (are_in_order arenas) →
    end_of new ≤ (slice_index_or arenas 0 d).base → IsTrue (are_in_order (new ∷ arenas))
order_first new d [] order before = refl
order_first new d (arena ∷ arenas) order before = let all = later_all arenas (grind (arith, nat_tests, order)) in grind (arith, nat_tests, all, order, before)
  where
    later_all : (xs : List Arena) → IsTrue (list_all (λ (later : Arena). nat_le (end_of arena) later.base) xs) →
        IsTrue (list_all (λ (later : Arena). nat_le (end_of new) later.base) xs)
    later_all [] are = refl
    later_all (x ∷ xs) are = grind (arith, nat_tests, later_all xs, are, before)

-- those after an arena do not overlap it
pub none_behind : (new : Arena) (arenas : List Arena) → IsTrue (are_in_order (new ∷ arenas)) → list_any (λ (other : Arena). overlaps new other) arenas ≡ false
none_behind new [] order = refl
none_behind new (arena ∷ arenas) order = grind (arith, nat_tests, none_behind new arenas, order)

regions_insert : (new : Arena) (place : ℕ) (arenas : List Arena) → regions_of new ≡ [] → regions_of_all (insert arenas place new) ≡ regions_of_all arenas
regions_insert new zero arenas none = ap (λ (gs : List Grant). gs ++ regions_of_all arenas) none
regions_insert new (suc place) [] none = ap (λ (gs : List Grant). gs ++ []) none
regions_insert new (suc place) (arena ∷ arenas) none = ap (λ (gs : List Grant). regions_of arena ++ gs) (regions_insert new place arenas none)

words_insert : (new : Arena) (place : ℕ) (arenas : List Arena) → IsTrue (are_in_order (insert arenas place new)) →
    IsTrue (are_in_order arenas) → (at : ℕ) → IsWordOf (regions_of_all arenas) at →
    word_among (insert arenas place new) at ≡ word_among arenas at
words_insert new zero arenas order was at is =
    let past : end_of new ≤ at = (granted_between (end_of new) (2 ^ 64) (regions_of_all arenas) at (rest_behind new arenas order) is.granted).0 in
    let not_there : nat_lt at (end_of new) ≡ false = grind (arith, nat_tests) in rw not_there refl
words_insert new (suc place) [] order was at is = absurd (let no = is.granted in cc)
words_insert new (suc place) (arena ∷ arenas) order was at is =
    go (nat_lt at (end_of arena)) refl (λ past. words_insert new place arenas
    (order_rest arena (insert arenas place new) order) (order_rest arena arenas was) at
    (in_rest arena arenas was at is past))
  where
    go : (b : Bool) → nat_lt at (end_of arena) ≡ b → (end_of arena ≤ at →
        word_among (insert arenas place new) at ≡ word_among arenas at) →
        (if b then word_of arena at else word_among (insert arenas place new) at) ≡ (if b then word_of arena at
        else word_among arenas at)
    go true is_b rest = refl
    go false is_b rest = rest (grind (arith, nat_tests))

pub added_at : (new : Arena) (place : ℕ) (arenas news : List Arena) → place ≤ length arenas →
    news ≡ insert arenas place new → regions_of new ≡ [] → IsTrue (are_in_order (insert arenas place new)) →
    IsTrue (are_in_order arenas) → IsAdded arenas new news
added_at new place arenas news within are none order was = record {
  place = place;
  within = within;
  new_is = are;
  regions = ap regions_of_all are ∙ regions_insert new place arenas none;
  words = λ at is. ap (λ (xs : List Arena). word_among xs at) are ∙ words_insert new place arenas order was at is;
}

-- ---- all arenas after a call

pub refilled : (xs ys : List Arena) → length ys ≡ length xs → refill (length xs) xs ys ≡ ys
refilled xs ys same = ap (λ (zs : List Arena). take (length xs) (ys ++ zs)) (drop_of_length-le xs (omega (arith, same)))
    ∙ (ap (λ (zs : List Arena). take (length xs) zs) (append-nil ys) ∙ take_all (length xs) ys (omega (arith, same)))

module _ (R S : Arena → Arena → Type 0) where
  pub zip_map : ((x y : Arena) → R x y → S x y) → (xs ys : List Arena) → AllZip R xs ys → AllZip S xs ys
  zip_map more [] [] are = tt
  zip_map more [] (y ∷ ys) are = elim are [ ]
  zip_map more (x ∷ xs) [] are = elim are [ ]
  zip_map more (x ∷ xs) (y ∷ ys) are = (more x y are.0, zip_map more xs ys are.1)

pub unwritten_order : (xs ys : List Arena) → AreUnwritten xs ys → IsTrue (are_in_order xs) → IsTrue (are_in_order ys)
unwritten_order xs ys are = order_same xs ys (zip_map (λ x y. IsUnwritten x y) (λ x y. IsSameArena x y) (λ x y one. one.same) xs ys are)

pub words_same : (xs ys : List Arena) → AreUnwritten xs ys → (at : ℕ) → word_among ys at ≡ word_among xs at
words_same [] [] are at = refl
words_same [] (y ∷ ys) are at = elim are [ ]
words_same (x ∷ xs) [] are at = elim are [ ]
words_same (x ∷ xs) (y ∷ ys) are at =
    let same = are.0.same in
    let base = same.base in
    let end : end_of y ≡ end_of x = ap (λ (n : ℕ). y.base + 8 * n) same.len ∙ omega (arith, base) in
    let here : word_of y at ≡ word_of x at = ap (λ (n : ℕ). slice_index y.words.now ((at - n) / 8)) base
    ∙ ap (λ (ws : List ℕ). slice_index ws ((at - x.base) / 8)) are.0.words in
    ap (λ (e : ℕ). if nat_lt at e then word_of y at else word_among ys at) end
    ∙ (ap (λ (w : ℕ). if nat_lt at (end_of x) then w else word_among ys at) here
    ∙ ap (λ (w : ℕ). if nat_lt at (end_of x) then word_of x at else w) (words_same xs ys are.1 at))

-- what came back is as if it were never granted, but for the peak
module _ (low high : ℕ) (x y : Arena) (taken : IsTakenBack low high x y) where
  taken_same : IsSameArena x y
  taken_same = record { base = taken.base; len = ap (λ (ws : List ℕ). length ws) taken.words; table = taken.table }

  pub taken_after : (at old_size new_size : ℕ) → low ≡ at + new_size → high ≡ at + old_size → IsArenaAfter x (Released at old_size new_size ∷ []) y
  taken_after at old_size new_size begins ends = record {
    same = taken_same;
    top = taken.top ∙ (ap (λ (n : ℕ). top_without x.base n high x.top) begins ∙ ap (λ (n : ℕ). top_without x.base (at + new_size) n x.top) ends);
    peak = taken.peak;
    placed = tt;
    granted = λ k is.
        ever_before x (Released at old_size new_size ∷ []) k
        (granted_before low high (regions_of x) k (subst (λ (rs : List Grant). IsTrue (is_granted rs k)) taken.regions is));
    untouched = λ i never. ap (λ (ws : List ℕ). slice_index ws i) taken.words;
  }

module _ (low high : ℕ) (olds news : List Arena) (back : AreTakenBack low high olds news) where
  pub taken_unwritten : AreUnwritten olds news
  taken_unwritten = zip_map (λ x y. IsTakenBack low high x y) (λ x y. IsUnwritten x y)
      (λ x y one. record { same = taken_same low high x y one; words = one.words }) olds news back.taken

  pub all_taken_after : (at old_size new_size : ℕ) → low ≡ at + new_size → high ≡ at + old_size → AreAfter olds (Released at old_size new_size ∷ []) news
  all_taken_after at old_size new_size begins ends =
      zip_map (λ x y. IsTakenBack low high x y) (λ x y. IsArenaAfter x (Released at old_size new_size ∷ []) y)
      (λ x y one. taken_after low high x y one at old_size new_size begins ends) olds news back.taken

-- a refusal changes nothing
pub refused_all : (answer : Result Grant GrantFault) (size : ℕ) (olds news : List Arena) → OnErr answer (news ≡ olds) →
    IfErr answer (λ fault. AreAfter olds (Refused size fault ∷ []) news)
refused_all (Ok grant) size olds news same = tt
refused_all (Err fault) size olds news same = subst (λ (xs : List Arena). AreAfter olds (Refused size fault ∷ []) xs)
    (sym same) (all_after_refused size fault olds)

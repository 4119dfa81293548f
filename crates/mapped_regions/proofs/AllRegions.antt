-- The regions of a state, those of the heap and of the user together, when one joins or leaves.
use Rattle.std.proofs.Common.{◌≢◌, fold, [], ◌∷◌, ◌≡◌, ◌∙◌, ap, sym, refl, ℕ, ◌<◌, ◌≤◌, Bool, true, false, cond, not, ◌&&◌, ◌||◌, ◌⊎◌, inl, inr, nat_lt, List, arith, find, is_some}
use Rattle.std.proofs.lemmas.Bool.{cases_lt}
use Rattle.std.proofs.lemmas.Bool.Decides.{nat_tests}
use Rattle.std.specs.List.{AllByRecursion, list_any}
use Rattle.machine_model.specs.declared.region.Region.{Region}
use Rattle.machine_model.specs.State.{State, end_of_region}
use Rattle.machine_model.specs.Place.{with_region, meets, meets_any, all_regions}
use Rattle.machine_model.specs.Run.{AreRegionsInOrder}
use Rattle.machine_model.proofs.Booleans.{or_neither, neither_or}
use Rattle.machine_model.proofs.Regions.{any_all, any_with, all_with}
use Rattle.mapped_regions.specs.Regions.{meets_heap, is_at, without_region}

-- ---- a region that joins the heap of a state joins all of its regions

commute : (a b : Region) (list : List Region) → a.start ≢ b.start → with_region a (with_region b list) ≡ with_region b (with_region a list)
commute a b [] h = grind (arith, nat_tests)
commute a b (x ∷ xs) h = grind (arith, nat_tests, commute a b xs h)

pub joined_all : (region : Region) (heap users : List Region) → AllByRecursion (λ user. user.start ≢ region.start) users →
    fold (λ list r. with_region r list) (with_region region heap) users ≡ with_region region (fold (λ list r. with_region r list) heap users)
joined_all region heap [] h = refl
joined_all region heap (user ∷ users) h =
    ap (λ list. fold (λ list r. with_region r list) list users) (commute user region heap h.0) ∙ joined_all region (with_region user heap) users h.1

-- one that joins the user's does, too
pub joined_users : (region : Region) (heap users : List Region) → AllByRecursion (λ user. user.start ≢ region.start) users →
    fold (λ list r. with_region r list) heap (with_region region users) ≡ with_region region (fold (λ list r. with_region r list) heap users)
joined_users region heap [] h = refl
joined_users region heap (user ∷ users) h = go (nat_lt region.start user.start) refl (joined_users region (with_region user heap) users h.1)
  where
    go : (b : Bool) → nat_lt region.start user.start ≡ b →
        fold (λ list r. with_region r list) (with_region user heap) (with_region region users) ≡ with_region region
        (fold (λ list r. with_region r list) (with_region user heap) users) →
        fold (λ list r. with_region r list) heap (with_region region (user ∷ users)) ≡ with_region region
        (fold (λ list r. with_region r list) heap (user ∷ users))
    go true before later = rw before (joined_all region heap (user ∷ users) h)
    go false behind later = rw behind later

-- ---- the regions of the heap and of the user

of_heap : (at n : ℕ) (list : List Region) → AllByRecursion (λ r. r.heap ≡ true) list → list_any (meets_heap at n) list ≡ meets_any at n list
of_heap at n [] h = refl
of_heap at n (r ∷ rs) h = rw h.0 (ap (λ t. meets at n r || t) (of_heap at n rs h.1))

of_users : (at n : ℕ) (list : List Region) → AllByRecursion (λ r. r.heap ≡ false) list → list_any (meets_heap at n) list ≡ false
of_users at n [] h = refl
of_users at n (r ∷ rs) h = rw h.0 (of_users at n rs h.1)

or_with : (a b : Bool) → b ≡ false → (a || b) ≡ a
or_with true b h = refl
or_with false b h = h

-- a search finds one if a test passes
found_any : (test : Region → Bool) (rs : List Region) → is_some (find test rs) ≡ list_any test rs
found_any test [] = refl
found_any test (r ∷ rs) = go (test r) refl (found_any test rs) where
  go : (t : Bool) → test r ≡ t → is_some (find test rs) ≡ list_any test rs → is_some (find test (r ∷ rs)) ≡ list_any test (r ∷ rs)
  go true is rest = rw is refl
  go false is rest = rw is rest

-- pages meet a region of the heap among all regions if they meet one of the heap
pub heap_met :
    (s : State) (at n : ℕ) → AllByRecursion (λ r. r.heap ≡ true) s.heap → AllByRecursion (λ r. r.heap ≡ false) s.users →
    list_any (meets_heap at n) (all_regions s) ≡ meets_any at n s.heap
heap_met s at n heap users = any_all (meets_heap at n) s.heap s.users ∙ (or_with _ _ (of_users at n s.users users) ∙ of_heap at n s.heap heap)

pub state_heap :
    (s : State) (at n : ℕ) → AllByRecursion (λ r. r.heap ≡ true) s.heap → AllByRecursion (λ r. r.heap ≡ false) s.users →
    is_some (find (meets_heap at n) (all_regions s)) ≡ meets_any at n s.heap
state_heap s at n heap users =
    found_any (meets_heap at n) (all_regions s) ∙ heap_met s at n heap users

-- a region of the user with just these pages is among all regions if it is among the user's
none_of_heap : (at n : ℕ) (list : List Region) → AllByRecursion (λ r. r.heap ≡ true) list → list_any (λ r. not r.heap && is_at at n r) list ≡ false
none_of_heap at n [] h = refl
none_of_heap at n (r ∷ rs) h = rw h.0 (none_of_heap at n rs h.1)

some_of_users : (at n : ℕ) (list : List Region) → AllByRecursion (λ r. r.heap ≡ false) list →
    list_any (λ r. not r.heap && is_at at n r) list ≡ list_any (is_at at n) list
some_of_users at n [] h = refl
some_of_users at n (r ∷ rs) h = rw h.0 (ap (λ t. is_at at n r || t) (some_of_users at n rs h.1))

pub user_listed :
    (s : State) (at n : ℕ) → AllByRecursion (λ r. r.heap ≡ true) s.heap → AllByRecursion (λ r. r.heap ≡ false) s.users →
    list_any (λ r. not r.heap && is_at at n r) (all_regions s) ≡ list_any (is_at at n) s.users
user_listed s at n heap users =
    any_all (λ r. not r.heap && is_at at n r) s.heap s.users
    ∙ (ap (λ b. b || list_any (λ r. not r.heap && is_at at n r) s.users) (none_of_heap at n s.heap heap) ∙ some_of_users at n s.users users)

-- ---- a region that leaves

-- regions in the order of their starts
abbrev pub Sorted : List Region → Type 0
Sorted [] = Unit {0}
Sorted (r ∷ rs) = AllByRecursion (λ later. r.start ≤ later.start) rs × Sorted rs

all_up : (low high : ℕ) (rs : List Region) → low ≤ high → AllByRecursion (λ later. high ≤ later.start) rs → AllByRecursion (λ later. low ≤ later.start) rs
all_up low high [] h a = tt
all_up low high (r ∷ rs) h a = (omega (arith, h, a.0), all_up low high rs h a.1)

pub sorted_with : (r : Region) (list : List Region) → Sorted list → Sorted (with_region r list)
sorted_with r [] s = (tt, tt)
sorted_with r (x ∷ xs) s = go (cases_lt r.start x.start) (sorted_with r xs s.1) where
  go : (r.start < x.start) ⊎ (x.start ≤ r.start) → Sorted (with_region r xs) → Sorted (with_region r (x ∷ xs))
  go (inl before) i =
      let t : nat_lt r.start x.start ≡ true = grind (arith, nat_tests) in
      rw t ((omega (arith, before), all_up r.start x.start xs (omega (arith, before)) s.0), s)
  go (inr behind) i =
      let t : nat_lt r.start x.start ≡ false = grind (arith, nat_tests) in
      rw t (all_with (λ later. x.start ≤ later.start) r xs behind s.0, i)

-- before all of them it is the first
goes_first : (r : Region) (low : ℕ) (list : List Region) → r.start < low → AllByRecursion (λ later. low ≤ later.start) list → with_region r list ≡ r ∷ list
goes_first r low [] h a = refl
goes_first r low (x ∷ xs) h a = let t : nat_lt r.start x.start ≡ true = grind (arith, nat_tests, h, a.0) in rw t refl

skips : (start pages : ℕ) (r : Region) (list : List Region) → Sorted list → is_at start pages r ≡ false →
    without_region start pages (with_region r list) ≡ with_region r (without_region start pages list)
skips start pages r [] s other = rw other refl
skips start pages r (x ∷ xs) s other = go (cases_lt r.start x.start) (is_at start pages x) refl (skips start pages r xs s.1 other) where
  go : (r.start < x.start) ⊎ (x.start ≤ r.start) → (t : Bool) → is_at start pages x ≡ t →
      without_region start pages (with_region r xs) ≡ with_region r (without_region start pages xs) →
      without_region start pages (with_region r (x ∷ xs)) ≡ with_region r (without_region start pages (x ∷ xs))
  go (inl before) true is i =
      let t : nat_lt r.start x.start ≡ true = grind (arith, nat_tests) in
      rw t (rw other (rw is (sym (goes_first r x.start xs before s.0))))
  go (inl before) false is i =
      let t : nat_lt r.start x.start ≡ true = grind (arith, nat_tests) in
      rw t (rw other (rw is (rw t refl)))
  go (inr behind) true is i =
      let t : nat_lt r.start x.start ≡ false = grind (arith, nat_tests) in
      rw t (rw is refl)
  go (inr behind) false is i =
      let t : nat_lt r.start x.start ≡ false = grind (arith, nat_tests) in
      rw t (rw is (rw t (ap (λ ys. x ∷ ys) i)))

-- a region that is none of the user's leaves all regions as it leaves the heap
pub left_all : (start pages : ℕ) (heap users : List Region) → Sorted heap → AllByRecursion (λ user. is_at start pages user ≡ false) users →
    fold (λ list r. with_region r list) (without_region start pages heap) users ≡ without_region start pages (fold (λ list r. with_region r list) heap users)
left_all start pages heap [] s h = refl
left_all start pages heap (user ∷ users) s h =
    ap (λ list. fold (λ list r. with_region r list) list users) (sym (skips start pages user heap s h.0))
    ∙ left_all start pages (with_region user heap) users (sorted_with user heap s) h.1

-- one that was put in is taken out again, if no other is just there
put_back : (start pages : ℕ) (r : Region) (list : List Region) → is_at start pages r ≡ true →
    list_any (is_at start pages) list ≡ false → without_region start pages (with_region r list) ≡ list
put_back start pages r [] is none = rw is refl
put_back start pages r (x ∷ xs) is none = go (nat_lt r.start x.start) (put_back start pages r xs is both.1)
  where
    both : (is_at start pages x ≡ false) × (list_any (is_at start pages) xs ≡ false)
    both = neither_or (is_at start pages x) (list_any (is_at start pages) xs) none

    go : (b : Bool) → without_region start pages (with_region r xs) ≡ xs → without_region start pages (cond b (r ∷ x ∷ xs) (x ∷ with_region r xs)) ≡ x ∷ xs
    go true later = rw is refl
    go false later = let other : is_at start pages x ≡ false = both.0 in rw other (ap (λ ys. x ∷ ys) later)

-- a region of the user leaves all regions as it leaves the user's, if those stand apart and none of the heap is just
-- there
pub left_users : (start pages : ℕ) (heap users : List Region) → 0 < pages → Sorted heap → list_any (is_at start pages) heap ≡ false → AreRegionsInOrder users →
    fold (λ list r. with_region r list) heap (without_region start pages users) ≡ without_region start pages (fold (λ list r. with_region r list) heap users)
left_users start pages heap [] some sorted none order = sym (absent start pages heap none)
  where
    absent : (start pages : ℕ) (list : List Region) → list_any (is_at start pages) list ≡ false → without_region start pages list ≡ list
    absent start pages [] none = refl
    absent start pages (x ∷ xs) none =
        let both : (is_at start pages x ≡ false) × (list_any (is_at start pages) xs ≡ false) =
        neither_or (is_at start pages x) (list_any (is_at start pages) xs) none in
        rw both.0 (ap (λ ys. x ∷ ys) (absent start pages xs both.1))
left_users start pages heap (user ∷ users) some sorted none order = go (is_at start pages user) refl
    (left_users start pages (with_region user heap) users some (sorted_with user heap sorted))
  where
    behind : (from : ℕ) (list : List Region) → start < from → AllByRecursion (λ later. from ≤ later.start) list →
        AllByRecursion (λ later. is_at start pages later ≡ false) list
    behind from [] less all = tt
    behind from (x ∷ xs) less all = (other x less all.0, behind from xs less all.1)
      where
        other : (x : Region) → start < from → from ≤ x.start → is_at start pages x ≡ false
        other x less above = grind (arith, nat_tests)

    go : (b : Bool) → is_at start pages user ≡ b →
        (list_any (is_at start pages) (with_region user heap) ≡ false → AreRegionsInOrder users →
        fold (λ list r. with_region r list) (with_region user heap) (without_region start pages users) ≡ without_region
        start pages (fold (λ list r. with_region r list) (with_region user heap) users)) →
        fold (λ list r. with_region r list) heap (without_region start pages (user ∷ users)) ≡ without_region start pages
        (fold (λ list r. with_region r list) heap (user ∷ users))
    go true is later =
        let same : user.start ≡ start = grind (arith, nat_tests) in
        let long : user.pages ≡ pages = grind (arith, nat_tests) in
        rw is (ap (λ list. fold (λ list r. with_region r list) list users) (sym (put_back start pages user heap is none))
        ∙ left_all start pages (with_region user heap) users (sorted_with user heap sorted) (behind (end_of_region user) users (omega arith) order.0))
    go false is later =
        let none_now : list_any (is_at start pages) (with_region user heap) ≡ false = any_with (is_at start pages) user heap
        ∙ or_neither (is_at start pages user) (list_any (is_at start pages) heap) is none in
        rw is (later none_now order.1)

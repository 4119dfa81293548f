-- Runs after one was put in, taken out, or got another end, where they stand around it.
use Rattle.std.proofs.Common.{◌≡◌, ap, sym, refl, ℕ, ◌<◌, ◌≤◌, Bool, true, false, ◌==◌, ◌||◌, Some, None, List, [], ◌∷◌, ◌++◌, map, arith}
use Rattle.std.proofs.lemmas.Bool.Decides.{nat_tests}
use Rattle.std.specs.Cmp.{nat_cmp_is}
use Rattle.std.specs.Ordering.{nat_cmp}
use Rattle.std.specs.declared.cmp.Ordering.TheVariants.{Less, Equal, Greater}
use Rattle.meminterval.specs.declared.interval.Interval.{Interval}
use Rattle.meminterval.specs.Entries.{AllItems, or_else, with_entry, without_key}
use Rattle.meminterval.specs.Interval.{by_ends, with_end, HasOwnStart}
use Rattle.paging_core.specs.declared.page_table.Rights.{Rights}
use Rattle.address_space.specs.Runs.{RunsFollow, rights_in, has_run_at, holds}
use Rattle.address_space.proofs.Splits.{follow_to}

pub less : (x e : Interval ℕ) → x.start < e.start → by_ends nat_cmp x e ≡ Less
less x e h = let c : nat_cmp x.start e.start ≡ Less = sym (nat_cmp_is x.start e.start Less h) in rw c refl

pub greater : (x e : Interval ℕ) → e.start < x.start → by_ends nat_cmp x e ≡ Greater
greater x e h = let c : nat_cmp x.start e.start ≡ Greater = sym (nat_cmp_is x.start e.start Greater h) in rw c refl

equal_itself : (i : Interval ℕ) → by_ends nat_cmp i i ≡ Equal
equal_itself i = grind (arith, nat_tests)

-- ---- the pairs after a change

-- one more, between those that begin before it and those that begin after it
pub entry_between : (x : Interval ℕ × Rights) (from : ℕ) (front back : List (Interval ℕ × Rights)) (next to : ℕ) →
    RunsFollow from front x.0.start → x.0.start < next → RunsFollow next back to →
    with_entry (by_ends nat_cmp) x (front ++ back) ≡ front ++ x ∷ back
entry_between x from [] [] next to f h g = refl
entry_between x from [] (e ∷ back) next to f h g = let order = less x.0 e.0 (omega (arith, h, g.0)) in rw order refl
entry_between x from (e ∷ front) back next to f h g =
    let i = follow_to e.0.end front x.0.start f.2 in
    let order = greater x.0 e.0 (omega (arith, i, f.1)) in
    rw order (ap (λ ys. e ∷ ys) (entry_between x e.0.end front back next to f.2 h g))

pub without_between : (e : Interval ℕ × Rights) (from : ℕ) (front back : List (Interval ℕ × Rights)) → RunsFollow from front e.0.start →
    without_key (by_ends nat_cmp) e.0 (front ++ e ∷ back) ≡ front ++ back
without_between e from [] back f = let order = equal_itself e.0 in rw order refl
without_between e from (x ∷ front) back f =
    let i = follow_to x.0.end front e.0.start f.2 in
    let order = greater e.0 x.0 (omega (arith, i, f.1)) in
    rw order (ap (λ ys. x ∷ ys) (without_between e x.0.end front back f.2))

-- no pair after is changed
end_behind : (i : Interval ℕ) (end next : ℕ) (back : List (Interval ℕ × Rights)) (to : ℕ) → i.start < next →
    RunsFollow next back to → map (with_end nat_cmp i end) back ≡ back
end_behind i end next [] to h g = refl
end_behind i end next (e ∷ back) to h g =
    let order = less i e.0 (omega (arith, h, g.0)) in
    rw order (ap (λ ys. e ∷ ys) (end_behind i end e.0.end back to (omega (arith, h, g.0, g.1)) g.2))

pub end_between : (e : Interval ℕ × Rights) (end from : ℕ) (front back : List (Interval ℕ × Rights)) (next to : ℕ) →
    RunsFollow from front e.0.start → e.0.start < next → RunsFollow next back to →
    map (with_end nat_cmp e.0 end) (front ++ e ∷ back) ≡ front ++ (record { start = e.0.start; end = end }, e.1) ∷ back
end_between e end from [] back next to f h g =
    let order = equal_itself e.0 in rw order (ap (λ ys. (record { start = e.0.start; end = end }, e.1) ∷ ys) (end_behind e.0 end next back to h g))
end_between e end from (x ∷ front) back next to f h g =
    let i = follow_to x.0.end front e.0.start f.2 in
    let order = greater e.0 x.0 (omega (arith, i, f.1)) in
    rw order (ap (λ ys. x ∷ ys) (end_between e end x.0.end front back next to f.2 h g))

-- the start of a run is its own
own_before : (i e : Interval ℕ) → e.start < i.start → nat_cmp i.start e.start ≡ Equal → ⊥
own_before i e h q = grind (arith, nat_tests)

own_after : (i e : Interval ℕ) → i.start < e.start → nat_cmp i.start e.start ≡ Equal → ⊥
own_after i e h q = grind (arith, nat_tests)

own_behind : (i : Interval ℕ) (next : ℕ) (back : List (Interval ℕ × Rights)) (to : ℕ) → i.start < next →
    RunsFollow next back to → AllItems (HasOwnStart nat_cmp i) back
own_behind i next [] to h g = tt
own_behind i next (e ∷ back) to h g = ((λ q. absurd (own_after i e.0 (omega (arith, h, g.0)) q)), own_behind i e.0.end back to (omega (arith, h, g.0, g.1)) g.2)

pub own_between : (e : Interval ℕ × Rights) (from : ℕ) (front back : List (Interval ℕ × Rights)) (next to : ℕ) →
    RunsFollow from front e.0.start → e.0.start < next → RunsFollow next back to →
    AllItems (HasOwnStart nat_cmp e.0) (front ++ e ∷ back)
own_between e from [] back next to f h g = ((λ q. equal_itself e.0), own_behind e.0 next back to h g)
own_between e from (x ∷ front) back next to f h g =
    let i = follow_to x.0.end front e.0.start f.2 in
    ((λ q. absurd (own_before e.0 x.0 (omega (arith, i, f.1)) q)), own_between e x.0.end front back next to f.2 h g)

-- ---- the pages of runs one after the other

pub rights_append : (front back : List (Interval ℕ × Rights)) (page : ℕ) → rights_in (front ++ back) page ≡ or_else (rights_in front page) (rights_in back page)
rights_append [] back page = refl
rights_append (e ∷ front) back page = by_test (holds page e) refl (rights_append front back page) where
  by_test : (t : Bool) → holds page e ≡ t → rights_in (front ++ back) page ≡ or_else (rights_in front page)
      (rights_in back page) → rights_in ((e ∷ front) ++ back) page ≡ or_else (rights_in (e ∷ front) page)
      (rights_in back page)
  by_test true is rest = rw is refl
  by_test false is rest = rw is rest

pub begins_append : (front back : List (Interval ℕ × Rights)) (page : ℕ) → has_run_at (front ++ back) page ≡ (has_run_at front page || has_run_at back page)
begins_append [] back page = refl
begins_append (e ∷ front) back page = by_test (e.0.start == page) refl (begins_append front back page) where
  by_test : (t : Bool) → (e.0.start == page) ≡ t → has_run_at (front ++ back)
      page ≡ (has_run_at front page || has_run_at back page) → has_run_at ((e ∷ front) ++ back)
      page ≡ (has_run_at (e ∷ front) page || has_run_at back page)
  by_test true is rest = rw is refl
  by_test false is rest = rw is rest

holds_not_below : (page : ℕ) (e : Interval ℕ × Rights) → page < e.0.start → holds page e ≡ false
holds_not_below page e h = grind (arith, nat_tests)

holds_not_above : (page : ℕ) (e : Interval ℕ × Rights) → e.0.end ≤ page → holds page e ≡ false
holds_not_above page e h = grind (arith, nat_tests)

pub holds_inside : (page : ℕ) (e : Interval ℕ × Rights) → e.0.start ≤ page → page < e.0.end → holds page e ≡ true
holds_inside page e h k = grind (arith, nat_tests)

-- no page before the runs or after them
pub none_below : (from : ℕ) (es : List (Interval ℕ × Rights)) (to page : ℕ) → RunsFollow from es to → page < from → rights_in es page ≡ None
none_below from [] to page f h = refl
none_below from (e ∷ es) to page f h =
    let t = holds_not_below page e (omega (arith, h, f.0)) in rw t (none_below e.0.end es to page f.2 (omega (arith, h, f.0, f.1)))

pub none_above : (from : ℕ) (es : List (Interval ℕ × Rights)) (to page : ℕ) → RunsFollow from es to → to ≤ page → rights_in es page ≡ None
none_above from [] to page f h = refl
none_above from (e ∷ es) to page f h =
    let i = follow_to e.0.end es to f.2 in
    let t = holds_not_above page e (omega (arith, i, h)) in rw t (none_above e.0.end es to page f.2 h)

-- no run begins before the runs, or after them
pub none_begins_below : (from : ℕ) (es : List (Interval ℕ × Rights)) (to page : ℕ) → RunsFollow from es to → page < from → has_run_at es page ≡ false
none_begins_below from [] to page f h = refl
none_begins_below from (e ∷ es) to page f h =
    let t : (e.0.start == page) ≡ false = grind (arith, nat_tests, f.0, h) in rw t (none_begins_below e.0.end es to page f.2 (omega (arith, h, f.0, f.1)))

pub none_begins_above : (from : ℕ) (es : List (Interval ℕ × Rights)) (to page : ℕ) → RunsFollow from es to → to ≤ page → has_run_at es page ≡ false
none_begins_above from [] to page f h = refl
none_begins_above from (e ∷ es) to page f h =
    let i = follow_to e.0.end es to f.2 in
    let t : (e.0.start == page) ≡ false = grind (arith, nat_tests, f.1, i, h) in rw t (none_begins_above e.0.end es to page f.2 h)

-- where a run begins, a page is mapped
pub begins_mapped : (from : ℕ) (es : List (Interval ℕ × Rights)) (to page : ℕ) → RunsFollow from es to →
    has_run_at es page ≡ true → rights_in es page ≡ None → ⊥
begins_mapped from [] to page f h n = absurd (cc)
begins_mapped from (e ∷ es) to page f h n = by_test (e.0.start == page) refl (begins_mapped e.0.end es to page f.2) where
  by_hold : (t : Bool) → holds page e ≡ t → (has_run_at es page ≡ true → rights_in es page ≡ None → ⊥) → has_run_at es page ≡ true → ⊥
  by_hold true is rest k = let no : Some e.1 ≡ None = rw is at n in absurd (cc)
  by_hold false is rest k = rest k (rw is at n)

  by_test : (t : Bool) → (e.0.start == page) ≡ t → (has_run_at es page ≡ true → rights_in es page ≡ None → ⊥) → ⊥
  by_test true is rest = let t : holds page e ≡ true = grind (arith, nat_tests, f.1, is) in let no : Some e.1 ≡ None = rw t at n in absurd (cc)
  by_test false is rest = by_hold (holds page e) refl rest (rw is at h)

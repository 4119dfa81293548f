-- One run among others, and the runs after others stand in its place.
use Rattle.std.proofs.Common.{◌≡◌, ◌∙◌, ap, sym, refl, ℕ, ◌^◌, ◌<◌, ◌≤◌, ◌==◌, ◌&&◌, ◌||◌, Bool, true, false, cond, Option, Some, None, List, [], ◌∷◌, ◌++◌, map, arith, subst, ◌⊎◌, inl, inr}
use Rattle.std.proofs.lemmas.Bool.{cases_lt}
use Rattle.std.proofs.lemmas.Bool.Decides.{nat_tests}
use Rattle.std.specs.Prelude.{nat_lt}
use Rattle.std.specs.Ordering.{nat_cmp}
use Rattle.std.specs.declared.cmp.Ordering.TheVariants.{Greater}
use Rattle.meminterval.specs.declared.interval.Interval.{Interval}
use Rattle.meminterval.specs.Entries.{AllItems, or_else, with_entry, without_key}
use Rattle.meminterval.specs.Interval.{by_ends, with_end, HasOwnStart}
use Rattle.paging_core.specs.declared.page_table.Rights.{Rights}
use Rattle.address_space.specs.Runs.{RunsFollow, HasRun, rights_in, has_run_at, crosses, holds}
use Rattle.address_space.proofs.Splits.{follow_to, follow_append}
use Rattle.address_space.proofs.Changes.{less, greater, rights_append, begins_append, none_above, none_below, without_between, end_between, own_between, holds_inside}
use Rattle.address_space.proofs.Clear.{IsSplit, or_first}

abbrev pub run_of : ℕ → ℕ → Rights → Interval ℕ × Rights
run_of start end rights = (record { start = start; end = end }, rights)

pub ends_are : (i : Interval ℕ) (start end : ℕ) → i.start ≡ start → i.end ≡ end → i ≡ record { start = start; end = end }
ends_are i start end s e = ap (λ (p : ℕ). record { start = p; end = i.end }) s ∙ ap (λ (p : ℕ). record { start = start; end = p }) e

-- ---- pages over which a run goes on

pub crosses_append : (front back : List (Interval ℕ × Rights)) (page : ℕ) → crosses (front ++ back) page ≡ (crosses front page || crosses back page)
crosses_append [] back page = refl
crosses_append (e ∷ front) back page = by_test (nat_lt e.0.start page && nat_lt page e.0.end) refl (crosses_append front back page) where
  by_test : (t : Bool) → (nat_lt e.0.start page && nat_lt page e.0.end) ≡ t →
      crosses (front ++ back) page ≡ (crosses front page || crosses back page) →
      crosses ((e ∷ front) ++ back) page ≡ (crosses (e ∷ front) page || crosses back page)
  by_test true is rest = rw is refl
  by_test false is rest = rw is rest

pub crosses_free : (es : List (Interval ℕ × Rights)) (page : ℕ) → rights_in es page ≡ None → crosses es page ≡ false
crosses_free [] page h = refl
crosses_free (e ∷ es) page h = by_test (holds page e) refl (crosses_free es page) where
  by_test : (t : Bool) → holds page e ≡ t → (rights_in es page ≡ None → crosses es page ≡ false) → crosses (e ∷ es) page ≡ false
  by_test true is rest = let no : Some e.1 ≡ None = rw is at h in absurd (cc)
  by_test false is rest =
      let t : (nat_lt e.0.start page && nat_lt page e.0.end) ≡ false = grind (arith, nat_tests, is) in
      rw t (rest (rw is at h))

or_false : (a b : Bool) → (a || b) ≡ false → (a ≡ false) × (b ≡ false)
or_false true b h = absurd (cc)
or_false false b h = (refl, h)

both_false : (a b : Bool) → a ≡ false → b ≡ false → (a || b) ≡ false
both_false a b h k = rw h k

or_true : (a b : Bool) → (a || b) ≡ true → (a ≡ true) ⊎ (b ≡ true)
or_true true b h = inl refl
or_true false b h = inr h

left_true : (a b : Bool) → a ≡ true → (a || b) ≡ true
left_true a b h = rw h refl

right_true : (a b : Bool) → b ≡ true → (a || b) ≡ true
right_true true b h = refl
right_true false b h = h

-- ---- what a run says

pub run_follow : (es : List (Interval ℕ × Rights)) (start end : ℕ) (rights : Rights) → HasRun es start end rights → RunsFollow 0 es (2 ^ 52)
run_follow es start end rights h =
    subst (λ (xs : List (Interval ℕ × Rights)). RunsFollow 0 xs (2 ^ 52)) (sym h.whole)
    (follow_append 0 start h.front (run_of start end rights ∷ h.back) (2 ^ 52) h.before (omega arith, h.some, h.behind))

pub run_within : (es : List (Interval ℕ × Rights)) (start end : ℕ) (rights : Rights) → HasRun es start end rights → end ≤ 2 ^ 52
run_within es start end rights h = follow_to end h.back (2 ^ 52) h.behind

pub run_rights : (es : List (Interval ℕ × Rights)) (start end : ℕ) (rights : Rights) (page : ℕ) →
    HasRun es start end rights → start ≤ page → page < end → rights_in es page ≡ Some rights
run_rights es start end rights page h from to =
    let x : Interval ℕ × Rights = run_of start end rights in
    let here : rights_in (x ∷ h.back) page ≡ Some rights = (let t = holds_inside page x from to in rw t refl) in
    ap (λ (xs : List (Interval ℕ × Rights)). rights_in xs page) h.whole
    ∙ (rights_append h.front (x ∷ h.back) page ∙ or_first (rights_in h.front page) (rights_in (x ∷ h.back) page) rights
    (none_above 0 h.front start page h.before from) here)

pub run_apart : (es : List (Interval ℕ × Rights)) (start end : ℕ) (rights : Rights) (page : ℕ) →
    HasRun es start end rights → crosses es page ≡ false → start < page → end ≤ page
run_apart es start end rights page h apart from = go (cases_lt page end) where
  go : (page < end) ⊎ (end ≤ page) → end ≤ page
  go (inr k) = k
  go (inl k) =
      let x : Interval ℕ × Rights = run_of start end rights in
      let none = or_false (crosses h.front page) (crosses (x ∷ h.back) page)
      (sym (crosses_append h.front (x ∷ h.back) page) ∙ (ap (λ (xs : List (Interval ℕ × Rights)). crosses xs page)
      (sym h.whole) ∙ apart)) in
      let t : (nat_lt start page && nat_lt page end) ≡ true = grind (arith, nat_tests, from, k) in
      let no : true ≡ false = rw t at none.1 in absurd (cc)

pub run_begins : (es : List (Interval ℕ × Rights)) (start end : ℕ) (rights : Rights) → HasRun es start end rights → has_run_at es start ≡ true
run_begins es start end rights h =
    let x : Interval ℕ × Rights = run_of start end rights in
    let t : (start == start) ≡ true = grind (arith, nat_tests) in
    let here : has_run_at (x ∷ h.back) start ≡ true = rw t refl in
    ap (λ (xs : List (Interval ℕ × Rights)). has_run_at xs start) h.whole
    ∙ (begins_append h.front (x ∷ h.back) start ∙ right_true (has_run_at h.front start) (has_run_at (x ∷ h.back) start)
    here)

-- runs before a page or after it do not go on over it
pub apart_above : (from : ℕ) (es : List (Interval ℕ × Rights)) (to page : ℕ) → RunsFollow from es to → to ≤ page → crosses es page ≡ false
apart_above from [] to page f h = refl
apart_above from (e ∷ es) to page f h =
    let i = follow_to e.0.end es to f.2 in
    let t : (nat_lt e.0.start page && nat_lt page e.0.end) ≡ false = grind (arith, nat_tests, i, h) in rw t (apart_above e.0.end es to page f.2 h)

pub apart_below : (from : ℕ) (es : List (Interval ℕ × Rights)) (to page : ℕ) → RunsFollow from es to → page ≤ from → crosses es page ≡ false
apart_below from [] to page f h = refl
apart_below from (e ∷ es) to page f h =
    let t : (nat_lt e.0.start page && nat_lt page e.0.end) ≡ false = grind (arith, nat_tests, f.0, h) in
    rw t (apart_below e.0.end es to page f.2 (omega (arith, h, f.0, f.1)))

pub split_apart : (first end : ℕ) (es : List (Interval ℕ × Rights)) (to : ℕ) → first ≤ end → IsSplit first end es to → crosses es end ≡ false
split_apart first end es to order s =
    ap (λ (xs : List (Interval ℕ × Rights)). crosses xs end) s.whole
    ∙ (crosses_append s.front s.back end ∙ both_false (crosses s.front end) (crosses s.back end)
    (apart_above 0 s.front first end s.before order) (apart_below end s.back to end s.behind (omega arith)))

-- no run goes on over the page where one begins
pub start_apart : (es : List (Interval ℕ × Rights)) (start end : ℕ) (rights : Rights) → HasRun es start end rights → crosses es start ≡ false
start_apart es start end rights h =
    split_apart start start es (2 ^ 52) (omega arith) (record {
      front = h.front;
      back = run_of start end rights ∷ h.back;
      whole = h.whole;
      before = h.before;
      behind = (omega arith, h.some, h.behind);
    })

-- ---- others in the place of a run

-- the runs of `middle` in the place of a run, up to a page at which or after which the next one begins
pub record IsReplaced (old new : List (Interval ℕ × Rights)) (start end to : ℕ) (rights : Rights) (middle : List (Interval ℕ × Rights)) : Type 0 where
  pub run : HasRun old start end rights
  pub whole : new ≡ run.front ++ (middle ++ run.back)
  pub order : end ≤ to
  pub follow : RunsFollow start middle to
  pub behind : RunsFollow to run.back (2 ^ 52)

pub replaced_follow : (old new : List (Interval ℕ × Rights)) (start end to : ℕ) (rights : Rights)
    (middle : List (Interval ℕ × Rights)) → IsReplaced old new start end to rights middle → RunsFollow 0 new (2 ^ 52)
replaced_follow old new start end to rights middle i =
    subst (λ (xs : List (Interval ℕ × Rights)). RunsFollow 0 xs (2 ^ 52)) (sym i.whole)
    (follow_append 0 start i.run.front (middle ++ i.run.back) (2 ^ 52) i.run.before (follow_append start to middle i.run.back (2 ^ 52) i.follow i.behind))

or_left : {A : Type 0} (a b : Option A) → b ≡ None → or_else a b ≡ a
or_left {A} None b h = h
or_left {A} (Some x) b h = refl

pub or_right : {A : Type 0} (a b : Option A) → a ≡ None → or_else a b ≡ b
or_right {A} a b h = rw h refl

pub replaced_inside : (old new : List (Interval ℕ × Rights)) (start end to : ℕ) (rights : Rights)
    (middle : List (Interval ℕ × Rights)) (page : ℕ) → IsReplaced old new start end to rights middle →
    start ≤ page → page < to → rights_in new page ≡ rights_in middle page
replaced_inside old new start end to rights middle page i h k =
    ap (λ (xs : List (Interval ℕ × Rights)). rights_in xs page) i.whole
    ∙ (rights_append i.run.front (middle ++ i.run.back) page
    ∙ (or_right (rights_in i.run.front page) (rights_in (middle ++ i.run.back) page) (none_above 0 i.run.front start page i.run.before h)
    ∙ (rights_append middle i.run.back page
    ∙ or_left (rights_in middle page) (rights_in i.run.back page) (none_below to i.run.back (2 ^ 52) page i.behind k))))

old_rights : (old new : List (Interval ℕ × Rights)) (start end to : ℕ) (rights : Rights)
    (middle : List (Interval ℕ × Rights)) (page : ℕ) (i : IsReplaced old new start end to rights middle) →
    holds page (run_of start end rights) ≡ false → rights_in old page ≡ or_else (rights_in i.run.front page) (rights_in i.run.back page)
old_rights old new start end to rights middle page i none =
    let skip : rights_in (run_of start end rights ∷ i.run.back) page ≡ rights_in i.run.back page = rw none refl in
    ap (λ (xs : List (Interval ℕ × Rights)). rights_in xs page) i.run.whole
    ∙ (rights_append i.run.front (run_of start end rights ∷ i.run.back) page ∙ ap (or_else (rights_in i.run.front page)) skip)

new_rights : (old new : List (Interval ℕ × Rights)) (start end to : ℕ) (rights : Rights)
    (middle : List (Interval ℕ × Rights)) (page : ℕ) (i : IsReplaced old new start end to rights middle) →
    rights_in middle page ≡ None → rights_in new page ≡ or_else (rights_in i.run.front page) (rights_in i.run.back page)
new_rights old new start end to rights middle page i none =
    let skip : rights_in (middle ++ i.run.back) page ≡ rights_in i.run.back page = rights_append middle i.run.back page
    ∙ or_right (rights_in middle page) (rights_in i.run.back page) none in
    ap (λ (xs : List (Interval ℕ × Rights)). rights_in xs page) i.whole
    ∙ (rights_append i.run.front (middle ++ i.run.back) page ∙ ap (or_else (rights_in i.run.front page)) skip)

pub replaced_outside : (old new : List (Interval ℕ × Rights)) (start end to : ℕ) (rights : Rights)
    (middle : List (Interval ℕ × Rights)) (page : ℕ) → IsReplaced old new start end to rights middle →
    (page < start) ⊎ (to ≤ page) → rights_in new page ≡ rights_in old page
replaced_outside old new start end to rights middle page i side =
    new_rights old new start end to rights middle page i (gone side) ∙ sym (old_rights old new start end to rights middle page i (missed side)) where
      gone : (page < start) ⊎ (to ≤ page) → rights_in middle page ≡ None
      gone (inl h) = none_below start middle to page i.follow h
      gone (inr h) = none_above start middle to page i.follow h

      missed : (page < start) ⊎ (to ≤ page) → holds page (run_of start end rights) ≡ false
      missed (inl h) = grind (arith, nat_tests, h)
      missed (inr h) = let o = i.order in grind (arith, nat_tests, h, o)

pub replaced_begins : (old new : List (Interval ℕ × Rights)) (start end to : ℕ) (rights : Rights)
    (middle : List (Interval ℕ × Rights)) (page : ℕ) → IsReplaced old new start end to rights middle →
    has_run_at new page ≡ true → (has_run_at middle page ≡ true) ⊎ (has_run_at old page ≡ true)
replaced_begins old new start end to rights middle page i h =
    go (or_true (has_run_at i.run.front page) (has_run_at (middle ++ i.run.back) page)
    (sym (begins_append i.run.front (middle ++ i.run.back) page) ∙ (ap
    (λ (xs : List (Interval ℕ × Rights)). has_run_at xs page) (sym i.whole) ∙ h))) where
      x : Interval ℕ × Rights
      x = run_of start end rights

      was : has_run_at old page ≡ (has_run_at i.run.front page || has_run_at (x ∷ i.run.back) page)
      was = ap (λ (xs : List (Interval ℕ × Rights)). has_run_at xs page) i.run.whole ∙ begins_append i.run.front (x ∷ i.run.back) page

      later : (t : Bool) → (start == page) ≡ t → has_run_at i.run.back page ≡ true → has_run_at (x ∷ i.run.back) page ≡ true
      later true is b = rw is refl
      later false is b = rw is b

      behind : (has_run_at middle page ≡ true) ⊎ (has_run_at i.run.back page ≡ true) → (has_run_at middle page ≡ true) ⊎ (has_run_at old page ≡ true)
      behind (inl m) = inl m
      behind (inr b) = inr (was ∙ right_true (has_run_at i.run.front page) (has_run_at (x ∷ i.run.back) page) (later (start == page) refl b))

      go : (has_run_at i.run.front page ≡ true) ⊎ (has_run_at (middle ++ i.run.back) page ≡ true) →
          (has_run_at middle page ≡ true) ⊎ (has_run_at old page ≡ true)
      go (inl f) = inr (was ∙ left_true (has_run_at i.run.front page) (has_run_at (x ∷ i.run.back) page) f)
      go (inr m) = behind (or_true (has_run_at middle page) (has_run_at i.run.back page) (sym (begins_append middle i.run.back page) ∙ m))

pub replaced_apart : (old new : List (Interval ℕ × Rights)) (start end to : ℕ) (rights : Rights)
    (middle : List (Interval ℕ × Rights)) (page : ℕ) → IsReplaced old new start end to rights middle →
    crosses old page ≡ false → crosses middle page ≡ false → crosses new page ≡ false
replaced_apart old new start end to rights middle page i h m =
    let x : Interval ℕ × Rights = run_of start end rights in
    let sides = or_false (crosses i.run.front page) (crosses (x ∷ i.run.back) page)
    (sym (crosses_append i.run.front (x ∷ i.run.back) page) ∙ (ap (λ (xs : List (Interval ℕ × Rights)). crosses xs page)
    (sym i.run.whole) ∙ h)) in
    let back = past (nat_lt start page && nat_lt page end) (crosses i.run.back page) sides.1 in
    ap (λ (xs : List (Interval ℕ × Rights)). crosses xs page) i.whole
    ∙ (crosses_append i.run.front (middle ++ i.run.back) page
    ∙ both_false (crosses i.run.front page) (crosses (middle ++ i.run.back) page) sides.0
    (crosses_append middle i.run.back page ∙ both_false (crosses middle page) (crosses i.run.back page) m back)) where
      past : (t b : Bool) → cond t true b ≡ false → b ≡ false
      past true b h = absurd (cc)
      past false b h = h

-- ---- the changes of the tree

longer : (start a b : ℕ) → b < a → by_ends nat_cmp (record { start = start; end = a }) (record { start = start; end = b }) ≡ Greater
longer start a b h = grind (arith, nat_tests)

entry_behind : (x e : Interval ℕ × Rights) (from : ℕ) (front back : List (Interval ℕ × Rights)) (next to : ℕ) →
    RunsFollow from front e.0.start → e.0.start ≤ x.0.start → by_ends nat_cmp x.0 e.0 ≡ Greater → x.0.start < next →
    RunsFollow next back to →
    with_entry (by_ends nat_cmp) x (front ++ e ∷ back) ≡ front ++ e ∷ x ∷ back
entry_behind x e from [] [] next to f le order h g = rw order refl
entry_behind x e from [] (b ∷ back) next to f le order h g = let later = less x.0 b.0 (omega (arith, h, g.0)) in rw order (rw later refl)
entry_behind x e from (y ∷ front) back next to f le order h g =
    let i = follow_to y.0.end front e.0.start f.2 in
    let above = greater x.0 y.0 (omega (arith, i, le, f.1)) in
    rw above (ap (λ ys. y ∷ ys) (entry_behind x e y.0.end front back next to f.2 le order h g))

-- a run before others, which begin at a page or after it
pub record IsAmong (es : List (Interval ℕ × Rights)) (start end next : ℕ) (rights : Rights) : Type 0 where
  pub front : List (Interval ℕ × Rights)
  pub back : List (Interval ℕ × Rights)
  pub whole : es ≡ front ++ (record { start = start; end = end }, rights) ∷ back
  pub before : RunsFollow 0 front start
  pub some : start < next
  pub behind : RunsFollow next back (2 ^ 52)

abbrev pub among : (es : List (Interval ℕ × Rights)) (start end : ℕ) (rights : Rights) → HasRun es start end rights → IsAmong es start end end rights
among es start end rights h = record { front = h.front; back = h.back; whole = h.whole; before = h.before; some = h.some; behind = h.behind }

pub own_run : (es : List (Interval ℕ × Rights)) (start end next : ℕ) (rights : Rights) (i : Interval ℕ) →
    IsAmong es start end next rights → i.start ≡ start → i.end ≡ end → AllItems (HasOwnStart nat_cmp i) es
own_run es start end next rights i h s e =
    subst (λ (j : Interval ℕ). AllItems (HasOwnStart nat_cmp j) es) (sym (ends_are i start end s e))
    (subst (λ (xs : List (Interval ℕ × Rights)). AllItems (HasOwnStart nat_cmp (record { start = start; end = end })) xs) (sym h.whole)
    (own_between (run_of start end rights) 0 h.front h.back next (2 ^ 52) h.before h.some h.behind))

pub shortened : (es new : List (Interval ℕ × Rights)) (start end next to : ℕ) (rights : Rights) (i : Interval ℕ)
    (h : IsAmong es start end next rights) → i.start ≡ start → i.end ≡ end → new ≡ map (with_end nat_cmp i to) es →
    new ≡ h.front ++ run_of start to rights ∷ h.back
shortened es new start end next to rights i h s e is =
    is ∙ (ap (λ (j : Interval ℕ). map (with_end nat_cmp j to) es) (ends_are i start end s e)
    ∙ (ap (map (with_end nat_cmp (record { start = start; end = end }) to)) h.whole
    ∙ end_between (run_of start end rights) to 0 h.front h.back next (2 ^ 52) h.before h.some h.behind))

pub deleted : (es new front back : List (Interval ℕ × Rights)) (start end : ℕ) (rights : Rights) (i : Interval ℕ) →
    es ≡ front ++ run_of start end rights ∷ back → RunsFollow 0 front start → i.start ≡ start → i.end ≡ end →
    new ≡ without_key (by_ends nat_cmp) i es →
    new ≡ front ++ back
deleted es new front back start end rights i whole before s e is =
    is ∙ (ap (λ (j : Interval ℕ). without_key (by_ends nat_cmp) j es) (ends_are i start end s e)
    ∙ (ap (without_key (by_ends nat_cmp) (record { start = start; end = end })) whole ∙ without_between (run_of start end rights) 0 front back before))

-- one more run that begins inside
pub inserted_inside : (es new : List (Interval ℕ × Rights)) (start end page : ℕ) (rights new_rights : Rights)
    (i : Interval ℕ) (h : HasRun es start end rights) → start < page → page < end → i.start ≡ page → i.end ≡ end →
    new ≡ with_entry (by_ends nat_cmp) (i, new_rights) es → new ≡ h.front ++ run_of start end rights ∷ run_of page end new_rights ∷ h.back
inserted_inside es new start end page rights new_rights i h above below s e is =
    is ∙ (ap (λ (j : Interval ℕ). with_entry (by_ends nat_cmp) (j, new_rights) es) (ends_are i page end s e)
    ∙ (ap (with_entry (by_ends nat_cmp) (run_of page end new_rights)) h.whole
    ∙ entry_behind (run_of page end new_rights) (run_of start end rights) 0 h.front h.back end (2 ^ 52) h.before
    (omega (arith, above)) (greater (record { start = page; end = end }) (record { start = start; end = end }) above)
    below h.behind))

-- one more with the same start that is longer
pub inserted_longer : (es new : List (Interval ℕ × Rights)) (start end to : ℕ) (rights new_rights : Rights) (i : Interval ℕ)
    (h : HasRun es start end rights) → end < to → i.start ≡ start → i.end ≡ to →
    new ≡ with_entry (by_ends nat_cmp) (i, new_rights) es → new ≡ h.front ++ run_of start end rights ∷ run_of start to new_rights ∷ h.back
inserted_longer es new start end to rights new_rights i h more s e is =
    is ∙ (ap (λ (j : Interval ℕ). with_entry (by_ends nat_cmp) (j, new_rights) es) (ends_are i start to s e)
    ∙ (ap (with_entry (by_ends nat_cmp) (run_of start to new_rights)) h.whole
    ∙ entry_behind (run_of start to new_rights) (run_of start end rights) 0 h.front h.back end (2 ^ 52) h.before
    (omega arith) (longer start to end more) h.some h.behind))

-- the runs after one was put in, as far as a run of them is looked for
abbrev pub two_runs : (es new : List (Interval ℕ × Rights)) (start end page : ℕ) (rights new_rights : Rights)
    (h : HasRun es start end rights) → start < page → page < end →
    new ≡ h.front ++ run_of start end rights ∷ run_of page end new_rights ∷ h.back → IsAmong new start end page rights
two_runs es new start end page rights new_rights h above below is =
    record { front = h.front; back = run_of page end new_rights ∷ h.back; whole = is; before = h.before; some = above; behind = (omega arith, below, h.behind) }

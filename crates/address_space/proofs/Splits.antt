-- Runs as those before a page and those after it.
use Rattle.std.proofs.Common.{◌≡◌, ◌∙◌, ap, sym, refl, ℕ, ◌+◌, ◌<◌, ◌≤◌, Bool, true, false, subst, Option, Some, None, List, [], ◌∷◌, ◌++◌, length, arith}
use Rattle.std.proofs.lemmas.Bool.Decides.{nat_tests}
use Rattle.std.specs.Prelude.{nat_lt}
use Rattle.std.specs.Ordering.{is_lt, nat_cmp}
use Rattle.meminterval.specs.declared.interval.Interval.{Interval}
use Rattle.meminterval.specs.Entries.{AllItems, first, last, or_else}
use Rattle.meminterval.specs.Interval.{starts_below, starts_from}
use Rattle.paging_core.specs.declared.page_table.Rights.{Rights}
use Rattle.address_space.specs.Runs.{RunsFollow}

below : (a b : ℕ) → is_lt (nat_cmp a b) ≡ nat_lt a b
below a b = grind (arith, nat_tests)

pub start_lt : (page : ℕ) (e : Interval ℕ × Rights) → starts_below nat_cmp page e ≡ true → e.0.start < page
start_lt page e h = let k : nat_lt e.0.start page ≡ true = sym (below e.0.start page) ∙ h in grind (arith, nat_tests, k)

pub start_ge : (page : ℕ) (e : Interval ℕ × Rights) → starts_below nat_cmp page e ≡ false → page ≤ e.0.start
start_ge page e h = let k : nat_lt e.0.start page ≡ false = sym (below e.0.start page) ∙ h in grind (arith, nat_tests, k)

pub lt_test : (page : ℕ) (e : Interval ℕ × Rights) → e.0.start < page → starts_below nat_cmp page e ≡ true
lt_test page e h = grind (arith, nat_tests)

pub ge_test : (page : ℕ) (e : Interval ℕ × Rights) → page ≤ e.0.start → starts_below nat_cmp page e ≡ false
ge_test page e h = grind (arith, nat_tests)

-- ---- runs that follow each other

pub follow_to : (from : ℕ) (es : List (Interval ℕ × Rights)) (to : ℕ) → RunsFollow from es to → from ≤ to
follow_to from [] to f = f
follow_to from (e ∷ es) to f = let i = follow_to e.0.end es to f.2 in omega (arith, i, f.0, f.1)

pub follow_down : (from lower : ℕ) (es : List (Interval ℕ × Rights)) (to : ℕ) → RunsFollow from es to → lower ≤ from → RunsFollow lower es to
follow_down from lower [] to f h = omega (arith, f, h)
follow_down from lower (e ∷ es) to f h = (omega (arith, f.0, h), f.1, f.2)

pub follow_length : (from : ℕ) (es : List (Interval ℕ × Rights)) (to : ℕ) → RunsFollow from es to → length es + from ≤ to
follow_length from [] to f = omega (arith, f)
follow_length from (e ∷ es) to f = let i = follow_length e.0.end es to f.2 in omega (arith, i, f.0, f.1)

pub follow_append : (from middle : ℕ) (es fs : List (Interval ℕ × Rights)) (to : ℕ) → RunsFollow from es middle →
    RunsFollow middle fs to → RunsFollow from (es ++ fs) to
follow_append from middle [] fs to f g = follow_down middle from fs to g f
follow_append from middle (e ∷ es) fs to f g = (f.0, f.1, follow_append e.0.end middle es fs to f.2 g)

-- ---- what the look-ups find

-- the last run that begins below a page, among all
pub record IsLast (at from : ℕ) (es : List (Interval ℕ × Rights)) (to : ℕ) (e : Interval ℕ × Rights) : Type 0 where
  pub front : List (Interval ℕ × Rights)
  pub back : List (Interval ℕ × Rights)
  pub whole : es ≡ front ++ e ∷ back
  pub before : RunsFollow from front e.0.start
  pub starts : e.0.start < at
  pub some : e.0.start < e.0.end
  pub next : RunsFollow e.0.end back to
  pub behind : RunsFollow at back to

pub none_last : (at from : ℕ) (es : List (Interval ℕ × Rights)) (to : ℕ) → RunsFollow from es to → at ≤ to →
    last (starts_below nat_cmp at) es ≡ None → RunsFollow at es to
none_last at from [] to f k l = k
none_last at from (x ∷ es) to f k l = by_rest (last (starts_below nat_cmp at) es) (starts_below nat_cmp at x) refl refl where
  by_rest : (o : Option (Interval ℕ × Rights)) (t : Bool) → last (starts_below nat_cmp at) es ≡ o → starts_below nat_cmp at x ≡ t → RunsFollow at (x ∷ es) to
  by_rest (Some later) t is q = let no : Some later ≡ None = rw is at l in absurd (cc)
  by_rest None true is q = let no : or_else None (Some x) ≡ None = rw q at (rw is at l) in absurd (cc)
  by_rest None false is q = (start_ge at x q, f.1, f.2)

pub last_is : (at from : ℕ) (es : List (Interval ℕ × Rights)) (to : ℕ) (e : Interval ℕ × Rights) → RunsFollow from es to →
    at ≤ to → last (starts_below nat_cmp at) es ≡ Some e → IsLast at from es to e
last_is at from [] to e f k l = absurd (cc)
last_is at from (x ∷ es) to e f k l = by_rest (last (starts_below nat_cmp at) es) (starts_below nat_cmp at x) refl refl (last_is at x.0.end es to e f.2 k) where
  by_rest : (o : Option (Interval ℕ × Rights)) (t : Bool) → last (starts_below nat_cmp at) es ≡ o →
      starts_below nat_cmp at x ≡ t → (last (starts_below nat_cmp at) es ≡ Some e → IsLast at x.0.end es to e) →
      IsLast at from (x ∷ es) to e
  by_rest (Some later) t is q rest =
      let same : Some later ≡ Some e = rw is at l in
      let i = rest (is ∙ same) in
      record {
        front = x ∷ i.front;
        back = i.back;
        whole = ap (λ ys. x ∷ ys) i.whole;
        before = (f.0, f.1, i.before);
        starts = i.starts;
        some = i.some;
        next = i.next;
        behind = i.behind;
      }
  by_rest None true is q rest =
      let same : or_else None (Some x) ≡ Some e = rw q at (rw is at l) in
      let is_it : x ≡ e = cc in
      subst (λ (p : Interval ℕ × Rights). IsLast at from (x ∷ es) to p) is_it
      (record {
        front = [];
        back = es;
        whole = refl;
        before = f.0;
        starts = start_lt at x q;
        some = f.1;
        next = f.2;
        behind = none_last at x.0.end es to f.2 k is;
      })
  by_rest None false is q rest = let no : or_else None None ≡ Some e = rw q at (rw is at l) in absurd (cc)

-- after a front of earlier starts the first from a page on is the first of the back
pub past_front : (at : ℕ) (front back : List (Interval ℕ × Rights)) → AllItems (λ e. e.0.start < at) front →
    first (starts_from nat_cmp at) (front ++ back) ≡ first (starts_from nat_cmp at) back
past_front at [] back h = refl
past_front at (e ∷ front) back h = let t = lt_test at e h.0 in rw t (past_front at front back h.1)

pub head_is : (at : ℕ) (back : List (Interval ℕ × Rights)) (to : ℕ) (next : Interval ℕ × Rights) → RunsFollow at back to →
    first (starts_from nat_cmp at) back ≡ Some next → (rest : List (Interval ℕ × Rights)) × (back ≡ next ∷ rest)
head_is at [] to next f h = absurd (cc)
head_is at (e ∷ rest) to next f h =
    let t = ge_test at e f.0 in
    let same : Some e ≡ Some next = rw t at h in
    let is_it : e ≡ next = cc in
    (rest, ap (λ x. x ∷ rest) is_it)

pub none_is : (at : ℕ) (back : List (Interval ℕ × Rights)) (to : ℕ) → RunsFollow at back to → first (starts_from nat_cmp at) back ≡ None → back ≡ []
none_is at [] to f h = refl
none_is at (e ∷ rest) to f h = let t = ge_test at e f.0 in let no : Some e ≡ None = rw t at h in absurd (cc)

-- runs before a page begin before it
pub all_before : (from : ℕ) (front : List (Interval ℕ × Rights)) (end at : ℕ) → RunsFollow from front end → end ≤ at → AllItems (λ e. e.0.start < at) front
all_before from [] end at f h = tt
all_before from (e ∷ front) end at f h = let i = follow_to e.0.end front end f.2 in (omega (arith, i, f.1, h), all_before e.0.end front end at f.2 h)

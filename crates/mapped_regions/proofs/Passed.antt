-- Pages that were passed in the search for a place.
use Rattle.std.proofs.Common.{◌≡◌, ◌∙◌, ap, sym, refl, ℕ, ◌+◌, ◌*◌, ◌/◌, ◌<◌, ◌≤◌, Bool, true, false, ◌||◌, subst, Option, Some, None, List, [], ◌∷◌, arith, ◌⊎◌, inl, inr}
use Rattle.std.proofs.lemmas.Bool.{cases_lt}
use Rattle.std.proofs.lemmas.Bool.Decides.{nat_tests}
use Rattle.std.specs.Prelude.{nat_lt}
use Rattle.std.specs.Ordering.{is_lt, nat_cmp}
use Rattle.machine_model.specs.Place.{meets, meets_any}
use Rattle.meminterval.specs.declared.interval.Interval.{Interval}
use Rattle.meminterval.specs.Entries.{AllItems, first, last, or_else}
use Rattle.meminterval.specs.Interval.{starts_below, starts_from}
use Rattle.mapped_regions.specs.declared.region_tree.Kind.{Kind}
use Rattle.machine_model.specs.Place.{IsFit, IsPlace, HasNoPlace}
use Rattle.mapped_regions.specs.Pairs.{region_of, pair_regions, Follow}

pub below : (a b : ℕ) → is_lt (nat_cmp a b) ≡ nat_lt a b
below a b = grind (arith, nat_tests)

-- whether n pages from a page meet a pair
pub meets_pair : (page n : ℕ) (e : Interval ℕ × Kind) → e.0.start < e.0.end → page < e.0.end → e.0.start < page + n → meets (4096 * page) n (region_of e) ≡ true
meets_pair page n e some h k = grind (arith, nat_tests)

pub misses_before : (page n : ℕ) (e : Interval ℕ × Kind) → e.0.start < e.0.end → e.0.end ≤ page → meets (4096 * page) n (region_of e) ≡ false
misses_before page n e some h = grind (arith, nat_tests)

pub misses_behind : (page n : ℕ) (e : Interval ℕ × Kind) → page + n ≤ e.0.start → meets (4096 * page) n (region_of e) ≡ false
misses_behind page n e h = grind (arith, nat_tests)

-- no pair that starts before a page goes on after it
abbrev pub EndBefore : ℕ → List (Interval ℕ × Kind) → Type 0
EndBefore at es = AllItems (λ e. e.0.start < at → e.0.end ≤ at) es

-- pairs after some pages miss them
all_behind : (page n from : ℕ) (es : List (Interval ℕ × Kind)) (to : ℕ) → Follow from es to → page + n ≤ from →
    meets_any (4096 * page) n (pair_regions es) ≡ false
all_behind page n from [] to f h = refl
all_behind page n from (e ∷ es) to f h = grind (arith, misses_behind page n e, all_behind page n e.0.end es to f.2, f.0, f.1)

pub start_lt : (page : ℕ) (e : Interval ℕ × Kind) → starts_below nat_cmp page e ≡ true → e.0.start < page
start_lt page e h = let k : nat_lt e.0.start page ≡ true = sym (below e.0.start page) ∙ h in grind (arith, nat_tests, k)

pub start_ge : (page : ℕ) (e : Interval ℕ × Kind) → starts_below nat_cmp page e ≡ false → page ≤ e.0.start
start_ge page e h = let k : nat_lt e.0.start page ≡ false = sym (below e.0.start page) ∙ h in grind (arith, nat_tests, k)

-- n pages miss the first pair and the others
misses_both : (page n : ℕ) (e : Interval ℕ × Kind) (es : List (Interval ℕ × Kind)) →
    meets (4096 * page) n (region_of e) ≡ false → meets_any (4096 * page) n (pair_regions es) ≡ false →
    meets_any (4096 * page) n (pair_regions (e ∷ es)) ≡ false
misses_both page n e es h k = rw h k

meets_first : (page n : ℕ) (e : Interval ℕ × Kind) (es : List (Interval ℕ × Kind)) →
    meets (4096 * page) n (region_of e) ≡ true → meets_any (4096 * page) n (pair_regions (e ∷ es)) ≡ true
meets_first page n e es h = rw h refl

meets_later : (page n : ℕ) (e : Interval ℕ × Kind) (es : List (Interval ℕ × Kind)) →
    meets_any (4096 * page) n (pair_regions es) ≡ true → meets_any (4096 * page) n (pair_regions (e ∷ es)) ≡ true
meets_later page n e es h = by_test (meets (4096 * page) n (region_of e)) where
  by_test : (t : Bool) → (t || meets_any (4096 * page) n (pair_regions es)) ≡ true
  by_test true = refl
  by_test false = h

-- if no pair starts at the page or after it, all are before it
pub clear_end : (page n from : ℕ) (es : List (Interval ℕ × Kind)) (to : ℕ) → Follow from es to → EndBefore page es →
    first (starts_from nat_cmp page) es ≡ None → meets_any (4096 * page) n (pair_regions es) ≡ false
clear_end page n from [] to f b h = refl
clear_end page n from (e ∷ es) to f b h = by_start (starts_below nat_cmp page e) refl (clear_end page n e.0.end es to f.2 b.1) where
  by_start : (t : Bool) → starts_below nat_cmp page e ≡ t → (first (starts_from nat_cmp page) es ≡ None →
      meets_any (4096 * page) n (pair_regions es) ≡ false) → meets_any (4096 * page) n (pair_regions (e ∷ es)) ≡ false
  by_start true is rest = misses_both page n e es (misses_before page n e f.1 (b.0 (start_lt page e is))) (rest (rw is at h))
  by_start false is rest = let no : Some e ≡ None = rw is at h in absurd (cc)

-- if the first pair that starts there or after it starts after the pages
pub clear_gap : (page n from : ℕ) (es : List (Interval ℕ × Kind)) (to : ℕ) (next : Interval ℕ × Kind) → Follow from es to →
    EndBefore page es → first (starts_from nat_cmp page) es ≡ Some next → page + n ≤ next.0.start →
    meets_any (4096 * page) n (pair_regions es) ≡ false
clear_gap page n from [] to next f b h k = refl
clear_gap page n from (e ∷ es) to next f b h k = by_start (starts_below nat_cmp page e) refl (λ i. clear_gap page n e.0.end es to next f.2 b.1 i k) where
  by_start : (t : Bool) → starts_below nat_cmp page e ≡ t → (first (starts_from nat_cmp page) es ≡ Some next →
      meets_any (4096 * page) n (pair_regions es) ≡ false) → meets_any (4096 * page) n (pair_regions (e ∷ es)) ≡ false
  by_start true is rest = misses_both page n e es (misses_before page n e f.1 (b.0 (start_lt page e is))) (rest (rw is at h))
  by_start false is rest =
      let same : Some e ≡ Some next = rw is at h in
      let is_next : e ≡ next = cc in
      let starts : page + n ≤ e.0.start = rw is_next k in
      misses_both page n e es (misses_behind page n e starts) (all_behind page n e.0.end es to f.2 (omega (arith, starts, f.1)))

-- a pair that was found is met by pages that reach over its start and begin before its end
pub found_first : (page at n from : ℕ) (es : List (Interval ℕ × Kind)) (to : ℕ) (next : Interval ℕ × Kind) →
    Follow from es to → first (starts_from nat_cmp at) es ≡ Some next → page < next.0.end → next.0.start < page + n →
    meets_any (4096 * page) n (pair_regions es) ≡ true
found_first page at n from [] to next f h l k = absurd (cc)
found_first page at n from (e ∷ es) to next f h l k = by_start (starts_below nat_cmp at e) refl (λ i. found_first page at n e.0.end es to next f.2 i l k) where
  by_start : (t : Bool) → starts_below nat_cmp at e ≡ t → (first (starts_from nat_cmp at) es ≡ Some next →
      meets_any (4096 * page) n (pair_regions es) ≡ true) → meets_any (4096 * page) n (pair_regions (e ∷ es)) ≡ true
  by_start true is rest = meets_later page n e es (rest (rw is at h))
  by_start false is rest =
      let same : Some e ≡ Some next = rw is at h in
      let is_next : e ≡ next = cc in
      meets_first page n e es (meets_pair page n e f.1 (rw is_next l) (rw is_next k))

-- what a pair has that was found after a page
pub record IsBehind (at from : ℕ) (es : List (Interval ℕ × Kind)) (to : ℕ) (next : Interval ℕ × Kind) : Type 0 where
  pub starts : at ≤ next.0.start
  pub after : from ≤ next.0.start
  pub some : next.0.start < next.0.end
  pub within : next.0.end ≤ to
  pub before : EndBefore next.0.end es

-- pairs after a page have no start before it
ends_behind : (at from : ℕ) (es : List (Interval ℕ × Kind)) (to : ℕ) → Follow from es to → at ≤ from → EndBefore at es
ends_behind at from [] to f h = tt
ends_behind at from (e ∷ es) to f h = ((λ l. absurd (omega (arith, l, h, f.0))), ends_behind at e.0.end es to f.2 (omega (arith, h, f.0, f.1)))

follow_to : (from : ℕ) (es : List (Interval ℕ × Kind)) (to : ℕ) → Follow from es to → from ≤ to
follow_to from [] to f = f
follow_to from (e ∷ es) to f = let i = follow_to e.0.end es to f.2 in omega (arith, i, f.0, f.1)

pub behind_first : (at from : ℕ) (es : List (Interval ℕ × Kind)) (to : ℕ) (next : Interval ℕ × Kind) → Follow from es to →
    first (starts_from nat_cmp at) es ≡ Some next → IsBehind at from es to next
behind_first at from [] to next f h = absurd (cc)
behind_first at from (e ∷ es) to next f h = by_start (starts_below nat_cmp at e) refl (behind_first at e.0.end es to next f.2) where
  by_start : (t : Bool) → starts_below nat_cmp at e ≡ t → (first (starts_from nat_cmp at) es ≡ Some next →
      IsBehind at e.0.end es to next) → IsBehind at from (e ∷ es) to next
  by_start true is rest =
      let i = rest (rw is at h) in
      record {
        starts = i.starts;
        after = omega (arith, i.after, f.0, f.1);
        some = i.some;
        within = i.within;
        before =
            ((λ l. omega (arith, i.after, i.some)), i.before);
      }
  by_start false is rest =
      let same : Some e ≡ Some next = rw is at h in
      let is_next : e ≡ next = cc in
      subst (λ (p : Interval ℕ × Kind). IsBehind at from (e ∷ es) to p) is_next
      (record {
        starts = start_ge at e is;
        after = f.0;
        some = f.1;
        within = follow_to e.0.end es to f.2;
        before =
            ((λ l. omega arith), ends_behind e.0.end e.0.end es to f.2 (omega arith));
      })

-- if no pair starts before a page, none goes on after it
pub ends_none : (base at : ℕ) (es : List (Interval ℕ × Kind)) → at ≤ base → last (starts_below nat_cmp base) es ≡ None → EndBefore at es
ends_none base at [] h l = tt
ends_none base at (e ∷ es) h l = by_rest (last (starts_below nat_cmp base) es) (starts_below nat_cmp base e) refl refl (ends_none base at es h) where
  by_rest : (o : Option (Interval ℕ × Kind)) (t : Bool) → last (starts_below nat_cmp base) es ≡ o →
      starts_below nat_cmp base e ≡ t → (last (starts_below nat_cmp base) es ≡ None → EndBefore at es) →
      EndBefore at (e ∷ es)
  by_rest (Some later) t is q rest = let no : Some later ≡ None = rw is at l in absurd (cc)
  by_rest None true is q rest = let no : or_else None (Some e) ≡ None = rw q at (rw is at l) in absurd (cc)
  by_rest None false is q rest = let ge = start_ge base e q in ((λ k. absurd (omega (arith, k, ge, h))), rest is)

-- what the last pair has that starts before a page
pub record IsLast (base from : ℕ) (es : List (Interval ℕ × Kind)) (to : ℕ) (e : Interval ℕ × Kind) : Type 0 where
  pub starts : e.0.start < base
  pub after : from ≤ e.0.start
  pub some : e.0.start < e.0.end
  pub within : e.0.end ≤ to
  pub before_base : (at : ℕ) → e.0.end ≤ at → at ≤ base → EndBefore at es
  pub before_end : EndBefore e.0.end es
  pub met : (page n : ℕ) → base ≤ page → page < e.0.end → meets_any (4096 * page) n (pair_regions es) ≡ true

pub last_is : (base from : ℕ) (es : List (Interval ℕ × Kind)) (to : ℕ) (e : Interval ℕ × Kind) → Follow from es to →
    last (starts_below nat_cmp base) es ≡ Some e → IsLast base from es to e
last_is base from [] to e f l = absurd (cc)
last_is base from (x ∷ es) to e f l = by_rest (last (starts_below nat_cmp base) es) (starts_below nat_cmp base x) refl refl
    (last_is base x.0.end es to e f.2) where
      by_rest : (o : Option (Interval ℕ × Kind)) (t : Bool) → last (starts_below nat_cmp base) es ≡ o →
          starts_below nat_cmp base x ≡ t → (last (starts_below nat_cmp base) es ≡ Some e → IsLast base x.0.end es to e) →
          IsLast base from (x ∷ es) to e
      by_rest (Some later) t is q rest =
          let same : Some later ≡ Some e = rw is at l in
          let i = rest (is ∙ same) in
          record {
            starts = i.starts;
            after = omega (arith, i.after, f.0, f.1);
            some = i.some;
            within = i.within;
            before_base = λ at h k. ((λ m. omega (arith, h, i.after, i.some)), i.before_base at h k);
            before_end = ((λ m. omega (arith, i.after, i.some)), i.before_end);
            met = λ page n h k. meets_later page n x es (i.met page n h k);
          }
      by_rest None true is q rest =
          let same : or_else None (Some x) ≡ Some e = rw q at (rw is at l) in
          let is_it : x ≡ e = cc in
          subst (λ (p : Interval ℕ × Kind). IsLast base from (x ∷ es) to p) is_it
          (let lt = start_lt base x q in
          record {
            starts = lt;
            after = f.0;
            some = f.1;
            within = follow_to x.0.end es to f.2;
            before_base = λ at h k. ((λ m. h), ends_none base at es k is);
            before_end = ((λ m. omega arith), ends_behind x.0.end x.0.end es to f.2 (omega arith));
            met = λ page n h k. meets_first page n x es (meets_pair page n x f.1 k (omega (arith, lt, h)));
          })
      by_rest None false is q rest = let no : or_else None None ≡ Some e = rw q at (rw is at l) in absurd (cc)

-- the pages from base to at were passed: n pages from none of them are free
pub record Passed (base n at : ℕ) (es : List (Interval ℕ × Kind)) (to : ℕ) : Type 0 where
  pub from : base ≤ at
  pub within : at ≤ to
  pub before : EndBefore at es
  pub met : (page : ℕ) → base ≤ page → page < at → meets_any (4096 * page) n (pair_regions es) ≡ true

-- after the last pair that starts before the window
pub starts_across : (base n : ℕ) (es : List (Interval ℕ × Kind)) (to at : ℕ) (e : Interval ℕ × Kind) → Follow 0 es to →
    last (starts_below nat_cmp base) es ≡ Some e → base < e.0.end → at ≡ e.0.end → Passed base n at es to
starts_across base n es to at e f l h is =
    let i = last_is base 0 es to e f l in
    subst (λ (a : ℕ). Passed base n a es to) (sym is)
    (record { from = omega (arith, h); within = i.within; before = i.before_end; met = λ page b k. i.met page n b k })

pub starts_over : (base n : ℕ) (es : List (Interval ℕ × Kind)) (to at : ℕ) (e : Interval ℕ × Kind) → Follow 0 es to →
    last (starts_below nat_cmp base) es ≡ Some e → base ≤ to → e.0.end ≤ base → at ≡ base → Passed base n at es to
starts_over base n es to at e f l w h is =
    let i = last_is base 0 es to e f l in
    subst (λ (a : ℕ). Passed base n a es to) (sym is)
    (record { from = omega arith; within = w; before = i.before_base base h (omega arith); met = λ page b k. absurd (omega (arith, b, k)) })

pub starts_clear : (base n : ℕ) (es : List (Interval ℕ × Kind)) (to at : ℕ) → last (starts_below nat_cmp base) es ≡ None →
    base ≤ to → at ≡ base → Passed base n at es to
starts_clear base n es to at l w is =
    subst (λ (a : ℕ). Passed base n a es to) (sym is)
    (record { from = omega arith; within = w; before = ends_none base base es (omega arith) l; met = λ page b k. absurd (omega (arith, b, k)) })

-- on over the next pair, if it leaves no gap of n pages
pub goes_on : (base n at : ℕ) (es : List (Interval ℕ × Kind)) (to : ℕ) (next : Interval ℕ × Kind) → Follow 0 es to →
    Passed base n at es to → first (starts_from nat_cmp at) es ≡ Some next → next.0.start < at + n →
    Passed base n next.0.end es to
goes_on base n at es to next f p h k =
    let i = behind_first at 0 es to next f h in
    record {
      from = omega (arith, p.from, i.starts, i.some);
      within = i.within;
      before = i.before;
      met = λ page b l. by_page page b l (cases_lt page at);
    } where
      by_page : (page : ℕ) → base ≤ page → page < next.0.end → (page < at) ⊎ (at ≤ page) → meets_any (4096 * page) n (pair_regions es) ≡ true
      by_page page b l (inl before) = p.met page b before
      by_page page b l (inr behind) = found_first page at n 0 es to next f h l (omega (arith, k, behind))

-- no page before these is a place
none_before :
    (base pages n at : ℕ) (es : List (Interval ℕ × Kind)) (to : ℕ) → Passed base n at es to →
    (address : ℕ) → address < 4096 * at → IsFit (4096 * base) pages (pair_regions es) n address → ⊥
none_before base pages n at es to p address lower fit =
    let page = address / 4096 in
    let same : address ≡ 4096 * page = omega (arith, fit.aligned) in
    let yes = p.met page (omega (arith, fit.from, same)) (omega (arith, lower, same)) in
    let met : meets_any address n (pair_regions es) ≡ true = ap (λ (a : ℕ). meets_any a n (pair_regions es)) same ∙ yes in
    let no = fit.clear in
    absurd (cc)

pub is_place :
    (base pages n at : ℕ) (es : List (Interval ℕ × Kind)) (to : ℕ) → Passed base n at es to →
    meets_any (4096 * at) n (pair_regions es) ≡ false → at + n ≤ base + pages → IsPlace (4096 * base) pages (pair_regions es) n (4096 * at)
is_place base pages n at es to p clear within = record {
  fit = record { aligned = omega arith; from = omega (arith, p.from); within = omega (arith, within); clear = clear };
  least = none_before base pages n at es to p;
}

pub no_place :
    (base pages n at : ℕ) (es : List (Interval ℕ × Kind)) (to : ℕ) → Passed base n at es to → base + pages < at + n →
    HasNoPlace (4096 * base) pages (pair_regions es) n
no_place base pages n at es to p over address fit = by_address (cases_lt address (4096 * at)) where
  by_address : (address < 4096 * at) ⊎ (4096 * at ≤ address) → ⊥
  by_address (inl before) = none_before base pages n at es to p address before fit
  by_address (inr behind) = omega (arith, over, behind, fit.within)

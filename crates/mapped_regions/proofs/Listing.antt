-- The regions, listed one after the other.
use Rattle.std.proofs.Common.{◌≡◌, ◌∙◌, ap, sym, refl, ℕ, ◌+◌, ◌-◌, ◌*◌, ◌<◌, ◌≤◌, Bool, true, false, cond, filter, subst, List, [], ◌∷◌, ◌++◌, length, arith, Some, None, append_assoc, append-nil}
use Rattle.std.proofs.lemmas.Bool.Decides.{nat_tests}
use Rattle.std.proofs.lemmas.List.Elements.{filter-append}
use Rattle.std.specs.Ordering.{nat_cmp}
use Rattle.machine_model.specs.declared.region.Region.{Region}
use Rattle.meminterval.specs.declared.interval.Interval.{Interval}
use Rattle.meminterval.specs.Entries.{AllItems, first}
use Rattle.meminterval.specs.Interval.{starts_below, starts_from}
use Rattle.mapped_regions.specs.declared.region_tree.Kind.{Kind}
use Rattle.mapped_regions.specs.Regions.{AreLaid}
use Rattle.mapped_regions.specs.Pairs.{region_of, pair_regions, Follow}

-- the regions are laid as their pages are
pub laid : (from : ℕ) (es : List (Interval ℕ × Kind)) (to : ℕ) → Follow from es to → AreLaid (4096 * from) (pair_regions es) (4096 * to)
laid from [] to f = omega (arith, f)
laid from (e ∷ es) to f =
    let ends : 4096 * e.0.end ≡ 4096 * e.0.start + 4096 * (e.0.end - e.0.start) = omega (arith, f.1) in
    (omega (arith, f.0), omega arith, omega (arith, f.1), subst (λ (a : ℕ). AreLaid a (pair_regions es) (4096 * to)) ends (laid e.0.end es to f.2))

-- the pairs before a page were listed
pub record Listed (at : ℕ) (es : List (Interval ℕ × Kind)) (items : List Region) (to : ℕ) : Type 0 where
  pub front : List (Interval ℕ × Kind)
  pub back : List (Interval ℕ × Kind)
  pub whole : es ≡ front ++ back
  pub before : AllItems (λ e. e.0.start < at) front
  pub follow : Follow at back to
  pub items_are : items ≡ pair_regions front

lt_test : (at : ℕ) (e : Interval ℕ × Kind) → e.0.start < at → starts_below nat_cmp at e ≡ true
lt_test at e h = grind (arith, nat_tests)

ge_test : (at : ℕ) (e : Interval ℕ × Kind) → at ≤ e.0.start → starts_below nat_cmp at e ≡ false
ge_test at e h = grind (arith, nat_tests)

-- the first after the front is the first of the back
past_front : (at : ℕ) (front back : List (Interval ℕ × Kind)) → AllItems (λ e. e.0.start < at) front →
    first (starts_from nat_cmp at) (front ++ back) ≡ first (starts_from nat_cmp at) back
past_front at [] back h = refl
past_front at (e ∷ front) back h = let t = lt_test at e h.0 in rw t (past_front at front back h.1)

head_is : (at : ℕ) (back : List (Interval ℕ × Kind)) (to : ℕ) (next : Interval ℕ × Kind) → Follow at back to →
    first (starts_from nat_cmp at) back ≡ Some next → (rest : List (Interval ℕ × Kind)) × (back ≡ next ∷ rest)
head_is at [] to next f h = absurd (cc)
head_is at (e ∷ rest) to next f h =
    let t = ge_test at e f.0 in
    let same : Some e ≡ Some next = rw t at h in
    let is_it : e ≡ next = cc in
    (rest, ap (λ x. x ∷ rest) is_it)

none_is : (at : ℕ) (back : List (Interval ℕ × Kind)) (to : ℕ) → Follow at back to → first (starts_from nat_cmp at) back ≡ None → back ≡ []
none_is at [] to f h = refl
none_is at (e ∷ rest) to f h = let t = ge_test at e f.0 in let no : Some e ≡ None = rw t at h in absurd (cc)

all_later : (at later : ℕ) (front : List (Interval ℕ × Kind)) (e : Interval ℕ × Kind) → at ≤ later → e.0.start < later →
    AllItems (λ e. e.0.start < at) front → AllItems (λ e. e.0.start < later) (front ++ e ∷ [])
all_later at later [] e h k a = (k, tt)
all_later at later (x ∷ front) e h k a = (omega (arith, h, a.0), all_later at later front e h k a.1)

regions_more : (front : List (Interval ℕ × Kind)) (e : Interval ℕ × Kind) → pair_regions (front ++ e ∷ []) ≡ pair_regions front ++ region_of e ∷ []
regions_more [] e = refl
regions_more (x ∷ front) e = ap (λ rs. region_of x ∷ rs) (regions_more front e)

pub listed_none : (es : List (Interval ℕ × Kind)) (items : List Region) (to : ℕ) → Follow 0 es to → items ≡ [] → Listed 0 es items to
listed_none es items to f h = record { front = []; back = es; whole = refl; before = tt; follow = f; items_are = h }

pub listed_all : (at : ℕ) (es : List (Interval ℕ × Kind)) (items : List Region) (to : ℕ) → Listed at es items to →
    first (starts_from nat_cmp at) es ≡ None → items ≡ pair_regions es
listed_all at es items to l h =
    let gone = none_is at l.back to l.follow (sym (past_front at l.front l.back l.before) ∙ (sym (ap (first (starts_from nat_cmp at)) l.whole) ∙ h)) in
    l.items_are ∙ ap pair_regions (sym (append-nil l.front) ∙ (ap (λ b. l.front ++ b) (sym gone) ∙ sym l.whole))

pub record IsListedOn (at : ℕ) (es : List (Interval ℕ × Kind)) (items : List Region) (to : ℕ) (next : Interval ℕ × Kind) : Type 0 where
  pub more : Listed next.0.end es (items ++ region_of next ∷ []) to
  pub fewer : length items < length (pair_regions es)

length_front : (front rest : List (Interval ℕ × Kind)) (e : Interval ℕ × Kind) → length (pair_regions front) < length (pair_regions (front ++ e ∷ rest))
length_front [] rest e = omega arith
length_front (x ∷ front) rest e = let i = length_front front rest e in omega (arith, i)

pub listed_on : (at : ℕ) (es : List (Interval ℕ × Kind)) (items : List Region) (to : ℕ) (next : Interval ℕ × Kind) →
    Listed at es items to → first (starts_from nat_cmp at) es ≡ Some next → IsListedOn at es items to next
listed_on at es items to next l h =
    let head = head_is at l.back to next l.follow (sym (past_front at l.front l.back l.before) ∙ (sym (ap (first (starts_from nat_cmp at)) l.whole) ∙ h)) in
    let rest = head.0 in
    let f : Follow at (next ∷ rest) to = subst (λ (b : List (Interval ℕ × Kind)). Follow at b to) head.1 l.follow in
    let whole : es ≡ l.front ++ next ∷ rest = l.whole ∙ ap (λ b. l.front ++ b) head.1 in
    record {
      more = record {
        front = l.front ++ next ∷ [];
        back = rest;
        whole = whole ∙ sym (append_assoc l.front (next ∷ []) rest);
        before = all_later at next.0.end l.front next (omega (arith, f.0, f.1)) f.1 l.before;
        follow = f.2;
        items_are = ap (λ rs. rs ++ region_of next ∷ []) l.items_are ∙ sym (regions_more l.front next);
      };
      fewer = subst (λ (rs : List Region). length rs < length (pair_regions es)) (sym l.items_are)
          (subst (λ (fs : List (Interval ℕ × Kind)). length (pair_regions l.front) < length (pair_regions fs)) (sym whole)
          (length_front l.front rest next));
    }

-- ---- those of the heap

fewer_of_heap : (rs : List Region) → length (filter (λ r. r.heap) rs) ≤ length rs
fewer_of_heap [] = omega arith
fewer_of_heap (r ∷ rs) = go r.heap (fewer_of_heap rs) where
  go : (b : Bool) → length (filter (λ r. r.heap) rs) ≤ length rs → length (cond b (r ∷ filter (λ r. r.heap) rs) (filter (λ r. r.heap) rs)) ≤ length (r ∷ rs)
  go true more = omega (arith, more)
  go false more = omega (arith, more)

-- the list has a place for one more
pub heap_place : (at : ℕ) (es : List (Interval ℕ × Kind)) (all items : List Region) (to capacity : ℕ)
    (next : Interval ℕ × Kind) → IsListedOn at es all to next → items ≡ filter (λ r. r.heap) all →
    length (pair_regions es) ≤ capacity → length items < capacity
heap_place at es all items to capacity next on is places =
    let few = fewer_of_heap all in
    let same : length items ≡ length (filter (λ r. r.heap) all) = ap length is in
    omega (arith, few, same, on.fewer, places)

pub heap_more : (all items items' : List Region) (region next : Region) → items ≡ filter (λ r. r.heap) all → region ≡ next →
    items' ≡ items ++ filter (λ r. r.heap) (region ∷ []) → items' ≡ filter (λ r. r.heap) (all ++ next ∷ [])
heap_more all items items' region next is same more =
    more ∙ (ap (λ rs. rs ++ filter (λ r. r.heap) (region ∷ [])) is ∙ (ap
    (λ r. filter (λ r. r.heap) all ++ filter (λ r. r.heap) (r ∷ [])) same
    ∙ sym (filter-append (λ r. r.heap) all (next ∷ []))))

-- Addresses that lie in regions, and still do when regions change.
use Rattle.std.proofs.Common.{◌≡◌, ◌∙◌, sym, refl, subst, ℕ, ◌+◌, ◌*◌, ◌<◌, ◌≤◌, Bool, true, false, ◌||◌, List, [], ◌∷◌, map, arith, ◌⊎◌, inl, inr, Some}
use Rattle.std.proofs.lemmas.Bool.{cases_lt}
use Rattle.std.proofs.lemmas.Bool.Decides.{nat_tests}
use Rattle.std.specs.List.{list_any}
use Rattle.std.specs.Ordering.{nat_cmp}
use Rattle.machine_model.specs.declared.region.Region.{Region}
use Rattle.machine_model.specs.State.{end_of_region, is_within}
use Rattle.machine_model.specs.Place.{with_region}
use Rattle.machine_model.proofs.Regions.{any_with, within}
use Rattle.meminterval.specs.declared.interval.Interval.{Interval}
use Rattle.meminterval.specs.Entries.{first}
use Rattle.meminterval.specs.Interval.{starts_below, starts_from}
use Rattle.mapped_regions.specs.declared.region_tree.Kind.{Kind}
use Rattle.mapped_regions.specs.Pairs.{region_of, pair_regions, Follow}
use Rattle.mapped_regions.specs.Regions.{AreHeld, is_at, without_region, with_page_count}

or_right : (t u : Bool) → u ≡ true → (t || u) ≡ true
or_right true u k = refl
or_right false u k = k

pub held_join : (a b c : ℕ) (rs : List Region) → AreHeld a b rs → AreHeld b c rs → AreHeld a c rs
held_join a b c rs left right address from to = go (cases_lt address b) where
  go : (address < b) ⊎ (b ≤ address) → list_any (is_within address) rs ≡ true
  go (inl before) = left address from before
  go (inr behind) = right address behind to

-- a region that joins holds its addresses, and those that were held before stay so
pub held_new : (region : Region) (rs : List Region) → AreHeld region.start (end_of_region region) (with_region region rs)
held_new region rs address from to = any_with (is_within address) region rs ∙ (let here = within address region from to in rw here refl)

pub held_with : (a b : ℕ) (region : Region) (rs : List Region) → AreHeld a b rs → AreHeld a b (with_region region rs)
held_with a b region rs held address from to = any_with (is_within address) region rs
    ∙ or_right (is_within address region) (list_any (is_within address) rs) (held address from to)

-- what lies before a region that leaves
before_it : (start pages address : ℕ) (x : Region) → is_at start pages x ≡ true → address < start → is_within address x ≡ false
before_it start pages address x is h = grind (arith, nat_tests)

without_before : (start pages address : ℕ) (rs : List Region) → address < start → list_any (is_within address) rs ≡ true →
    list_any (is_within address) (without_region start pages rs) ≡ true
without_before start pages address [] h k = k
without_before start pages address (x ∷ rs) h k = go (is_at start pages x) (is_within address x) refl refl (without_before start pages address rs h) where
  go :
      (t u : Bool) → is_at start pages x ≡ t → is_within address x ≡ u →
      (list_any (is_within address) rs ≡ true → list_any (is_within address) (without_region start pages rs) ≡ true) →
      list_any (is_within address) (without_region start pages (x ∷ rs)) ≡ true
  go true u is w rest = let no = before_it start pages address x is h in rw is (rw no at k)
  go false true is w rest = rw is (rw w refl)
  go false false is w rest = rw is (rw w (rest (rw w at k)))

-- and what lies before the new end of one that is cut
kept_part : (start pages left address : ℕ) (x : Region) → is_at start pages x ≡ true → address < start + 4096 * left →
    is_within address x ≡ true → is_within address (record x { pages = left }) ≡ true
kept_part start pages left address x is h w = grind (arith, nat_tests)

shorter_before :
    (start pages left address : ℕ) (rs : List Region) → address < start + 4096 * left → list_any (is_within address) rs ≡ true →
    list_any (is_within address) (map (with_page_count start pages left) rs) ≡ true
shorter_before start pages left address [] h k = k
shorter_before start pages left address (x ∷ rs) h k = go (is_at start pages x) (is_within address x) refl refl
    (shorter_before start pages left address rs h) where
      go :
          (t u : Bool) → is_at start pages x ≡ t → is_within address x ≡ u →
          (list_any (is_within address) rs ≡ true → list_any (is_within address) (map (with_page_count start pages left) rs) ≡ true) →
          list_any (is_within address) (map (with_page_count start pages left) (x ∷ rs)) ≡ true
      go true true is w rest = let still = kept_part start pages left address x is h w in rw is (rw still refl)
      go true false is w rest = rw is (or_right (is_within address (record x { pages = left }))
          (list_any (is_within address) (map (with_page_count start pages left) rs)) (rest (rw w at k)))
      go false true is w rest = rw is (rw w refl)
      go false false is w rest = rw is (rw w (rest (rw w at k)))

-- a hint that was lowered to where pages have become free
pub held_without :
    (base hint lower start pages : ℕ) (rs : List Region) → AreHeld (4096 * base) (4096 * hint) rs → lower ≤ hint → (base < lower → 4096 * lower ≤ start) →
    AreHeld (4096 * base) (4096 * lower) (without_region start pages rs)
held_without base hint lower start pages rs held less before address from to =
    let b = before (omega (arith, from, to)) in
    without_before start pages address rs (omega (arith, to, b)) (held address from (omega (arith, to, less)))

pub held_shorter :
    (base hint lower start pages left : ℕ) (rs : List Region) → AreHeld (4096 * base) (4096 * hint) rs → lower ≤ hint →
    (base < lower → 4096 * lower ≤ start + 4096 * left) →
    AreHeld (4096 * base) (4096 * lower) (map (with_page_count start pages left) rs)
held_shorter base hint lower start pages left rs held less before address from to =
    let b = before (omega (arith, from, to)) in
    shorter_before start pages left address rs (omega (arith, to, b)) (held address from (omega (arith, to, less)))

-- the first pair from a page on holds its addresses
pair_within : (e : Interval ℕ × Kind) (address : ℕ) → e.0.start < e.0.end → 4096 * e.0.start ≤ address →
    address < 4096 * e.0.end → is_within address (region_of e) ≡ true
pair_within e address some from to = within address (region_of e) from (omega (arith, some, to))

pub held_pair :
    (at from : ℕ) (es : List (Interval ℕ × Kind)) (to : ℕ) (next : Interval ℕ × Kind) → Follow from es to → first (starts_from nat_cmp at) es ≡ Some next →
    AreHeld (4096 * next.0.start) (4096 * next.0.end) (pair_regions es)
held_pair at from [] to next f h address above below = absurd (cc)
held_pair at from (e ∷ es) to next f h address above below = by_start (starts_below nat_cmp at e) refl
    (λ i. held_pair at e.0.end es to next f.2 i address above below) where
      by_start :
          (t : Bool) → starts_below nat_cmp at e ≡ t → (first (starts_from nat_cmp at) es ≡ Some next → list_any (is_within address) (pair_regions es) ≡ true) →
          list_any (is_within address) (pair_regions (e ∷ es)) ≡ true
      by_start true is rest = or_right (is_within address (region_of e)) (list_any (is_within address) (pair_regions es)) (rest (rw is at h))
      by_start false is rest =
          let same : Some e ≡ Some next = rw is at h in
          let is_next : e ≡ next = cc in
          let here = pair_within e address f.1 (rw is_next above) (rw is_next below) in
          rw here refl

-- a pair that joins leaves held what was held
pub held_add :
    (x : Interval ℕ × Kind) (base hint : ℕ) (es new : List (Interval ℕ × Kind)) → pair_regions new ≡ with_region (region_of x) (pair_regions es) →
    AreHeld (4096 * base) (4096 * hint) (pair_regions es) → AreHeld (4096 * base) (4096 * hint) (pair_regions new)
held_add x base hint es new is held =
    subst (λ (rs : List Region). AreHeld (4096 * base) (4096 * hint) rs) (sym is) (held_with (4096 * base) (4096 * hint) (region_of x) (pair_regions es) held)

-- and at the hint it moves it to the end of the regions that follow
pub held_add_on :
    (x : Interval ℕ × Kind) (base hint end : ℕ) (es new : List (Interval ℕ × Kind)) → x.0.start < x.0.end → x.0.start ≡ hint →
    pair_regions new ≡ with_region (region_of x) (pair_regions es) → AreHeld (4096 * base) (4096 * hint) (pair_regions es) →
    AreHeld (4096 * x.0.end) (4096 * end) (pair_regions new) → AreHeld (4096 * base) (4096 * end) (pair_regions new)
held_add_on x base hint end es new some starts is held behind =
    held_join (4096 * base) (4096 * hint) (4096 * end) (pair_regions new) (held_add x base hint es new is held)
    (held_join (4096 * hint) (4096 * x.0.end) (4096 * end) (pair_regions new) here behind) where
      here : AreHeld (4096 * hint) (4096 * x.0.end) (pair_regions new)
      here address a b =
          subst (λ (rs : List Region). list_any (is_within address) rs ≡ true) (sym is)
          (held_new (region_of x) (pair_regions es) address (omega (arith, a, starts)) (omega (arith, b, some)))

-- The regions after one was put in, taken out or cut.
use Rattle.std.proofs.Common.{◌≡◌, ◌∙◌, ap, sym, refl, ℕ, ◌+◌, ◌-◌, ◌*◌, ◌<◌, ◌≤◌, Bool, true, false, ◌||◌, List, [], ◌∷◌, length, map, arith, ◌⊎◌, inl, inr, nat_lt}
use Rattle.std.proofs.lemmas.Bool.Decides.{nat_tests}
use Rattle.std.specs.Cmp.{nat_cmp_is}
use Rattle.std.specs.Ordering.{is_eq, nat_cmp}
use Rattle.std.specs.declared.cmp.Ordering.{Ordering}
use Rattle.std.specs.declared.cmp.Ordering.TheVariants.{Less, Equal, Greater}
use Rattle.std.specs.List.{list_any}
use Rattle.machine_model.specs.Place.{meets, meets_any, with_region}
use Rattle.meminterval.specs.declared.interval.Interval.{Interval}
use Rattle.meminterval.specs.Entries.{AllItems, with_entry, without_key}
use Rattle.meminterval.specs.Interval.{by_ends, with_end, HasOwnStart}
use Rattle.mapped_regions.specs.declared.region_tree.Kind.{Kind}
use Rattle.mapped_regions.specs.Pairs.{region_of, pair_regions, Follow}
use Rattle.mapped_regions.specs.Regions.{is_at, without_region, with_page_count}

pub follow_length : (from : ℕ) (es : List (Interval ℕ × Kind)) (to : ℕ) → Follow from es to → length es + from ≤ to
follow_length from [] to f = omega (arith, f)
follow_length from (e ∷ es) to f = let i = follow_length e.0.end es to f.2 in omega (arith, i, f.0, f.1)

follow_down : (from lower : ℕ) (es : List (Interval ℕ × Kind)) (to : ℕ) → Follow from es to → lower ≤ from → Follow lower es to
follow_down from lower [] to f h = omega (arith, f, h)
follow_down from lower (e ∷ es) to f h = (omega (arith, f.0, h), f.1, f.2)

neither : (a b : Bool) → (a || b) ≡ false → (a ≡ false) × (b ≡ false)
neither true b h = let no : true ≡ false = h in absurd (cc)
neither false b h = (refl, h)

-- pages that miss a pair lie before or after it
beside : (x e : Interval ℕ × Kind) → x.0.start < x.0.end → e.0.start < e.0.end →
    meets (4096 * x.0.start) (x.0.end - x.0.start) (region_of e) ≡ false → (x.0.end ≤ e.0.start) ⊎ (e.0.end ≤ x.0.start)
beside x e s t h = grind (arith, nat_tests)

less : (x e : Interval ℕ × Kind) → x.0.start < e.0.start → by_ends nat_cmp x.0 e.0 ≡ Less
less x e h = let c : nat_cmp x.0.start e.0.start ≡ Less = sym (nat_cmp_is x.0.start e.0.start Less h) in rw c refl

greater : (x e : Interval ℕ × Kind) → e.0.start < x.0.start → by_ends nat_cmp x.0 e.0 ≡ Greater
greater x e h = let c : nat_cmp x.0.start e.0.start ≡ Greater = sym (nat_cmp_is x.0.start e.0.start Greater h) in rw c refl

pub record IsAdded (x : Interval ℕ × Kind) (from : ℕ) (es : List (Interval ℕ × Kind)) (to : ℕ) : Type 0 where
  pub follow : Follow from (with_entry (by_ends nat_cmp) x es) to
  pub regions : pair_regions (with_entry (by_ends nat_cmp) x es) ≡ with_region (region_of x) (pair_regions es)

pub added : (x : Interval ℕ × Kind) (from : ℕ) (es : List (Interval ℕ × Kind)) (to : ℕ) → Follow from es to →
    x.0.start < x.0.end → from ≤ x.0.start → x.0.end ≤ to → meets_any (4096 * x.0.start) (x.0.end - x.0.start)
    (pair_regions es) ≡ false → IsAdded x from es to
added x from [] to f some above below h = record { follow = (above, some, below); regions = refl }
added x from (e ∷ es) to f some above below h = by_side (beside x e some f.1 apart.0) (λ over. added x e.0.end es to f.2 some over below apart.1) where
  apart : (meets (4096 * x.0.start) (x.0.end - x.0.start) (region_of e) ≡ false) × (meets_any (4096 * x.0.start)
      (x.0.end - x.0.start) (pair_regions es) ≡ false)
  apart = neither (meets (4096 * x.0.start) (x.0.end - x.0.start) (region_of e)) (meets_any (4096 * x.0.start) (x.0.end - x.0.start) (pair_regions es)) h

  by_side : (x.0.end ≤ e.0.start) ⊎ (e.0.end ≤ x.0.start) → (e.0.end ≤ x.0.start → IsAdded x e.0.end es to) → IsAdded x from (e ∷ es) to
  by_side (inl before) rest =
      let order = less x e (omega (arith, before, some)) in
      let test : nat_lt (4096 * x.0.start) (4096 * e.0.start) ≡ true = grind (arith, nat_tests) in
      record { follow = rw order (above, some, (before, f.1, f.2)); regions = rw order (rw test refl) }
  by_side (inr behind) rest =
      let order = greater x e (omega (arith, behind, f.1)) in
      let test : nat_lt (4096 * x.0.start) (4096 * e.0.start) ≡ false = grind (arith, nat_tests) in
      let later = rest behind in
      record { follow = rw order (f.0, f.1, later.follow); regions = rw order (rw test (ap (λ rs. region_of e ∷ rs) later.regions)) }

-- ---- taking out

-- an interval is that of a pair exactly if the pair's region is the one of its pages
same_pages : (i : Interval ℕ) (e : Interval ℕ × Kind) → i.start ≤ i.end → e.0.start < e.0.end →
    is_eq (by_ends nat_cmp i e.0) ≡ is_at (4096 * i.start) (i.end - i.start) (region_of e)
same_pages i e h s = grind (arith, nat_tests)

pub record IsRemoved (i : Interval ℕ) (from : ℕ) (es : List (Interval ℕ × Kind)) (to : ℕ) : Type 0 where
  pub follow : Follow from (without_key (by_ends nat_cmp) i es) to
  pub regions : pair_regions (without_key (by_ends nat_cmp) i es) ≡ without_region (4096 * i.start) (i.end - i.start) (pair_regions es)

pub removed : (i : Interval ℕ) (from : ℕ) (es : List (Interval ℕ × Kind)) (to : ℕ) → Follow from es to → i.start ≤ i.end → IsRemoved i from es to
removed i from [] to f h = record { follow = f; regions = refl }
removed i from (e ∷ es) to f h = by_test (is_eq (by_ends nat_cmp i e.0)) refl (removed i e.0.end es to f.2 h) where
  by_test : (t : Bool) → is_eq (by_ends nat_cmp i e.0) ≡ t → IsRemoved i e.0.end es to → IsRemoved i from (e ∷ es) to
  by_test true is rest =
      let same : is_at (4096 * i.start) (i.end - i.start) (region_of e) ≡ true = sym (same_pages i e h f.1) ∙ is in
      record { follow = rw is (follow_down e.0.end from es to f.2 (omega (arith, f.0, f.1))); regions = rw is (rw same refl) }
  by_test false is rest =
      let same : is_at (4096 * i.start) (i.end - i.start) (region_of e) ≡ false = sym (same_pages i e h f.1) ∙ is in
      record { follow = rw is (f.0, f.1, rest.follow); regions = rw is (rw same (ap (λ rs. region_of e ∷ rs) rest.regions)) }

-- ---- cutting

is_equal : (o : Ordering) → is_eq o ≡ true → o ≡ Equal
is_equal Less h = let no : false ≡ true = h in absurd (cc)
is_equal Equal h = refl
is_equal Greater h = let no : false ≡ true = h in absurd (cc)

pub record IsCut (i : Interval ℕ) (end from : ℕ) (es : List (Interval ℕ × Kind)) (to : ℕ) : Type 0 where
  pub follow : Follow from (map (with_end nat_cmp i end) es) to
  pub regions : pair_regions (map (with_end nat_cmp i end) es) ≡ map (with_page_count (4096 * i.start) (i.end - i.start) (end - i.start)) (pair_regions es)

equal_ends : (i j : Interval ℕ) → is_eq (by_ends nat_cmp i j) ≡ true → (i.start ≡ j.start) × (i.end ≡ j.end)
equal_ends i j h = (grind (arith, nat_tests), grind (arith, nat_tests))

pub cut : (i : Interval ℕ) (end from : ℕ) (es : List (Interval ℕ × Kind)) (to : ℕ) → Follow from es to → i.start < end → end ≤ i.end → IsCut i end from es to
cut i end from [] to f some shorter = record { follow = f; regions = refl }
cut i end from (e ∷ es) to f some shorter = by_test (is_eq (by_ends nat_cmp i e.0)) refl (cut i end e.0.end es to f.2 some shorter) where
  by_test : (t : Bool) → is_eq (by_ends nat_cmp i e.0) ≡ t → IsCut i end e.0.end es to → IsCut i end from (e ∷ es) to
  by_test true is rest =
      let same : is_at (4096 * i.start) (i.end - i.start) (region_of e) ≡ true = sym (same_pages i e (omega (arith, some, shorter)) f.1) ∙ is in
      let ends = equal_ends i e.0 is in
      record {
        follow = rw is (
          f.0,
          omega (arith, some, ends.0),
          follow_down e.0.end end (map (with_end nat_cmp i end) es) to
              rest.follow (omega (arith, shorter, ends.1)),
        );
        regions = rw is (rw same (ap (λ (n : ℕ). record {
          start = 4096 * e.0.start;
          pages = end - n;
          heap = e.1.heap;
          rights = e.1.rights;
        } ∷ pair_regions (map (with_end nat_cmp i end) es)) (sym ends.0)
            ∙ ap (λ rs. record {
              start = 4096 * e.0.start;
              pages = end - i.start;
              heap = e.1.heap;
              rights =
                  e.1.rights;
            } ∷ rs) rest.regions));
      }
  by_test false is rest =
      let same : is_at (4096 * i.start) (i.end - i.start) (region_of e) ≡ false = sym (same_pages i e (omega (arith, some, shorter)) f.1) ∙ is in
      record { follow = rw is (f.0, f.1, rest.follow); regions = rw is (rw same (ap (λ rs. region_of e ∷ rs) rest.regions)) }

equal_start : (i j : Interval ℕ) → nat_cmp i.start j.start ≡ Equal → i.start ≡ j.start
equal_start i j h = grind (arith, nat_tests)

-- no pair after a start has it
own_behind : (i : Interval ℕ) (from : ℕ) (es : List (Interval ℕ × Kind)) (to : ℕ) → Follow from es to → i.start < from → AllItems (HasOwnStart nat_cmp i) es
own_behind i from [] to f h = tt
own_behind i from (e ∷ es) to f h = (
  (λ q. (let s = equal_start i e.0 q in absurd (omega (arith, s, h, f.0)))),
  own_behind i e.0.end es to f.2 (omega (arith, h, f.0, f.1)),
)

-- if a pair's region is listed, its interval's start is its own
listed_from : (i : Interval ℕ) (from : ℕ) (es : List (Interval ℕ × Kind)) (to : ℕ) → Follow from es to →
    list_any (is_at (4096 * i.start) (i.end - i.start)) (pair_regions es) ≡ true → from ≤ i.start
listed_from i from [] to f h = let no : false ≡ true = h in absurd (cc)
listed_from i from (e ∷ es) to f h = by_test (is_at (4096 * i.start) (i.end - i.start) (region_of e)) refl (listed_from i e.0.end es to f.2) where
  by_test : (t : Bool) → is_at (4096 * i.start) (i.end - i.start) (region_of e) ≡ t →
      (list_any (is_at (4096 * i.start) (i.end - i.start)) (pair_regions es) ≡ true → e.0.end ≤ i.start) → from ≤ i.start
  by_test true is rest = grind (arith, nat_tests, f.0)
  by_test false is rest = let r = rest (rw is at h) in omega (arith, r, f.0, f.1)

pub own_start : (i : Interval ℕ) (from : ℕ) (es : List (Interval ℕ × Kind)) (to : ℕ) → Follow from es to → i.start ≤ i.end →
    list_any (is_at (4096 * i.start) (i.end - i.start)) (pair_regions es) ≡ true → AllItems (HasOwnStart nat_cmp i) es
own_start i from [] to f s h = tt
own_start i from (e ∷ es) to f s h = by_test (is_at (4096 * i.start) (i.end - i.start) (region_of e)) refl (own_start i e.0.end es to f.2 s) where
  by_test : (t : Bool) → is_at (4096 * i.start) (i.end - i.start) (region_of e) ≡ t →
      (list_any (is_at (4096 * i.start) (i.end - i.start)) (pair_regions es) ≡ true → AllItems (HasOwnStart nat_cmp i) es) →
      AllItems (HasOwnStart nat_cmp i) (e ∷ es)
  by_test true is rest =
      let same : is_eq (by_ends nat_cmp i e.0) ≡ true = same_pages i e s f.1 ∙ is in
      let ends = equal_ends i e.0 same in
      ((λ q. is_equal (by_ends nat_cmp i e.0) same), own_behind i e.0.end es to f.2 (omega (arith, ends.0, f.1)))
  by_test false is rest =
      let there : list_any (is_at (4096 * i.start) (i.end - i.start)) (pair_regions es) ≡ true = rw is at h in
      let behind = listed_from i e.0.end es to f.2 there in
      ((λ q. (let t = equal_start i e.0 q in absurd (omega (arith, t, behind, f.1)))), rest there)

-- The lowest region that pages meet.
use Rattle.std.proofs.Common.{◌≡◌, ◌∙◌, ap, refl, ℕ, ◌+◌, ◌*◌, ◌<◌, Bool, true, false, Option, Some, None, List, [], ◌∷◌, arith}
use Rattle.std.specs.Ordering.{nat_cmp}
use Rattle.std.specs.List.{find, list_any}
use Rattle.machine_model.specs.declared.region.Region.{Region}
use Rattle.machine_model.specs.Place.{meets}
use Rattle.meminterval.specs.declared.interval.Interval.{Interval}
use Rattle.meminterval.specs.Entries.{first, last, or_else}
use Rattle.meminterval.specs.Interval.{starts_below, starts_from}
use Rattle.mapped_regions.specs.declared.region_tree.Kind.{Kind}
use Rattle.mapped_regions.specs.Pairs.{region_of, pair_regions, Follow}
use Rattle.mapped_regions.proofs.Passed.{EndBefore, start_lt, start_ge, meets_pair, misses_before, last_is}

-- if none is found, none passes
pub none_found : (test : Region → Bool) (rs : List Region) → find test rs ≡ None → list_any test rs ≡ false
none_found test [] h = refl
none_found test (r ∷ rs) h = by_test (test r) refl (none_found test rs) where
  by_test : (t : Bool) → test r ≡ t → (find test rs ≡ None → list_any test rs ≡ false) → list_any test (r ∷ rs) ≡ false
  by_test true is rest = let no : Some r ≡ None = rw is at h in absurd (cc)
  by_test false is rest = rw is (rest (rw is at h))

found_here : (test : Region → Bool) (r : Region) (rs : List Region) → test r ≡ true → find test (r ∷ rs) ≡ Some r
found_here test r rs h = rw h refl

found_there : (test : Region → Bool) (r : Region) (rs : List Region) (o : Option Region) → test r ≡ false → find test rs ≡ o → find test (r ∷ rs) ≡ o
found_there test r rs o h k = rw h k

-- the last pair that starts before the pages, if it reaches into them
pub meets_last : (page n from : ℕ) (es : List (Interval ℕ × Kind)) (to : ℕ) (e : Interval ℕ × Kind) → Follow from es to →
    last (starts_below nat_cmp page) es ≡ Some e → page < e.0.end → find (meets (4096 * page) n) (pair_regions es) ≡ Some
    (region_of e)
meets_last page n from [] to e f l h = absurd (cc)
meets_last page n from (x ∷ es) to e f l h = by_rest (last (starts_below nat_cmp page) es) (starts_below nat_cmp page x)
    refl refl (λ i. meets_last page n x.0.end es to e f.2 i h) where
      by_rest : (o : Option (Interval ℕ × Kind)) (t : Bool) → last (starts_below nat_cmp page) es ≡ o →
          starts_below nat_cmp page x ≡ t → (last (starts_below nat_cmp page) es ≡ Some e →
          find (meets (4096 * page) n) (pair_regions es) ≡ Some (region_of e)) →
          find (meets (4096 * page) n) (pair_regions (x ∷ es)) ≡ Some (region_of e)
      by_rest (Some later) t is q rest =
          let same : Some later ≡ Some e = rw is at l in
          let i = last_is page x.0.end es to e f.2 (is ∙ same) in
          found_there (meets (4096 * page) n) (region_of x) (pair_regions es) (Some (region_of e))
          (misses_before page n x f.1 (omega (arith, i.starts, i.after))) (rest (is ∙ same))
      by_rest None true is q rest =
          let same : or_else None (Some x) ≡ Some e = rw q at (rw is at l) in
          let is_it : x ≡ e = cc in
          found_here (meets (4096 * page) n) (region_of x) (pair_regions es) (meets_pair page n x f.1 (rw is_it h)
          (let lt = start_lt page x q in omega (arith, lt))) ∙ ap (λ p. Some (region_of p)) is_it
      by_rest None false is q rest = let no : or_else None None ≡ Some e = rw q at (rw is at l) in absurd (cc)

-- the first pair that starts in the pages, if none before reaches into them
pub meets_next : (page n from : ℕ) (es : List (Interval ℕ × Kind)) (to : ℕ) (next : Interval ℕ × Kind) → Follow from es to →
    EndBefore page es → first (starts_from nat_cmp page) es ≡ Some next → next.0.start < page + n →
    find (meets (4096 * page) n) (pair_regions es) ≡ Some (region_of next)
meets_next page n from [] to next f b h k = absurd (cc)
meets_next page n from (x ∷ es) to next f b h k = by_start (starts_below nat_cmp page x) refl (λ i. meets_next page n x.0.end es to next f.2 b.1 i k) where
  by_start : (t : Bool) → starts_below nat_cmp page x ≡ t → (first (starts_from nat_cmp page) es ≡ Some next →
      find (meets (4096 * page) n) (pair_regions es) ≡ Some (region_of next)) →
      find (meets (4096 * page) n) (pair_regions (x ∷ es)) ≡ Some (region_of next)
  by_start true is rest = found_there (meets (4096 * page) n) (region_of x) (pair_regions es) (Some (region_of next))
      (misses_before page n x f.1 (b.0 (start_lt page x is))) (rest (rw is at h))
  by_start false is rest =
      let same : Some x ≡ Some next = rw is at h in
      let is_it : x ≡ next = cc in
      let ge = start_ge page x is in
      found_here (meets (4096 * page) n) (region_of x) (pair_regions es) (meets_pair page n x f.1 (omega (arith, ge, f.1))
      (rw is_it k)) ∙ ap (λ p. Some (region_of p)) is_it

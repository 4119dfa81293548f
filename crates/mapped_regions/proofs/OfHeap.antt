-- A walk over the regions that pages meet, in search of one of the heap.
use Rattle.std.proofs.Common.{◌≡◌, ◌∙◌, ap, refl, ℕ, ◌-◌, ◌*◌, ◌<◌, ◌≤◌, ◌&&◌, Bool, true, false, cond, List, [], ◌∷◌, arith, Option, Some, None, find}
use Rattle.std.proofs.lemmas.Bool.Decides.{nat_tests}
use Rattle.machine_model.specs.declared.region.Region.{Region}
use Rattle.machine_model.specs.State.{end_of_region}
use Rattle.machine_model.specs.Place.{meets}
use Rattle.mapped_regions.specs.Regions.{AreLaid, meets_heap}
use Rattle.mapped_regions.proofs.Cutting.{found}

missed : (at n : ℕ) (x : Region) → meets at n x ≡ false → meets_heap at n x ≡ false
missed at n x h = go x.heap h where
  go : (b : Bool) → meets at n x ≡ false → (b && meets at n x) ≡ false
  go true k = k
  go false k = refl

both : (a b : Bool) → a ≡ true → b ≡ true → (a && b) ≡ true
both a b h k = rw h k

pub none_of_heap : (at n : ℕ) (rs : List Region) → find (meets at n) rs ≡ None → find (meets_heap at n) rs ≡ None
none_of_heap at n [] h = refl
none_of_heap at n (x ∷ rs) h = by_test (meets at n x) refl (none_of_heap at n rs) where
  by_test : (t : Bool) → meets at n x ≡ t → (find (meets at n) rs ≡ None → find (meets_heap at n) rs ≡ None) → find (meets_heap at n) (x ∷ rs) ≡ None
  by_test true is rest = let no : Some x ≡ None = rw is at h in absurd (cc)
  by_test false is rest = let m = missed at n x is in rw m (rest (rw is at h))

pub one_of_heap : (at n : ℕ) (rs : List Region) (r : Region) → find (meets at n) rs ≡ Some r → r.heap ≡ true → find (meets_heap at n) rs ≡ Some r
one_of_heap at n [] r h k = absurd (cc)
one_of_heap at n (x ∷ rs) r h k = by_test (meets at n x) refl (λ i. one_of_heap at n rs r i k) where
  by_test : (t : Bool) → meets at n x ≡ t → (find (meets at n) rs ≡ Some r → find (meets_heap at n) rs ≡ Some r) → find (meets_heap at n) (x ∷ rs) ≡ Some r
  by_test true is rest =
      let same : Some x ≡ Some r = rw is at h in
      let is_it : x ≡ r = cc in
      let heap : x.heap ≡ true = ap (λ (y : Region). y.heap) is_it ∙ k in
      let passes : meets_heap at n x ≡ true = both x.heap (meets at n x) heap is in
      rw passes same
  by_test false is rest = let m = missed at n x is in rw m (rest (rw is at h))

-- regions after an end are met by pages up to another end alike, wherever these begin before
alike :
    (at next end from : ℕ) (rs : List Region) (to : ℕ) → AreLaid from rs to → 4096 * next ≤ from → at ≤ next → next ≤ end →
    find (meets_heap (4096 * at) (end - at)) rs ≡ find (meets_heap (4096 * next) (end - next)) rs
alike at next end from [] to l h a b = refl
alike at next end from (x ∷ rs) to l h a b =
    let same : meets (4096 * at) (end - at) x ≡ meets (4096 * next) (end - next) x = grind (arith, nat_tests, l.0, l.2) in
    rw same (ap (λ (o : Option Region). cond (meets_heap (4096 * next) (end - next) x) (Some x) o)
    (alike at next end (end_of_region x) rs to l.3 (omega (arith, h, l.0)) a b))

-- past a region of the user
pub goes_past :
    (at next end from : ℕ) (rs : List Region) (to : ℕ) (r : Region) → AreLaid from rs to → at ≤ end → find (meets (4096 * at) (end - at)) rs ≡ Some r →
    r.heap ≡ false → end_of_region r ≡ 4096 * next → next < end →
    find (meets_heap (4096 * at) (end - at)) rs ≡ find (meets_heap (4096 * next) (end - next)) rs
goes_past at next end from [] to r l s h k e n = absurd (cc)
goes_past at next end from (x ∷ rs) to r l s h k e n = by_test (meets (4096 * at) (end - at) x) refl
    (λ i. goes_past at next end (end_of_region x) rs to r l.3 s i k e n) where
      by_test :
          (t : Bool) → meets (4096 * at) (end - at) x ≡ t →
          (find (meets (4096 * at) (end - at)) rs ≡ Some r → find (meets_heap (4096 * at) (end - at)) rs ≡ find (meets_heap (4096 * next) (end - next)) rs) →
          find (meets_heap (4096 * at) (end - at)) (x ∷ rs) ≡ find (meets_heap (4096 * next) (end - next)) (x ∷ rs)
      by_test true is rest =
          let same : Some x ≡ Some r = rw is at h in
          let is_it : x ≡ r = cc in
          let heap : x.heap ≡ false = ap (λ (y : Region). y.heap) is_it ∙ k in
          let ends : end_of_region x ≡ 4096 * next = ap end_of_region is_it ∙ e in
          let before : 4096 * at < end_of_region x = grind (arith, nat_tests, is) in
          rw heap (alike at next end (end_of_region x) rs to l.3 (omega (arith, ends)) (omega (arith, ends, before)) (omega (arith, n)))
      by_test false is rest =
          let later = rw is at h in
          let f = found (4096 * at) (end - at) (end_of_region x) rs to r l.3 later in
          let no : meets (4096 * next) (end - next) x ≡ false = before x (omega (arith, f.after, f.some, e)) in
          let m = missed (4096 * at) (end - at) x is in
          let m' = missed (4096 * next) (end - next) x no in
          rw m (rw m' (rest later)) where
            before : (x : Region) → end_of_region x ≤ 4096 * next → meets (4096 * next) (end - next) x ≡ false
            before x h = grind (arith, nat_tests)

-- if a region of the user reaches to the end of the pages
pub last_of_user :
    (at end from : ℕ) (rs : List Region) (to : ℕ) (r : Region) → AreLaid from rs to → at ≤ end → find (meets (4096 * at) (end - at)) rs ≡ Some r →
    r.heap ≡ false → 4096 * end ≤ end_of_region r → find (meets_heap (4096 * at) (end - at)) rs ≡ None
last_of_user at end from [] to r l s h k e = absurd (cc)
last_of_user at end from (x ∷ rs) to r l s h k e = by_test (meets (4096 * at) (end - at) x) refl
    (λ i. last_of_user at end (end_of_region x) rs to r l.3 s i k e) where
      all_past : (from : ℕ) (rs : List Region) → AreLaid from rs to → 4096 * end ≤ from → find (meets_heap (4096 * at) (end - at)) rs ≡ None
      all_past from [] l h = refl
      all_past from (y ∷ rs) l h =
          let no : meets (4096 * at) (end - at) y ≡ false = grind (arith, nat_tests, l.0, h, s) in
          let m = missed (4096 * at) (end - at) y no in
          rw m (all_past (end_of_region y) rs l.3 (omega (arith, h, l.0)))

      by_test :
          (t : Bool) → meets (4096 * at) (end - at) x ≡ t →
          (find (meets (4096 * at) (end - at)) rs ≡ Some r → find (meets_heap (4096 * at) (end - at)) rs ≡ None) →
          find (meets_heap (4096 * at) (end - at)) (x ∷ rs) ≡ None
      by_test true is rest =
          let same : Some x ≡ Some r = rw is at h in
          let is_it : x ≡ r = cc in
          let heap : x.heap ≡ false = ap (λ (y : Region). y.heap) is_it ∙ k in
          rw heap (all_past (end_of_region x) rs l.3 (omega (arith, e, ap end_of_region is_it)))
      by_test false is rest = let m = missed (4096 * at) (end - at) x is in rw m (rest (rw is at h))

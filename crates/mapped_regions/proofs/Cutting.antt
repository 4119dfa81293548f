-- Pages that are taken out, region by region.
use Rattle.std.proofs.Common.{◌≡◌, ◌∙◌, ap, sym, refl, ℕ, ◌+◌, ◌-◌, ◌*◌, ◌/◌, ◌%◌, ◌<◌, ◌≤◌, ◌||◌, Bool, true, false, subst, List, [], ◌∷◌, map, arith, Some, None, nat_lt, find}
use Rattle.std.specs.Prelude.{if◌then◌else◌}
use Rattle.std.proofs.lemmas.Bool.Decides.{nat_tests}
use Rattle.std.specs.List.{list_any}
use Rattle.machine_model.specs.declared.region.Region.{Region}
use Rattle.machine_model.specs.State.{end_of_region}
use Rattle.machine_model.specs.Place.{meets}
use Rattle.mapped_regions.specs.Regions.{AreLaid, is_at, without_region, with_page_count, cut_regions}

-- how many regions meet n pages from an address on
abbrev pub count_met : ℕ → ℕ → List Region → ℕ
count_met at n [] = 0
count_met at n (region ∷ rest) = if meets at n region then count_met at n rest + 1 else count_met at n rest

-- what is known of a region that was found
pub record IsFound (at n from : ℕ) (rs : List Region) (to : ℕ) (r : Region) : Type 0 where
  pub met : meets at n r ≡ true
  pub listed : list_any (is_at r.start r.pages) rs ≡ true
  pub at_page : r.start % 4096 ≡ 0
  pub after : from ≤ r.start
  pub some : 0 < r.pages
  pub within : end_of_region r ≤ to

laid_to : (from : ℕ) (rs : List Region) (to : ℕ) → AreLaid from rs to → from ≤ to
laid_to from [] to l = l
laid_to from (r ∷ rs) to l = let i = laid_to (end_of_region r) rs to l.3 in omega (arith, i, l.0)

is_itself : (r : Region) → is_at r.start r.pages r ≡ true
is_itself r = grind (arith, nat_tests)

listed_later : (r x : Region) (rs : List Region) → list_any (is_at r.start r.pages) rs ≡ true → list_any (is_at r.start r.pages) (x ∷ rs) ≡ true
listed_later r x rs h = go (is_at r.start r.pages x) where
  go : (t : Bool) → (t || list_any (is_at r.start r.pages) rs) ≡ true
  go true = refl
  go false = h

pub found : (at n from : ℕ) (rs : List Region) (to : ℕ) (r : Region) → AreLaid from rs to → find (meets at n) rs ≡ Some r → IsFound at n from rs to r
found at n from [] to r l h = absurd (cc)
found at n from (x ∷ rs) to r l h = by_test (meets at n x) refl (found at n (end_of_region x) rs to r l.3) where
  by_test : (t : Bool) → meets at n x ≡ t → (find (meets at n) rs ≡ Some r → IsFound at n (end_of_region x) rs to r) → IsFound at n from (x ∷ rs) to r
  by_test true is rest =
      let same : Some x ≡ Some r = rw is at h in
      let is_it : x ≡ r = cc in
      subst (λ (y : Region). IsFound at n from (x ∷ rs) to y) is_it
      (record { met = is; listed = let me = is_itself x in rw me refl; at_page = l.1; after = l.0; some = l.2; within = laid_to (end_of_region x) rs to l.3 })
  by_test false is rest =
      let i = rest (rw is at h) in
      record { met = i.met; listed = listed_later r x rs i.listed; at_page = i.at_page; after = omega (arith, i.after, l.0); some = i.some; within = i.within }

-- a region that is missed is not one that is met
other : (at n : ℕ) (x r : Region) → meets at n x ≡ false → meets at n r ≡ true → is_at r.start r.pages x ≡ false
other at n x r h k = grind (arith, nat_tests)

pub record IsStep (at n : ℕ) (old new : List Region) : Type 0 where
  pub same : cut_regions at n new ≡ cut_regions at n old
  pub fewer : count_met at n new < count_met at n old

passed : (at n : ℕ) (x : Region) (old new : List Region) → meets at n x ≡ false → IsStep at n old new → IsStep at n (x ∷ old) (x ∷ new)
passed at n x old new h s = record { same = rw h (ap (λ rs. x ∷ rs) s.same); fewer = rw h s.fewer }

pub removes :
    (at n : ℕ) (rs : List Region) (r : Region) → meets at n r ≡ true → find (meets at n) rs ≡ Some r → at ≤ r.start →
    IsStep at n rs (without_region r.start r.pages rs)
removes at n [] r m h k = absurd (cc)
removes at n (x ∷ rs) r m h k = by_test (meets at n x) refl (λ i. removes at n rs r m i k) where
  by_test : (t : Bool) → meets at n x ≡ t → (find (meets at n) rs ≡ Some r →
      IsStep at n rs (without_region r.start r.pages rs)) → IsStep at n (x ∷ rs) (without_region r.start r.pages (x ∷ rs))
  by_test true is rest =
      let same : Some x ≡ Some r = rw is at h in
      let is_it : x ≡ r = cc in
      let here : is_at r.start r.pages x ≡ true = ap (λ (y : Region). is_at y.start y.pages x) (sym is_it) ∙ is_itself x in
      let start : x.start ≡ r.start = ap (λ (y : Region). y.start) is_it in
      let not_cut : nat_lt x.start at ≡ false = grind (arith, nat_tests) in
      rw here (record { same = rw is (rw not_cut refl); fewer = rw is (omega arith) })
  by_test false is rest =
      let there = other at n x r is m in
      rw there (passed at n x rs (without_region r.start r.pages rs) is (rest (rw is at h)))

untouched : (start pages left from : ℕ) (rs : List Region) (to : ℕ) → AreLaid from rs to → start < from → map (with_page_count start pages left) rs ≡ rs
untouched start pages left from [] to l h = refl
untouched start pages left from (x ∷ rs) to l h =
    let no : is_at start pages x ≡ false = grind (arith, nat_tests, l.0, h) in
    rw no (ap (λ ys. x ∷ ys) (untouched start pages left (end_of_region x) rs to l.3 (omega (arith, l.0, h))))

pub cuts :
    (at n from : ℕ) (rs : List Region) (to : ℕ) (r : Region) → AreLaid from rs to → meets at n r ≡ true → find (meets at n) rs ≡ Some r →
    r.start < at → IsStep at n rs (map (with_page_count r.start r.pages ((at - r.start) / 4096)) rs)
cuts at n from [] to r l m h k = absurd (cc)
cuts at n from (x ∷ rs) to r l m h k = by_test (meets at n x) refl (λ i. cuts at n (end_of_region x) rs to r l.3 m i k) where
  by_test :
      (t : Bool) → meets at n x ≡ t → (find (meets at n) rs ≡ Some r → IsStep at n rs (map (with_page_count r.start r.pages ((at - r.start) / 4096)) rs)) →
      IsStep at n (x ∷ rs) (map (with_page_count r.start r.pages ((at - r.start) / 4096)) (x ∷ rs))
  by_test true is rest =
      let same : Some x ≡ Some r = rw is at h in
      let is_it : r ≡ x = cc in
      subst (λ (y : Region). IsStep at n (x ∷ rs) (map (with_page_count y.start y.pages ((at - y.start) / 4096)) (x ∷ rs))) (sym is_it)
      (let here = is_itself x in
      let start : x.start ≡ r.start = ap (λ (y : Region). y.start) (sym is_it) in
      let cut_here : nat_lt x.start at ≡ true = grind (arith, nat_tests) in
      let missed : meets at n (record x { pages = (at - x.start) / 4096 }) ≡ false = misses x (omega (arith, start, k)) in
      rw here (rw (untouched x.start x.pages ((at - x.start) / 4096) (end_of_region x) rs to l.3 (omega (arith, l.2)))
      (record { same = rw missed (rw is (rw cut_here refl)); fewer = rw missed (rw is (omega arith)) }))) where
        misses : (x : Region) → x.start + 4096 * ((at - x.start) / 4096) ≤ at → meets at n (record x { pages = (at - x.start) / 4096 }) ≡ false
        misses x h = grind (arith, nat_tests)
  by_test false is rest =
      let there = other at n x r is m in
      rw there (passed at n x rs (map (with_page_count r.start r.pages ((at - r.start) / 4096)) rs) is (rest (rw is at h)))

pub none_left : (at n : ℕ) (rs : List Region) → find (meets at n) rs ≡ None → cut_regions at n rs ≡ rs
none_left at n [] h = refl
none_left at n (x ∷ rs) h = by_test (meets at n x) refl (none_left at n rs) where
  by_test : (t : Bool) → meets at n x ≡ t → (find (meets at n) rs ≡ None → cut_regions at n rs ≡ rs) → cut_regions at n (x ∷ rs) ≡ x ∷ rs
  by_test true is rest = let no : Some x ≡ None = rw is at h in absurd (cc)
  by_test false is rest = rw is (ap (λ ys. x ∷ ys) (rest (rw is at h)))

-- if pages meet a region, they begin before its end
pub bounds : (at n : ℕ) (r : Region) → meets at n r ≡ true → at < end_of_region r
bounds at n r h = grind (arith, nat_tests)

-- What look-ups of met regions say of a region of the user.
use Rattle.std.proofs.Common.{◌≡◌, ℕ, ◌*◌, ◌/◌, ◌%◌, ◌^◌, ◌<◌, ◌≤◌, ◌&&◌, not, List, [], ◌∷◌, find, refl, sym, ap, ◌∙◌, arith, Bool, true, false, Option, Some, is_some}
use Rattle.std.specs.List.{list_any}
use Rattle.std.proofs.lemmas.Bool.Decides.{nat_tests}
use Rattle.machine_model.specs.declared.region.Region.{Region}
use Rattle.machine_model.specs.State.{end_of_region}
use Rattle.machine_model.specs.Place.{meets, meets_any}
use Rattle.machine_model.specs.Machine.{Paged}
use Rattle.mapped_regions.specs.Regions.{is_at, meets_heap, AreLaid}
use Rattle.mapped_regions.specs.UserRegions.{meets_any_heap, has_user_region}

-- a search finds one if a test passes
found_any : (test : Region → Bool) (list : List Region) → is_some (find test list) ≡ list_any test list
found_any test [] = refl
found_any test (r ∷ rs) = go (test r) refl (found_any test rs) where
  go : (t : Bool) → test r ≡ t → is_some (find test rs) ≡ list_any test rs → is_some (find test (r ∷ rs)) ≡ list_any test (r ∷ rs)
  go true is rest = rw is refl
  go false is rest = rw is rest

-- the page number of an address at a page
page_start : (start first : ℕ) → start % 4096 ≡ 0 → first ≡ start / 4096 → 4096 * first ≡ start
page_start start first whole is = omega arith

pub heap_met : (p : Paged) (start first pages : ℕ) (found : Option Region) (b : Bool) → start % 4096 ≡ 0 → first ≡ start / 4096 →
    found ≡ find (meets_heap (4096 * first) pages) p.regions → is_some found ≡ b → meets_any_heap p start pages ≡ b
heap_met p start first pages found b whole first_is is some =
    let at = page_start start first whole first_is in
    sym (found_any (meets_heap start pages) p.regions) ∙ (ap (λ a. is_some (find (meets_heap a pages) p.regions)) (sym at)
    ∙ (ap (λ (o : Option Region). is_some o) (sym is) ∙ some))

pub any_met : (p : Paged) (start first pages : ℕ) (found : Option Region) (b : Bool) → start % 4096 ≡ 0 → first ≡ start / 4096 →
    found ≡ find (meets (4096 * first) pages) p.regions → is_some found ≡ b → meets_any start pages p.regions ≡ b
any_met p start first pages found b whole first_is is some =
    let at = page_start start first whole first_is in
    sym (found_any (meets start pages) p.regions) ∙ (ap (λ a. is_some (find (meets a pages) p.regions)) (sym at)
    ∙ (ap (λ (o : Option Region). is_some o) (sym is) ∙ some))

-- ---- the lowest region that is met

-- it is listed, and if none of the heap is met, it is the user's
pub found_there : (at start pages : ℕ) (list : List Region) (r : Region) → find (meets at pages) list ≡ Some r → r.start ≡ start → r.pages ≡ pages →
    list_any (is_at start pages) list ≡ true
found_there at start pages [] r is s n = absurd (cc)
found_there at start pages (x ∷ xs) r is s n = go (meets at pages x) (is_at start pages x) refl refl (λ i. found_there at start pages xs r i s n) where
  here : x ≡ r → is_at start pages x ≡ true
  here e =
      let a : x.start ≡ start = ap (λ (y : Region). y.start) e ∙ s in
      let b : x.pages ≡ pages = ap (λ (y : Region). y.pages) e ∙ n in
      grind (arith, nat_tests)

  go : (m t : Bool) → meets at pages x ≡ m → is_at start pages x ≡ t →
      (find (meets at pages) xs ≡ Some r → list_any (is_at start pages) xs ≡ true) →
      list_any (is_at start pages) (x ∷ xs) ≡ true
  go m true w t rest = rw t refl
  go true false w t rest =
      let same : Some x ≡ Some r = rw w at is in
      let e : x ≡ r = cc in
      let yes = here e in absurd (cc)
  go false false w t rest = rw t (rest (rw w at is))

-- a listed region that is met, if none of the heap is met, is the user's
pub user_there : (p : Paged) (start pages : ℕ) → 0 < pages → list_any (is_at start pages) p.regions ≡ true →
    meets_any_heap p start pages ≡ false → has_user_region p start pages ≡ true
user_there p start pages some there none = go p.regions there none where
  go : (list : List Region) → list_any (is_at start pages) list ≡ true → list_any (meets_heap start pages) list ≡ false →
      list_any (λ region. not region.heap && is_at start pages region) list ≡ true
  go [] there none = there
  go (x ∷ xs) there none = by (is_at start pages x) x.heap (meets start pages x) refl refl refl (go xs) where
    by : (t h m : Bool) → is_at start pages x ≡ t → x.heap ≡ h → meets start pages x ≡ m →
        (list_any (is_at start pages) xs ≡ true → list_any (meets_heap start pages) xs ≡ false →
        list_any (λ region. not region.heap && is_at start pages region) xs ≡ true) →
        list_any (λ region. not region.heap && is_at start pages region) (x ∷ xs) ≡ true
    by true false m t h w rest = rw (t, h) refl
    by true true true t h w rest = let no : true ≡ false = rw (h, w) at none in absurd (cc)
    by true true false t h w rest = let yes : meets start pages x ≡ true = grind (arith, nat_tests) in absurd (cc)
    by false false m t h w rest = rw (t, h) (rest (rw t at there) (rw h at none))
    by false true true t h w rest = let no : true ≡ false = rw (h, w) at none in absurd (cc)
    by false true false t h w rest = rw (t, h) (rest (rw t at there) (rw (h, w) at none))

-- ---- a region that is not there

-- if regions are laid, one that has just these pages is the lowest one that they meet
alone : (start pages from : ℕ) (list : List Region) (to : ℕ) → 0 < pages → AreLaid from list to →
    list_any (λ region. not region.heap && is_at start pages region) list ≡ true →
    (r : Region) × (find (meets start pages) list ≡ Some r) × (r.start ≡ start) × (r.pages ≡ pages)
alone start pages from [] to some laid there = let no : false ≡ true = there in absurd (cc)
alone start pages from (x ∷ xs) to some laid there = go (not x.heap && is_at start pages x) (meets start pages x) refl refl
    (alone start pages (end_of_region x) xs to some laid.3) where
      is : (not x.heap && is_at start pages x) ≡ true → is_at start pages x ≡ true
      is h = grind arith

      go : (t m : Bool) → (not x.heap && is_at start pages x) ≡ t → meets start pages x ≡ m →
          (list_any (λ region. not region.heap && is_at start pages region) xs ≡ true →
          (r : Region) × (find (meets start pages) xs ≡ Some r) × (r.start ≡ start) × (r.pages ≡ pages)) →
          (r : Region) × (find (meets start pages) (x ∷ xs) ≡ Some r) × (r.start ≡ start) × (r.pages ≡ pages)
      go true true t w rest = let i = is t in (x, rw w refl, grind (arith, nat_tests), grind (arith, nat_tests))
      go true false t w rest = let i = is t in let yes : meets start pages x ≡ true = grind (arith, nat_tests) in absurd (cc)
      go false false t w rest = let r = rest (rw t at there) in (r.0, rw w r.1, r.2, r.3)
      go false true t w rest =
          let r = rest (rw t at there) in
          let behind : end_of_region x ≤ start = low (end_of_region x) xs laid.3 r.0 r.1 r.2 in
          let no : meets start pages x ≡ false = grind (arith, nat_tests) in absurd (cc)
        where
          low : (at : ℕ) (list : List Region) → AreLaid at list to → (r : Region) → find (meets start pages) list ≡ Some r → r.start ≡ start → at ≤ start
          low at [] l r found s = absurd (cc)
          low at (y ∷ ys) l r found s = by (meets start pages y) refl (low (end_of_region y) ys l.3 r) where
            by : (m : Bool) → meets start pages y ≡ m → (find (meets start pages) ys ≡ Some r → r.start ≡ start → end_of_region y ≤ start) → at ≤ start
            by true w rest =
                let same : Some y ≡ Some r = rw w at found in
                let e : y ≡ r = cc in
                let a : y.start ≡ start = ap (λ (z : Region). z.start) e ∙ s in
                omega (arith, l.0, a)
            by false w rest = let more = rest (rw w at found) s in omega (arith, l.0, more)

-- so none is there, if another one is the lowest, or none is met
pub none_there : (p : Paged) (start first pages : ℕ) (found : Option Region) → start % 4096 ≡ 0 → first ≡ start / 4096 →
    0 < pages → AreLaid 0 p.regions (2 ^ 64) →
    found ≡ find (meets (4096 * first) pages) p.regions → ((r : Region) → found ≡ Some r → r.start ≡ start →
    r.pages ≡ pages → ⊥) → has_user_region p start pages ≡ false
none_there p start first pages found whole first_is some laid is other = go (has_user_region p start pages) refl where
  go : (b : Bool) → has_user_region p start pages ≡ b → has_user_region p start pages ≡ false
  go false e = e
  go true e =
      let at = page_start start first whole first_is in
      let r = alone start pages 0 p.regions (2 ^ 64) some laid e in
      absurd (other r.0 (is ∙ (ap (λ a. find (meets a pages) p.regions) at ∙ r.1)) r.2 r.3)

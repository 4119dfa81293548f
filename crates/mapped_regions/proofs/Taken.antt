-- What is left if pages were taken out.
use Rattle.std.proofs.Common.{◌||◌, ◌≡◌, ◌∙◌, refl, ℕ, ◌+◌, ◌-◌, ◌*◌, ◌/◌, ◌%◌, ◌<◌, ◌≤◌, ◌&&◌, ◌⊎◌, inl, inr, Bool, true, false, cond, List, [], ◌∷◌, arith, Some, None, nat_lt, nat_le}
use Rattle.std.proofs.lemmas.Bool.{cases_lt}
use Rattle.std.proofs.lemmas.Bool.Decides.{nat_tests}
use Rattle.std.specs.List.{list_any}
use Rattle.machine_model.specs.declared.region.Region.{Region}
use Rattle.machine_model.specs.State.{end_of_region, is_within}
use Rattle.machine_model.specs.Place.{meets, meets_any, with_region}
use Rattle.mapped_regions.specs.Regions.{AreLaid, IsRegionBoundary, AreTakenOut, IsPutIn, is_at, without_region, cut_regions, kind_at}

-- a region that the pages miss holds no address of theirs
outside :
    (low n address : ℕ) (x : Region) → meets low n x ≡ false → is_within address x ≡ true →
    (nat_le low address && nat_lt address (low + 4096 * n)) ≡ false
outside low n address x m h = grind (arith, nat_tests)

-- Of a region that does not reach over their end, the addresses from their start on are theirs.
inside :
    (low n address : ℕ) (x : Region) → meets low n x ≡ true → (end_of_region
    x ≤ low + 4096 * n) ⊎ (low + 4096 * n ≤ x.start) →
    is_within address x ≡ true → low ≤ address → (nat_le low address && nat_lt address (low + 4096 * n)) ≡ true
inside low n address x m (inl before) h a = grind (arith, nat_tests)
inside low n address x m (inr behind) h a = absurd (grind (arith, nat_tests, m))

in_range : (low n address : ℕ) → (nat_le low address && nat_lt address (low + 4096 * n)) ≡ true → low ≤ address
in_range low n address h = grind (arith, nat_tests)

-- ---- a region that ends at an address

ends_before : (low left address : ℕ) (x : Region) → x.start + 4096 * left ≡ low → low ≤ address → is_within address (record x { pages = left }) ≡ false
ends_before low left address x e h = grind (arith, nat_tests)

still_holds :
    (low left address : ℕ) (x : Region) → x.start + 4096 * left ≡ low → address < low → is_within address x ≡ true →
    is_within address (record x { pages = left }) ≡ true
still_holds low left address x e h w = grind (arith, nat_tests)

holds_no_more :
    (low n left address : ℕ) (x : Region) → x.start + 4096 * left ≡ low → meets low n x ≡ true →
    is_within address x ≡ false → is_within address (record x { pages = left }) ≡ false
holds_no_more low n left address x e m w = grind (arith, nat_tests)

pub taken_out :
    (low n from : ℕ) (rs : List Region) (to : ℕ) → low % 4096 ≡ 0 → AreLaid from rs to →
    IsRegionBoundary (low + 4096 * n) rs →
    AreTakenOut low (low + 4096 * n) rs (cut_regions low n rs)
taken_out low n from [] to p l b address = go (nat_le low address && nat_lt address (low + 4096 * n)) where
  go : (t : Bool) → kind_at [] address ≡ cond t None (kind_at [] address)
  go true = refl
  go false = refl
taken_out low n from (x ∷ rs) to p l b address =
    by_tests (meets low n x) (nat_lt x.start low) (is_within address x)
    (nat_le low address && nat_lt address (low + 4096 * n)) refl refl refl refl
    (taken_out low n (end_of_region x) rs to p l.3 b.1 address) where
      meet_end : nat_lt x.start low ≡ true → x.start + 4096 * ((low - x.start) / 4096) ≡ low
      meet_end c = let before : x.start < low = grind (arith, nat_tests, c) in omega (arith, before, p, l.1)

      by_tests :
          (t u v r : Bool) → meets low n x ≡ t → nat_lt x.start low ≡ u → is_within address x ≡ v →
          (nat_le low address && nat_lt address (low + 4096 * n)) ≡ r →
          kind_at (cut_regions low n rs) address ≡ cond (nat_le low address && nat_lt address (low + 4096 * n)) None (kind_at rs address) →
          kind_at (cut_regions low n (x ∷ rs)) address ≡ cond (nat_le low address && nat_lt address (low + 4096 * n)) None (kind_at (x ∷ rs) address)
      by_tests false u true r is c w q i = let o = outside low n address x is w in rw is (rw w (rw o refl))
      by_tests false u false r is c w q i = rw is (rw w i)
      by_tests true true true true is c w q i =
          let w' = ends_before low ((low - x.start) / 4096) address x (meet_end c) (in_range low n address q) in
          rw is (rw c (rw w' (rw w (rw q (rw q at i)))))
      by_tests true true true false is c w q i =
          let before : address < low = elim (cases_lt address low) [
            | inl h ↦ h
            | inr h ↦ (let t = inside low n address x is b.0 w h in absurd (cc))
          ] in
          let w' = still_holds low ((low - x.start) / 4096) address x (meet_end c) before w in
          rw is (rw c (rw w' (rw w (rw q refl))))
      by_tests true true false r is c w q i =
          let w' = holds_no_more low n ((low - x.start) / 4096) address x (meet_end c) is w in
          rw is (rw c (rw w' (rw w i)))
      by_tests true false true r is c w q i =
          let above : low ≤ address = grind (arith, nat_tests, c, w) in
          let t = inside low n address x is b.0 w above in
          rw is (rw c (rw w (rw t (rw t at i))))
      by_tests true false false r is c w q i = rw is (rw c (rw w i))

-- ---- a region that leaves

-- no region after an address holds it
none_behind : (address from : ℕ) (rs : List Region) (to : ℕ) → AreLaid from rs to → address < from → kind_at rs address ≡ None
none_behind address from [] to l h = refl
none_behind address from (x ∷ rs) to l h =
    let w : is_within address x ≡ false = grind (arith, nat_tests, l.0, h) in
    rw w (none_behind address (end_of_region x) rs to l.3 (omega (arith, h, l.0)))

listed_from : (start pages from : ℕ) (rs : List Region) (to : ℕ) → AreLaid from rs to → list_any (is_at start pages) rs ≡ true → from ≤ start
listed_from start pages from [] to l h = let no : false ≡ true = h in absurd (cc)
listed_from start pages from (x ∷ rs) to l h = go (is_at start pages x) refl (listed_from start pages (end_of_region x) rs to l.3) where
  go : (t : Bool) → is_at start pages x ≡ t → (list_any (is_at start pages) rs ≡ true → end_of_region x ≤ start) →
      from ≤ start
  go true is rest = grind (arith, nat_tests, l.0)
  go false is rest = let r = rest (rw is at h) in omega (arith, r, l.0)

same_range : (start pages address : ℕ) (x : Region) → is_at start pages x ≡ true →
    (nat_le start address && nat_lt address (start + 4096 * pages)) ≡ is_within address x
same_range start pages address x is = grind (arith, nat_tests)

before_range : (start pages address : ℕ) → address < start → (nat_le start address && nat_lt address (start + 4096 * pages)) ≡ false
before_range start pages address h = grind (arith, nat_tests)

pub taken_without :
    (start pages from : ℕ) (rs : List Region) (to : ℕ) → AreLaid from rs to → list_any (is_at start pages) rs ≡ true →
    AreTakenOut start (start + 4096 * pages) rs (without_region start pages rs)
taken_without start pages from [] to l h address = let no : false ≡ true = h in absurd (cc)
taken_without start pages from (x ∷ rs) to l h address = go (is_at start pages x) (is_within address x) refl refl
    (λ k. taken_without start pages (end_of_region x) rs to l.3 k address) where
      go :
          (t v : Bool) → is_at start pages x ≡ t → is_within address x ≡ v →
          (list_any (is_at start pages) rs ≡ true → kind_at (without_region start pages rs) address ≡ cond
          (nat_le start address && nat_lt address (start + 4096 * pages)) None (kind_at rs address)) →
          kind_at (without_region start pages (x ∷ rs)) address ≡ cond (nat_le start address && nat_lt address
          (start + 4096 * pages)) None (kind_at (x ∷ rs) address)
      go true true is w rest =
          let r = same_range start pages address x is ∙ w in
          let before : address < end_of_region x = grind (arith, nat_tests, w) in
          rw is (rw r (none_behind address (end_of_region x) rs to l.3 before))
      go true false is w rest = let r = same_range start pages address x is ∙ w in rw is (rw r (rw w refl))
      go false true is w rest =
          let behind = listed_from start pages (end_of_region x) rs to l.3 (rw is at h) in
          let before : address < end_of_region x = grind (arith, nat_tests, w) in
          let r = before_range start pages address (omega (arith, before, behind)) in
          rw is (rw w (rw r refl))
      go false false is w rest = rw is (rw w (rest (rw is at h)))

-- ---- a region that joins

apart : (address : ℕ) (region x : Region) → meets region.start region.pages x ≡ false → is_within address x ≡ true → is_within address region ≡ false
apart address region x m w = grind (arith, nat_tests)

neither : (a b : Bool) → (a || b) ≡ false → (a ≡ false) × (b ≡ false)
neither true b h = let no : true ≡ false = h in absurd (cc)
neither false b h = (refl, h)

-- the one that joins is at its addresses, and every other address is as it was
pub put_in : (region : Region) (rs : List Region) → meets_any region.start region.pages rs ≡ false → IsPutIn region rs (with_region region rs)
put_in region [] h address = go (is_within address region) refl where
  go : (v : Bool) → is_within address region ≡ v → kind_at (region ∷ []) address ≡ cond (is_within address region)
      (Some (region.heap, region.rights)) (kind_at [] address)
  go true w = rw w refl
  go false w = rw w refl
put_in region (x ∷ rs) h address = go (nat_lt region.start x.start) (is_within address region) (is_within address x) refl
    refl refl (put_in region rs both.1 address) where
      both : (meets region.start region.pages x ≡ false) × (meets_any region.start region.pages rs ≡ false)
      both = neither (meets region.start region.pages x) (meets_any region.start region.pages rs) h

      go :
          (t u v : Bool) → nat_lt region.start x.start ≡ t → is_within address region ≡ u → is_within address x ≡ v →
          kind_at (with_region region rs) address ≡ cond (is_within address region) (Some (region.heap, region.rights)) (kind_at rs address) →
          kind_at (with_region region (x ∷ rs)) address ≡ cond (is_within address region) (Some (region.heap, region.rights)) (kind_at (x ∷ rs) address)
      go true true v is w y i = rw is (rw w refl)
      go true false v is w y i = rw is (rw w refl)
      go false u true is w y i = let no = apart address region x both.0 y in rw is (rw y (rw no refl))
      go false u false is w y i = rw is (rw y i)

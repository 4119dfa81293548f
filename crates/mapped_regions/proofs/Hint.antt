-- A search that begins after pages that are held.
use Rattle.std.proofs.Common.{◌≡◌, refl, ℕ, ◌+◌, ◌-◌, ◌*◌, ◌<◌, ◌≤◌, Bool, true, false, ◌||◌, List, [], ◌∷◌, arith, ◌⊎◌, inl, inr, Option, Some, None}
use Rattle.std.proofs.lemmas.Bool.{cases_lt}
use Rattle.std.proofs.lemmas.Bool.Decides.{nat_tests}
use Rattle.std.specs.List.{list_any}
use Rattle.machine_model.specs.declared.region.Region.{Region}
use Rattle.machine_model.specs.State.{is_within}
use Rattle.machine_model.specs.Place.{meets, meets_any, IsFit, IsPlace, HasNoPlace}
use Rattle.mapped_regions.specs.Regions.{AreHeld, IsHint, IsLowest}

-- pages whose first address lies in a region meet it
within_meets : (address n : ℕ) (region : Region) → 0 < n → is_within address region ≡ true → meets address n region ≡ true
within_meets address n region some h = grind (arith, nat_tests)

-- pages of which the first is held are not free
held_first : (address n : ℕ) (regions : List Region) → 0 < n → list_any (is_within address) regions ≡ true → meets_any address n regions ≡ true
held_first address n [] some h = h
held_first address n (r ∷ rs) some h = by_test (is_within address r) refl (held_first address n rs some) where
  or_right : (t u : Bool) → u ≡ true → (t || u) ≡ true
  or_right true u k = refl
  or_right false u k = k

  by_test : (t : Bool) → is_within address r ≡ t → (list_any (is_within address) rs ≡ true →
      meets_any address n rs ≡ true) → meets_any address n (r ∷ rs) ≡ true
  by_test true is rest = let here = within_meets address n r some is in rw here refl
  by_test false is rest = or_right (meets address n r) (meets_any address n rs) (rest (rw is at h))

-- a fit in the window lies after the held pages
fit_behind :
    (base hint pages n address : ℕ) (regions : List Region) → AreHeld (4096 * base) (4096 * hint) regions → 0 < n → hint ≤ base + pages →
    IsFit (4096 * base) pages regions n address → IsFit (4096 * hint) (base + pages - hint) regions n address
fit_behind base hint pages n address regions held some to fit = by_address (cases_lt address (4096 * hint)) where
  by_address : (address < 4096 * hint) ⊎ (4096 * hint ≤ address) → IsFit (4096 * hint) (base + pages - hint) regions n address
  by_address (inl before) = let yes = held_first address n regions some (held address fit.from before) in let no = fit.clear in absurd (cc)
  by_address (inr behind) = record { aligned = fit.aligned; from = behind; within = omega (arith, fit.within, to); clear = fit.clear }

place_behind :
    (base hint pages n address : ℕ) (regions : List Region) → AreHeld (4096 * base) (4096 * hint) regions → 0 < n → base ≤ hint → hint ≤ base + pages →
    IsPlace (4096 * hint) (base + pages - hint) regions n address → IsPlace (4096 * base) pages regions n address
place_behind base hint pages n address regions held some from to place = record {
  fit = record {
    aligned = place.fit.aligned;
    from = omega (arith, from, place.fit.from);
    within =
        omega (arith, place.fit.within, to);
    clear = place.fit.clear;
  };
  least = λ other lower fit. place.least other lower (fit_behind base hint pages n other regions held some to fit);
}

none_behind :
    (base hint pages n : ℕ) (regions : List Region) → AreHeld (4096 * base) (4096 * hint) regions → 0 < n → hint ≤ base + pages →
    HasNoPlace (4096 * hint) (base + pages - hint) regions n → HasNoPlace (4096 * base) pages regions n
none_behind base hint pages n regions held some to none address fit = none address (fit_behind base hint pages n address regions held some to fit)

pub lowest_behind :
    (o : Option ℕ) (base hint pages n : ℕ) (regions : List Region) → IsHint base (base + pages) regions hint → 0 < n →
    IsLowest hint (base + pages - hint) regions n o → IsLowest base pages regions n o
lowest_behind None base hint pages n regions is some h = none_behind base hint pages n regions is.held some is.to h
lowest_behind (Some page) base hint pages n regions is some h = place_behind base hint pages n (4096 * page) regions is.held some is.from is.to h

-- An address that each region misses.
use Rattle.std.proofs.Common.{◌≡◌, ℕ, ◌||◌, Bool, true, false, List, [], ◌∷◌, nat_le, refl, arith}
use Rattle.std.specs.List.{list_all}
use Rattle.std.proofs.lemmas.Bool.Decides.{nat_tests}
use Rattle.machine_model.specs.declared.region.Region.{Region}
use Rattle.machine_model.specs.State.{end_of_region}
use Rattle.mapped_regions.specs.Regions.{IsRegionBoundary}

-- no region reaches over an address that each of them misses
pub missed_by_all : (address : ℕ) (list : List Region) → list_all (λ region.
    nat_le (end_of_region region) address || nat_le address region.start) list ≡ true → IsRegionBoundary address list
missed_by_all address [] all = tt
missed_by_all address (first ∷ rest) all = go (nat_le (end_of_region first) address || nat_le address first.start) refl (missed_by_all address rest) where
  go : (t : Bool) → (nat_le (end_of_region first) address || nat_le address first.start) ≡ t →
      (list_all (λ region. nat_le (end_of_region region) address || nat_le address region.start) rest ≡ true →
      IsRegionBoundary address rest) → IsRegionBoundary address (first ∷ rest)
  go true is_so later = (grind (arith, nat_tests), later (rw is_so at all))
  go false not_so later = let never : false ≡ true = rw not_so at all in absurd (cc)

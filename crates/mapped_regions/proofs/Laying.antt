-- Regions that lie by address lie so when one joins, when one leaves, and when pages are cut out of them.
use Rattle.std.proofs.Common.{◌≡◌, ℕ, ◌+◌, ◌-◌, ◌*◌, ◌/◌, ◌%◌, ◌<◌, ◌≤◌, nat_lt, inl, inr, Bool, true, false, cond, List, [], ◌∷◌, refl, arith}
use Rattle.std.proofs.lemmas.Bool.Decides.{nat_tests}
use Rattle.machine_model.specs.declared.region.Region.{Region}
use Rattle.machine_model.specs.State.{end_of_region}
use Rattle.machine_model.specs.Place.{meets, meets_any, with_region}
use Rattle.machine_model.proofs.Booleans.{neither_or}
use Rattle.machine_model.proofs.Regions.{beside}
use Rattle.mapped_regions.specs.Regions.{AreLaid, is_at, without_region, cut_regions}

pub laid_from : (low from to : ℕ) (list : List Region) → low ≤ from → AreLaid from list to → AreLaid low list to
laid_from low from to [] less laid = omega (arith, less, laid)
laid_from low from to (first ∷ rest) less laid = (omega (arith, less, laid.0), laid.1, laid.2, laid.3)

pub laid_with : (region : Region) (from to : ℕ) (list : List Region) → region.start % 4096 ≡ 0 → 0 < region.pages →
    from ≤ region.start → end_of_region region ≤ to → meets_any region.start region.pages list ≡ false →
    AreLaid from list to →
    AreLaid from (with_region region list) to
laid_with region from to [] whole some above below clear laid = (above, whole, some, below)
laid_with region from to (first ∷ rest) whole some above below clear laid =
    let both : (meets region.start region.pages first ≡ false) × (meets_any region.start region.pages rest ≡ false) =
    neither_or (meets region.start region.pages first) (meets_any region.start region.pages rest) clear in
    go (nat_lt region.start first.start) (λ less. grind (arith, nat_tests)) (λ more. grind (arith, nat_tests)) both.0
    (λ behind. laid_with region (end_of_region first) to rest whole some behind below both.1 laid.3)
  where
    go : (b : Bool) → (b ≡ true → region.start < first.start) → (b ≡ false → first.start ≤ region.start) → meets region.start region.pages first ≡ false →
        (end_of_region first ≤ region.start → AreLaid (end_of_region first) (with_region region rest) to) →
        AreLaid from (cond b (region ∷ first ∷ rest) (first ∷ with_region region rest)) to
    go true sooner later none rest_laid = (
      above,
      whole,
      some,
      (
        elim (beside region.start region.pages first none) [
          | inl behind ↦ absurd (omega (arith, behind, sooner refl, laid.2))
          | inr before ↦ before
        ],
        laid.1,
        laid.2,
        laid.3,
      ),
    )
    go false sooner later none rest_laid = (
      laid.0,
      laid.1,
      laid.2,
      rest_laid (elim (beside region.start region.pages first none) [ inl behind ↦ behind | inr before ↦ absurd (omega (arith, before, later refl, some)) ]),
    )

pub laid_without : (start pages from to : ℕ) (list : List Region) → AreLaid from list to → AreLaid from (without_region start pages list) to
laid_without start pages from to [] laid = laid
laid_without start pages from to (first ∷ rest) laid = go (is_at start pages first) (laid_without start pages (end_of_region first) to rest laid.3)
  where
    go : (b : Bool) → AreLaid (end_of_region first) (without_region start pages rest) to →
        AreLaid from (cond b rest (first ∷ without_region start pages rest)) to
    go true later = laid_from from (end_of_region first) to rest (omega (arith, laid.0)) laid.3
    go false later = (laid.0, laid.1, laid.2, later)

pub laid_cut : (address pages from to : ℕ) (list : List Region) → address % 4096 ≡ 0 → AreLaid from list to → AreLaid from (cut_regions address pages list) to
laid_cut address pages from to [] whole laid = laid
laid_cut address pages from to (first ∷ rest) whole laid = go (meets address pages first) refl (nat_lt first.start address)
    refl (laid_cut address pages (end_of_region first) to rest whole laid.3)
  where
    before : meets address pages first ≡ true → address < end_of_region first
    before met = grind (arith, nat_tests)

    go : (m : Bool) → meets address pages first ≡ m → (b : Bool) → nat_lt first.start address ≡ b →
        AreLaid (end_of_region first) (cut_regions address pages rest) to →
        AreLaid from (cond m (cond b (record first { pages = (address - first.start) / 4096 } ∷ cut_regions address pages
        rest)
        (cut_regions address pages rest)) (first ∷ cut_regions address pages rest)) to
    go true met true less later =
        let below = before met in
        let above : first.start < address = grind (arith, nat_tests) in
        let at_page = laid.1 in (
          laid.0,
          laid.1,
          omega (arith, above, at_page, whole),
          laid_from (first.start + 4096 * ((address - first.start) / 4096)) (end_of_region first) to
              (cut_regions address pages rest)
              (omega (arith, above, below, at_page, whole)) later,
        )
    go true met false more later = laid_from from (end_of_region first) to (cut_regions address pages rest) (omega (arith, laid.0)) later
    go false met b is later = (laid.0, laid.1, laid.2, later)

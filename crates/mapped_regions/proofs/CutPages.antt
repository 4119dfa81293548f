-- Pages at the end of regions are cut: how many the regions lose, and what a region is that is shorter.
use Rattle.std.proofs.Common.{◌≡◌, ℕ, ◌+◌, ◌-◌, ◌*◌, ◌/◌, ◌%◌, ◌<◌, ◌≤◌, ◌⊎◌, inl, inr, Bool, true, false, nat_lt, List, [], ◌∷◌, refl, sym, ap, ◌∙◌, arith}
use Rattle.std.specs.Prelude.{if◌then◌else◌}
use Rattle.std.specs.List.{AllByRecursion, list_any}
use Rattle.std.proofs.lemmas.Bool.{cases_lt}
use Rattle.std.proofs.lemmas.Bool.Decides.{nat_tests}
use Rattle.machine_model.specs.declared.region.Region.{Region}
use Rattle.machine_model.specs.State.{end_of_region, is_within, total_pages}
use Rattle.machine_model.specs.Place.{meets}
use Rattle.machine_model.proofs.Booleans.{or_cases}
use Rattle.mapped_regions.specs.Regions.{AreLaid, AreHeld, IsRegionBoundary, cut_regions}
use Rattle.mapped_regions.specs.Mapped.{IsPageRange, IsRegion}

-- an address that regions have is not before them
pub at_or_behind : (from to address : ℕ) (regions : List Region) → AreLaid from regions to → list_any (is_within address) regions ≡ true → from ≤ address
at_or_behind from to address [] laid is = cc
at_or_behind from to address (region ∷ rest) laid is = elim (or_cases (is_within address region) (list_any (is_within address) rest) is) [
  | inl here ↦ grind (arith, nat_tests)
  | inr later ↦ (let more = at_or_behind (end_of_region region) to address rest laid.3 later in let low = laid.0 in
      omega arith)
]

-- from `next` on the regions have all of the pages that are cut
module _ (low pages : ℕ) (aligned : low % 4096 ≡ 0) (some : 0 < pages) where
  cut_pages : (from to next : ℕ) (regions : List Region) → AreLaid from regions to → IsRegionBoundary (low + 4096 * pages) regions →
      low ≤ next → from ≤ next → (next ≡ low) ⊎ (next ≡ from) → next % 4096 ≡ 0 →
      ((address : ℕ) → next ≤ address → address < low + 4096 * pages → list_any (is_within address) regions ≡ true) →
      total_pages (cut_regions low pages regions) + (low + 4096 * pages - next) / 4096 ≡ total_pages regions
  cut_pages from to next [] laid ends above behind is whole held = elim (cases_lt next (low + 4096 * pages)) [
    | inl less ↦ absurd (let no = held next (omega arith) less in cc)
    | inr past ↦ omega arith
  ]
  cut_pages from to next (region ∷ rest) laid ends above behind is whole held = elim (cases_lt next (low + 4096 * pages)) [
    | inr past ↦ (
        let from_is : next ≡ from = elim is [ inl e ↦ absurd (omega arith) | inr e ↦ e ] in
        let starts = laid.0 in
        let apart : meets low pages region ≡ false = grind (arith, nat_tests) in
        let more = cut_pages (end_of_region region) to (end_of_region region) rest laid.3 ends.1 (omega arith) (omega arith)
        (inr refl)
        (let s = laid.1 in omega arith) (λ address low' high'. absurd (omega arith)) in
        rw apart (omega arith))
    | inl less ↦ elim (or_cases (is_within next region) (list_any (is_within next) rest) (held next (omega arith) less)) [
      | inl here ↦ (
          let starts : region.start ≤ next = grind (arith, nat_tests) in
          let ends_behind : next < end_of_region region = grind (arith, nat_tests) in
          let s = laid.1 in
          inside less starts ends_behind
          (cut_pages (end_of_region region) to (end_of_region region) rest laid.3 ends.1 (omega arith) (omega arith)
          (inr refl)
          (omega arith) (λ address past high. held_on address past (omega arith) high)))
      | inr later ↦ (
          let past : end_of_region region ≤ next = at_or_behind (end_of_region region) to next rest laid.3 later in
          let starts = laid.0 in
          let long = laid.2 in
          let low_is : next ≡ low = elim is [ inl e ↦ e | inr e ↦ absurd (omega arith) ] in
          let apart : meets low pages region ≡ false = grind (arith, nat_tests) in
          let more = cut_pages (end_of_region region) to next rest laid.3 ends.1 above past (inl low_is) whole
          (λ address from' before. held_on address (omega arith) from' before) in
          rw apart (omega arith))
    ]
  ]
    where
      -- an address after the region is in a later one
      held_on : (address : ℕ) → end_of_region region ≤ address → next ≤ address → address < low + 4096 * pages → list_any (is_within address) rest ≡ true
      held_on address past from' before = elim (or_cases (is_within address region) (list_any (is_within address) rest) (held address from' before)) [
        | inl here ↦ absurd (let bound : address < end_of_region region = grind (arith, nat_tests) in omega arith)
        | inr later ↦ later
      ]

      inside : next < low + 4096 * pages → region.start ≤ next → next < end_of_region region →
          total_pages (cut_regions low pages rest) + (low + 4096 * pages - end_of_region region) / 4096 ≡ total_pages rest →
          total_pages (cut_regions low pages (region ∷ rest)) + (low + 4096 * pages - next) / 4096 ≡ total_pages
          (region ∷ rest)
      inside less from' before more =
          let starts = laid.0 in
          let at_page = laid.1 in
          let end : end_of_region region ≤ low + 4096 * pages = elim ends.0 [ inl e ↦ e | inr e ↦ absurd (omega arith) ] in
          let met : meets low pages region ≡ true = grind (arith, nat_tests) in
          elim (cases_lt region.start low) [
            | inl reaches ↦ (
                let low_is : next ≡ low = elim is [ inl e ↦ e | inr e ↦ absurd (omega arith) ] in
                let test : nat_lt region.start low ≡ true = grind (arith, nat_tests) in
                rw (met, test) (omega arith))
            | inr within ↦ (
                let start_is : next ≡ region.start = elim is [ inl e ↦ omega arith | inr e ↦ omega arith ] in
                let test : nat_lt region.start low ≡ false = grind (arith, nat_tests) in
                rw (met, test) (omega arith))
          ]

  pub cut_count : (to : ℕ) (regions : List Region) → AreLaid 0 regions to → IsRegionBoundary (low + 4096 * pages) regions →
      AreHeld low (low + 4096 * pages) regions →
      total_pages (cut_regions low pages regions) + pages ≡ total_pages regions
  cut_count to regions laid ends held =
      let same : (low + 4096 * pages - low) / 4096 ≡ pages = omega arith in
      ap (λ (n : ℕ). total_pages (cut_regions low pages regions) + n) (sym same)
      ∙ cut_pages 0 to low regions laid ends (omega arith) (omega arith) (inl refl) aligned held

-- a region that ends earlier is a region
shorter_range : (start old new : ℕ) → IsPageRange start old → 0 < new → new ≤ old → IsPageRange start new
shorter_range start old new range some less =
    let half = range.1.one_half in
    (range.0, record { some = some; canonical = range.1.canonical; one_half = omega arith })

pub regions_cut : (base window low pages : ℕ) (regions : List Region) → low % 4096 ≡ 0 →
    AllByRecursion (IsRegion base window) regions → AllByRecursion (IsRegion base window) (cut_regions low pages regions)
regions_cut base window low pages [] whole all = tt
regions_cut base window low pages (region ∷ rest) whole all = go (meets low pages region) (nat_lt region.start low) refl
    refl (regions_cut base window low pages rest whole all.1)
  where
    go : (met before : Bool) → meets low pages region ≡ met → nat_lt region.start low ≡ before →
        AllByRecursion (IsRegion base window) (cut_regions low pages rest) →
        AllByRecursion (IsRegion base window) (if met then (if before then record region {
          pages =
              (low - region.start) / 4096;
        } ∷ cut_regions low pages rest else cut_regions low pages rest) else region ∷ cut_regions low pages
        rest)
    go false before met test later = (all.0, later)
    go true false met test later = later
    go true true met test later =
        let less : region.start < low = grind (arith, nat_tests) in
        let inside : low < end_of_region region = grind (arith, nat_tests) in
        let at_page = all.0.range.0 in (
          record {
            range = shorter_range region.start region.pages ((low - region.start) / 4096) all.0.range (omega arith) (omega arith);
            from = λ own. all.0.from own;
            within = λ own. (let w = all.0.within own in omega arith);
            rights = λ own. all.0.rights own;
          },
          later,
        )

-- A run of the heap leaves the regions of a paged system.
use Rattle.std.proofs.Common.{◌≡◌, ℕ, ◌+◌, ◌-◌, ◌*◌, ◌/◌, ◌%◌, ◌<◌, ◌≤◌, ◌⊎◌, inl, inr, Bool, true, false, cond, ◌&&◌, nat_lt, List, [], ◌∷◌, map, refl, sym, ap, ◌∙◌, subst, arith}
use Rattle.std.specs.Prelude.{if◌then◌else◌}
use Rattle.std.specs.List.{AllByRecursion}
use Rattle.std.proofs.lemmas.Bool.{cases_lt}
use Rattle.std.proofs.lemmas.Bool.Decides.{nat_tests}
use Rattle.heap_memory.specs.declared.grant.Grant.{Grant}
use Rattle.heap_memory.specs.Regions.{IsApart}
use Rattle.heap_memory.specs.Runs.{IsWithin, begins_in, up_to, without_run}
use Rattle.machine_model.specs.declared.region.Region.{Region}
use Rattle.machine_model.specs.State.{end_of_region}
use Rattle.machine_model.specs.Place.{meets}
use Rattle.mapped_regions.specs.Regions.{AreLaid, cut_regions}
use Rattle.paged_systems.specs.Words.{heap_regions, grant_of}

abbrev pub heap_grants : List Region → List Grant
heap_grants regions = map grant_of (heap_regions regions)

-- What a cut of so many pages from `low` on does to a region of the heap: it stays, or ends there, or leaves.
pub record Stays (low pages : ℕ) (region : Region) : Type 0 where
  pub apart : meets low pages region ≡ false
  pub before : begins_in low (low + 4096 * pages) (grant_of region) ≡ false
  pub whole : up_to low (grant_of region) ≡ grant_of region

pub record Ends (low pages : ℕ) (region : Region) : Type 0 where
  pub met : meets low pages region ≡ true
  pub from : nat_lt region.start low ≡ true
  pub before : begins_in low (low + 4096 * pages) (grant_of region) ≡ false
  pub cut : up_to low (grant_of region) ≡ grant_of (record region { pages = (low - region.start) / 4096 })

pub record Leaves (low pages : ℕ) (region : Region) : Type 0 where
  pub met : meets low pages region ≡ true
  pub from : nat_lt region.start low ≡ false
  pub within : begins_in low (low + 4096 * pages) (grant_of region) ≡ true

module _ (start low pages : ℕ) (aligned : low % 4096 ≡ 0) (some : 0 < pages) (after : start ≤ low) where
  stays_by : (region : Region) → meets low pages region ≡ false → begins_in low (low + 4096 * pages) (grant_of region) ≡ false →
      (nat_lt region.start low && nat_lt low (region.start + 4096 * region.pages)) ≡ false → Stays low pages region
  stays_by region apart before out = record { apart = apart; before = before; whole = rw out refl }

  one_cut : (region : Region) → region.start % 4096 ≡ 0 → 0 < region.pages →
      IsApart start (low + 4096 * pages) (grant_of region) ⊎ IsWithin start (low + 4096 * pages) (grant_of region) →
      Stays low pages region ⊎ Ends low pages region ⊎ Leaves low pages region
  one_cut region at_page more (inl (inl below)) = inl (stays_by region (grind (arith, nat_tests)) (grind (arith, nat_tests)) (grind (arith, nat_tests)))
  one_cut region at_page more (inl (inr above)) = inl (stays_by region (grind (arith, nat_tests)) (grind (arith, nat_tests)) (grind (arith, nat_tests)))
  one_cut region at_page more (inr within) =
      let ends : region.start + 4096 * region.pages ≤ low + 4096 * pages = within.1 in
      elim (cases_lt region.start low) [
        | inr from ↦ inr (inr (record { met = grind (arith, nat_tests); from = grind (arith, nat_tests); within = grind (arith, nat_tests) }))
        | inl before ↦ elim (cases_lt low (region.start + 4096 * region.pages)) [
          | inr past ↦ inl (stays_by region (grind (arith, nat_tests)) (grind (arith, nat_tests)) (grind (arith, nat_tests)))
          | inl reaches ↦ (
              let reaches_test : (nat_lt region.start low && nat_lt low (region.start + 4096 * region.pages)) ≡ true = grind (arith, nat_tests) in
              let size : low - region.start ≡ 4096 * ((low - region.start) / 4096) = omega arith in
              inr (inl (record {
                met = grind (arith, nat_tests);
                from = grind (arith, nat_tests);
                before = grind (arith, nat_tests);
                cut = rw reaches_test (ap (λ (n : ℕ). record { base = region.start; size = n; flags = 0 }) size);
              })))
        ]
      ]

  -- what a heap sees of the regions after a cut
  pub cut_grants : (from to : ℕ) (regions : List Region) → AreLaid from regions to →
      AllByRecursion (λ grant. IsApart start (low + 4096 * pages) grant ⊎ IsWithin start (low + 4096 * pages) grant) (heap_grants regions) →
      heap_grants (cut_regions low pages regions) ≡ without_run low (low + 4096 * pages) (heap_grants regions)
  cut_grants from to [] laid whole = refl
  cut_grants from to (region ∷ rest) laid whole = go region.heap refl (cut_grants (end_of_region region) to rest laid.3)
    where
      -- a region of the user is not seen, whatever the cut does to it
      unseen : (b met before : Bool) → region.heap ≡ false → b ≡ met →
          heap_grants (if met then (if before then record region { pages = (low - region.start) / 4096 } ∷ cut_regions low
          pages
          rest else cut_regions low pages rest) else region ∷ cut_regions low pages rest)
          ≡ heap_grants (cut_regions low pages rest)
      unseen b true true user is = rw user refl
      unseen b true false user is = refl
      unseen b false before user is = rw user refl

      go : (heap : Bool) → region.heap ≡ heap → (AllByRecursion (λ grant.
          IsApart start (low + 4096 * pages) grant ⊎ IsWithin start (low + 4096 * pages) grant) (heap_grants rest) →
          heap_grants (cut_regions low pages rest) ≡ without_run low (low + 4096 * pages) (heap_grants rest)) →
          heap_grants (cut_regions low pages (region ∷ rest)) ≡ without_run low (low + 4096 * pages) (heap_grants (region ∷ rest))
      go false user others =
          let rest_whole : AllByRecursion (λ grant. IsApart start (low + 4096 * pages) grant ⊎ IsWithin start (low + 4096 * pages) grant) (heap_grants rest) =
          subst (λ (b : Bool). AllByRecursion (λ grant. IsApart start (low + 4096 * pages) grant ⊎ IsWithin start
          (low + 4096 * pages) grant) (map grant_of (cond b (region ∷ heap_regions rest) (heap_regions rest)))) user
          whole in
          unseen (meets low pages region) (meets low pages region) (nat_lt region.start low) user refl
          ∙ (others rest_whole ∙ sym (ap (λ (b : Bool). without_run low (low + 4096 * pages)
          (map grant_of (cond b (region ∷ heap_regions rest) (heap_regions rest)))) user))
      go true own others =
          let all : AllByRecursion (λ grant. IsApart start (low + 4096 * pages) grant ⊎ IsWithin start (low + 4096 * pages)
          grant) (grant_of region ∷ heap_grants rest) =
          subst (λ (b : Bool). AllByRecursion (λ grant. IsApart start (low + 4096 * pages) grant ⊎ IsWithin start
          (low + 4096 * pages) grant) (map grant_of (cond b (region ∷ heap_regions rest) (heap_regions rest)))) own
          whole in
          let rest_is = others all.1 in
          elim (one_cut region laid.1 laid.2 all.0) [
            | inl stays ↦ rw (own, stays.apart, stays.before) (rw stays.whole (ap (λ gs. grant_of region ∷ gs) rest_is))
            | inr (inl ends) ↦ rw (own, ends.met, ends.from, ends.before) (rw ends.cut
                (ap (λ gs. grant_of (record region { pages = (low - region.start) / 4096 }) ∷ gs) rest_is))
            | inr (inr leaves) ↦ rw (own, leaves.met, leaves.from, leaves.within) rest_is
          ]

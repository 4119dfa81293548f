-- Regions of which bytes were given back.
use Rattle.dlmalloc.proofs.Names.{◌≡◌, ℕ, ◌+◌, ◌-◌, ◌<◌, ◌≤◌, ◌⊎◌, inl, inr, Bool, true, false, not, List, [], ◌∷◌, refl, arith, cond, map, AllByRecursion, filter, nat_tests, Grant, IsApart, IsWhole, IsRun, begins_in, up_to, without_run, granted_without, Segment, IsWithin, IsFlaggedRun, AreSegments, IsApartFrom}
use Rattle.heap_memory.specs.Runs.{IsWithin as IsIn}

-- what holds of each region that stays, or of the part of it that does, holds of all
pub all_without : (low high : ℕ) (Is Now : Grant → Type 0) → ((region : Grant) → Is region → begins_in low high region ≡ false →
    Now (up_to low region)) → (regions : List Grant) → AllByRecursion Is regions → AllByRecursion Now (without_run low high regions)
all_without low high Is Now each [] all = tt
all_without low high Is Now each (region ∷ regions) all = go (begins_in low high region) refl (all_without low high Is Now each regions all.1)
  where
    others : List Grant
    others = filter (λ r. not (begins_in low high r)) regions

    go : (b : Bool) → begins_in low high region ≡ b → AllByRecursion Now (without_run low high regions) →
        AllByRecursion Now (map (λ r. up_to low r) (cond (not b) (region ∷ others) others))
    go true leaves rest = rest
    go false stays rest = (each region all.0 stays, rest)

all_both : (Is And : Grant → Type 0) (regions : List Grant) → AllByRecursion Is regions → AllByRecursion And regions →
    AllByRecursion (λ region. Is region × And region) regions
all_both Is And [] one two = tt
all_both Is And (region ∷ regions) one two = ((one.0, two.0), all_both Is And regions one.1 two.1)

module _ {regions : List Grant} {base size flags : ℕ} (run : IsFlaggedRun regions base size flags) where
  in_run : AllByRecursion (λ region. IsApart base (base + size) region ⊎ IsIn base (base + size) region) regions
  in_run = go regions run.whole
    where
      go : (regions : List Grant) → AllByRecursion (λ region. IsApart base (base + size) region ⊎ IsWithin base (base + size) flags region) regions →
          AllByRecursion (λ region. IsApart base (base + size) region ⊎ IsIn base (base + size) region) regions
      go [] all = tt
      go (region ∷ regions) all = (elim all.0 [ inl apart ↦ inl apart | inr within ↦ inr (within.0, within.1) ], go regions all.1)

  -- a segment's bytes are a run that can be given back
  pub given_run : 0 < size → IsRun regions base (base + size)
  given_run some = record { some = omega arith; granted = run.covered; whole = in_run }

  module _ (less : ℕ) (within : less ≤ size) where
    abbrev pub low : ℕ
    low = base + (size - less)

    -- without its last bytes the run is shorter
    pub run_shortened : AllByRecursion IsWhole regions → IsFlaggedRun (without_run low (base + size) regions) base (size - less) flags
    run_shortened all = record {
      covered = λ k above below. (let is = granted_without base low (base + size) regions k in_run (omega arith) (omega arith) in
          let was = run.covered k above (omega arith) in grind (arith, nat_tests));
      whole = all_without low (base + size) (λ region. IsWhole region × (IsApart base (base + size) region ⊎ IsWithin base (base + size) flags region))
          (λ region. IsApart base low region ⊎ IsWithin base low flags region) (λ region both stays. each region both.0 both.1 stays) regions
          (all_both IsWhole (λ region. IsApart base (base + size) region ⊎ IsWithin base (base + size) flags region) regions all run.whole);
    }
      where
        each : (region : Grant) → IsWhole region → IsApart base (base + size) region ⊎ IsWithin base (base + size) flags region →
            begins_in low (base + size) region ≡ false → IsApart base low (up_to low region) ⊎ IsWithin base low flags (up_to low region)
        each region some (inl (inl before)) stays = inl (inl (grind (arith, nat_tests)))
        each region some (inl (inr behind)) stays = inl (inr (grind (arith, nat_tests)))
        each region some (inr within) stays = let more = some.some in inr (grind (arith, nat_tests), grind (arith, nat_tests), grind (arith, nat_tests))

    -- and others beside it are as they were
    pub run_beside : {other many others : ℕ} → IsFlaggedRun regions other many others →
        (base + size ≤ other) ⊎ (other + many ≤ base) → IsFlaggedRun (without_run low (base + size) regions) other many others
    run_beside {other} {many} {others} beside apart = record {
      covered = λ k above below. (let is = granted_without base low (base + size) regions k in_run (omega arith) (omega arith) in
          let was = beside.covered k above below in elim apart [ inl behind ↦ grind (arith, nat_tests) | inr before ↦ grind (arith, nat_tests) ]);
      whole = all_without low (base + size) (λ region. IsApart other (other + many) region ⊎ IsWithin other (other + many) others region)
          (λ region. IsApart other (other + many) region ⊎ IsWithin other (other + many) others region) each regions beside.whole;
    }
      where
        each : (region : Grant) → IsApart other (other + many) region ⊎ IsWithin other (other + many) others region → begins_in low
            (base + size) region ≡ false → IsApart other (other + many) (up_to low region) ⊎ IsWithin other (other + many) others (up_to low region)
        each region (inl (inl before)) stays = inl (inl (grind (arith, nat_tests)))
        each region (inl (inr behind)) stays = inl (inr (grind (arith, nat_tests)))
        each region (inr within) stays = inr (grind (arith, nat_tests), grind (arith, nat_tests), grind (arith, nat_tests))

    pub segments_beside : (words : ℕ → ℕ) (segment : Segment) (segments : List Segment) → segment.base ≡ base → segment.size ≡ size →
        AreSegments regions words segments → AllByRecursion (IsApartFrom segment) segments → AreSegments (without_run low (base + size) regions) words segments
    segments_beside words segment [] from bytes parts apart = tt
    segments_beside words segment (other ∷ others) from bytes parts apart = (
      record {
        run = run_beside parts.0.run (elim apart.0 [ inl before ↦ inl (omega arith) | inr behind ↦ inr (omega arith) ]);
        low = parts.0.low;
        high = parts.0.high;
        long = parts.0.long;
        extents = parts.0.extents;
        tail = parts.0.tail;
      },
      segments_beside words segment others from bytes parts.1 apart.1,
    )

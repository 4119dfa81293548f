-- Regions with a further grant.
use Rattle.dlmalloc.proofs.Names.{◌≡◌, ℕ, ◌+◌, ◌%◌, ◌<◌, ◌≤◌, ◌⊎◌, inl, inr, Bool, true, false, if◌then◌else◌, List, [], ◌∷◌, IsTrue, refl, sym, ap, subst, arith, dec_lt, length, nat_lt, AllByRecursion, nat_tests, Grant, IsWordOf, IsApart, IsWhole, is_granted, with_grant, IsWithin, IsFlaggedRun}
use Rattle.heap_memory.specs.RegionLaws.{granted_kept, granted_new, granted_split, all_with}

-- a word that was granted still is
pub word_kept : (grant : Grant) {old new : List Grant} → new ≡ with_grant grant old → {k : ℕ} → IsWordOf old k → IsWordOf new k
word_kept grant {old} with_it {k} inside = record {
  granted = subst (λ rs. IsTrue (is_granted rs k)) (sym with_it) (granted_kept grant old k inside.granted);
  aligned = inside.aligned;
}

-- a word of the grant is granted
pub word_new : (grant : Grant) (old : List Grant) {new : List Grant} → new ≡ with_grant grant old → (k : ℕ) →
    grant.base ≤ k → k < grant.base + grant.size → k % 8 ≡ 0 → IsWordOf new k
word_new grant old with_it k low high multiple = record {
  granted = subst (λ rs. IsTrue (is_granted rs k)) (sym with_it) (granted_new grant old k low high);
  aligned = multiple;
}

-- and each that was not granted before is a word of the grant
pub word_fresh : (grant : Grant) (old : List Grant) {new : List Grant} → new ≡ with_grant grant old → (k : ℕ) → IsWordOf new k →
    (IsWordOf old k → ⊥) → (grant.base ≤ k) × (k < grant.base + grant.size)
word_fresh grant old with_it k inside fresh =
    elim (granted_split grant old k (subst (λ rs. IsTrue (is_granted rs k)) with_it inside.granted)) [
      | inl within ↦ within
      | inr was ↦ absurd (fresh (record { granted = was; aligned = inside.aligned }))
    ]

-- if nothing is granted, no word is
pub none_fresh : {old new : List Grant} → new ≡ old → (k : ℕ) → IsWordOf new k → (IsWordOf old k → ⊥) → ⊥
none_fresh same k inside fresh = fresh (subst (λ rs. IsWordOf rs k) same inside)

-- regions with a further one are others
pub with_other : (grant : Grant) {regions : List Grant} → with_grant grant regions ≡ regions → ⊥
with_other grant {regions} same = (let more = longer regions in let as_many = ap length same in omega arith)
  where
    longer : (regions : List Grant) → length (with_grant grant regions) ≡ length regions + 1
    longer [] = refl
    longer (region ∷ regions) = go (nat_lt grant.base region.base) (longer regions)
      where
        go : (b : Bool) → length (with_grant grant regions) ≡ length regions + 1 →
            length (if b then grant ∷ region ∷ regions else region ∷ with_grant grant regions) ≡ length (region ∷ regions) + 1
        go true rest = omega arith
        go false rest = omega arith

-- and they say which one it is
pub one_more : (grant other : Grant) (regions : List Grant) → with_grant grant regions ≡ with_grant other regions → grant ≡ other
one_more grant other [] same = cc
one_more grant other (region ∷ regions) same = go (nat_lt grant.base region.base) refl (nat_lt other.base region.base) refl
    same (λ rest. one_more grant other regions rest)
  where
    go : (a : Bool) → nat_lt grant.base region.base ≡ a → (b : Bool) → nat_lt other.base region.base ≡ b → (if a then grant ∷ region ∷ regions
        else region ∷ with_grant grant regions) ≡ (if b then other ∷ region ∷ regions else region ∷ with_grant other regions) →
        (with_grant grant regions ≡ with_grant other regions → grant ≡ other) → grant ≡ other
    go true first true second same rest = cc
    go true first false second same rest = absurd (let is : grant ≡ region = cc in let place : grant.base ≡ region.base =
        ap (λ g. g.base) is in grind (arith, nat_tests))
    go false first true second same rest = absurd (let is : region ≡ other = cc in let place : region.base ≡ other.base =
        ap (λ g. g.base) is in grind (arith, nat_tests))
    go false first false second same rest = rest (cc)

-- ---- runs of regions

-- no byte of regions apart from a range is one of it
pub none_granted : (low high : ℕ) (regions : List Grant) → AllByRecursion (IsApart low high) regions → (k : ℕ) → low ≤ k →
    k < high → IsTrue (is_granted regions k) → ⊥
none_granted low high [] apart k above below granted = cc
none_granted low high (region ∷ regions) apart k above below granted =
    none_granted low high regions apart.1 k above below (elim apart.0 [ inl before ↦ grind (arith, nat_tests) | inr behind ↦ grind (arith, nat_tests) ])

-- so a run of regions is apart from a grant that is apart from all of them
pub run_apart : {regions : List Grant} {base size flags : ℕ} → IsFlaggedRun regions base size flags → 0 < size → (grant : Grant) → 0 < grant.size →
    AllByRecursion (IsApart grant.base (grant.base + grant.size)) regions → (grant.base + grant.size ≤ base) ⊎ (base + size ≤ grant.base)
run_apart {regions} {base} {size} run some grant more apart =
    elim (dec_lt base (grant.base + grant.size)) [
      | yes before ↦ elim (dec_lt grant.base (base + size)) [
        | yes meets ↦ absurd (elim (dec_lt base grant.base) [
          | yes later ↦ none_granted grant.base (grant.base + grant.size) regions apart grant.base (omega arith)
              (omega arith) (run.covered grant.base (omega arith) meets)
          | no sooner ↦ none_granted grant.base (grant.base + grant.size) regions apart base (omega arith) before (run.covered base (omega arith) (omega arith))
        ])
        | no behind ↦ inr (omega arith)
      ]
      | no behind ↦ inl (omega arith)
    ]

-- two runs of the same flags, one at the end of the other, are one
pub runs_joined : {regions : List Grant} {base one next two flags : ℕ} → next ≡ base + one → IsFlaggedRun regions base one flags →
    IsFlaggedRun regions next two flags → AllByRecursion IsWhole regions → IsFlaggedRun regions base (one + two) flags
runs_joined {regions} {base} {one} {next} {two} {flags} place first second whole = record {
  covered = λ k low high. elim (dec_lt k next) [
    | yes below ↦ first.covered k low (omega arith)
    | no above ↦ second.covered k (omega arith) (omega arith)
  ];
  whole = go regions first.whole second.whole whole;
}
  where
    go : (regions : List Grant) → AllByRecursion (λ region. IsApart base (base + one) region ⊎ IsWithin base (base + one) flags region) regions →
        AllByRecursion (λ region. IsApart next (next + two) region ⊎ IsWithin next (next + two) flags region) regions → AllByRecursion IsWhole regions →
        AllByRecursion (λ region. IsApart base (base + (one + two)) region ⊎ IsWithin base (base + (one + two)) flags region) regions
    go [] a b whole = tt
    go (region ∷ regions) a b whole = (each a.0 b.0, go regions a.1 b.1 whole.1)
      where
        each : IsApart base (base + one) region ⊎ IsWithin base (base + one) flags region → IsApart next (next + two) region ⊎ IsWithin next
            (next + two) flags region → IsApart base (base + (one + two)) region ⊎ IsWithin base (base + (one + two)) flags region
        each (inr within) b = inr (within.0, omega arith, within.2)
        each (inl a) (inr within) = inr (omega arith, omega arith, within.2)
        each (inl (inl before)) (inl b) = inl (inl before)
        each (inl (inr behind)) (inl (inl before)) = let some = whole.0.some in absurd (omega arith)
        each (inl (inr behind)) (inl (inr after)) = inl (inr (omega arith))

-- a grant is one
pub run_alone : (regions : List Grant) (grant : Grant) → AllByRecursion (IsApart grant.base (grant.base + grant.size)) regions →
    IsFlaggedRun (with_grant grant regions) grant.base grant.size grant.flags
run_alone regions grant apart = record {
  covered = λ k low high. granted_new grant regions k low high;
  whole = all_with (λ region. IsApart grant.base (grant.base + grant.size) region ⊎ IsWithin grant.base (grant.base + grant.size) grant.flags region) grant
      regions (inr (omega arith, omega arith, refl)) (go regions apart);
}
  where
    go : (regions : List Grant) → AllByRecursion (IsApart grant.base (grant.base + grant.size)) regions → AllByRecursion
        (λ region. IsApart grant.base (grant.base + grant.size) region ⊎ IsWithin grant.base (grant.base + grant.size) grant.flags region) regions
    go [] apart = tt
    go (region ∷ regions) apart = (inl apart.0, go regions apart.1)

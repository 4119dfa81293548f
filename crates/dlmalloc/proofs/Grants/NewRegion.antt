-- A region was granted, and is part of no segment yet.
use Rattle.dlmalloc.proofs.Names.{◌≡◌, ℕ, ◌+◌, ◌<◌, ◌≤◌, inl, inr, Bool, true, false, ◌&&◌, if◌then◌else◌, List, [], ◌∷◌, refl, sym, ◌∙◌, ap, subst, arith, nat_lt, AllByRecursion, nat_tests, Grant, IsWordOf, IsApart, IsGoodGrant, with_grant, Segment, opened, IsFreshGrant, IsFlaggedRun, AreSegments, IsApartFrom, IndexStays, IsBinned, segments_of, state_of, IsSound, regions_in, KeepsRegions, Dlmalloc}
use Rattle.dlmalloc.proofs.Segments.RegionsMore.{run_apart, run_alone}
use Rattle.dlmalloc.proofs.Blocks.WordsOutside.{still_sound, still_state, still_binned}

-- a grant that is apart from a segment is none of its regions
not_in : (segment : Segment) (grant : Grant) (regions : List Grant) → 0 < grant.size → IsApartFrom segment (opened grant) →
    regions_in segment (grant ∷ regions) ≡ regions_in segment regions
not_in segment grant regions some apart = (let test = out in rw test refl)
  where
    out : (nat_lt grant.base (segment.base + segment.size) && nat_lt segment.base (grant.base + grant.size)) ≡ false
    out = elim apart [ inl before ↦ grind (arith, nat_tests) | inr behind ↦ grind (arith, nat_tests) ]

-- the regions of a segment stay with a grant that is apart from it
same_in : (segment : Segment) (grant : Grant) (regions : List Grant) → 0 < grant.size → IsApartFrom segment (opened grant) →
    regions_in segment (with_grant grant regions) ≡ regions_in segment regions
same_in segment grant [] some apart = not_in segment grant [] some apart
same_in segment grant (region ∷ regions) some apart = split (nat_lt grant.base region.base) (same_in segment grant regions some apart)
  where
    split : (b : Bool) → regions_in segment (with_grant grant regions) ≡ regions_in segment regions →
        regions_in segment (if b then grant ∷ region ∷ regions else region ∷ with_grant grant regions) ≡ regions_in segment (region ∷ regions)
    split true rest = not_in segment grant (region ∷ regions) some apart
    split false rest = ap (λ others. if nat_lt region.base (segment.base + segment.size) && nat_lt segment.base
        (region.base + region.size) then region ∷ others else others) rest

module _ {A : Type 0} {regions : A → List Grant} {word : A → ℕ → ℕ} {heap : Dlmalloc A} (sound : IsSound regions word heap) (system : A) {asked : ℕ}
    (enough : 128 ≤ asked) {grant : Grant} (good : IsGoodGrant asked grant)
    (apart : AllByRecursion (IsApart grant.base (grant.base + grant.size)) (regions heap.system))
    (with_it : regions system ≡ with_grant grant (regions heap.system))
    (words : (k : ℕ) → IsWordOf (regions heap.system) k → word system k ≡ word heap.system k) where
  long : 128 ≤ grant.size
  long = omega arith

  segments_apart : AllByRecursion (λ segment. IsApartFrom segment (opened grant)) (segments_of word heap)
  segments_apart = go (segments_of word heap) sound.segments
    where
      go : (segments : List Segment) → AreSegments (regions heap.system) (word heap.system) segments →
          AllByRecursion (λ segment. IsApartFrom segment (opened grant)) segments
      go [] parts = tt
      go (segment ∷ segments) parts = (
        elim (run_apart parts.0.run (let some = parts.0.long in omega arith) grant (omega (arith, long)) apart)
            [ inl before ↦ inr before | inr behind ↦ inl behind ],
        go segments parts.1,
      )

  pub keeps : KeepsRegions (segments_of word heap) (regions heap.system) (regions system)
  keeps = go (segments_of word heap) segments_apart
    where
      go : (segments : List Segment) → AllByRecursion (λ segment. IsApartFrom segment (opened grant)) segments →
          KeepsRegions segments (regions heap.system) (regions system)
      go [] all = tt
      go (segment ∷ segments) all = (
        ap (regions_in segment) with_it ∙ same_in segment grant (regions heap.system)
            (omega (arith, long)) all.0,
        go segments all.1,
      )

  -- the heap is as it was
  pub granted_sound : IsSound regions word (record heap { system = system })
  granted_sound = still_sound sound system keeps (λ k inside there outside. words k inside)

  pub granted_same : state_of word (record heap { system = system }) ≡ state_of word heap
  granted_same = still_state sound system keeps (λ k inside there outside. words k inside)

  abbrev pub granted_binned : IndexStays → IsBinned regions word heap → IsBinned regions word (record heap { system = system })
  granted_binned = still_binned sound system keeps (λ k inside there outside. words k inside)

  -- and the grant can become part of it
  pub fresh_grant : IsFreshGrant (regions system) (segments_of word (record heap { system = system })) grant
  fresh_grant = record {
    run = subst (λ rs. IsFlaggedRun rs grant.base grant.size grant.flags) (sym with_it) (run_alone (regions heap.system) grant apart);
    apart = subst (AllByRecursion (λ segment. IsApartFrom segment (opened grant))) (λ i. ((sym granted_same) i).segments) segments_apart;
    long = long;
    base_aligned = good.base_aligned;
    size_aligned = good.size_aligned;
    low = good.low;
    high = good.high;
  }

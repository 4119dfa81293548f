-- The state in which a cut leaves a heap.
use Rattle.dlmalloc.proofs.Names.{◌≡◌, ℕ, ◌+◌, ◌<◌, ◌≤◌, ◌⊎◌, inl, inr, true, false, ◌==◌, if◌then◌else◌, List, [], ◌∷◌, ◌++◌, refl, ◌∙◌, ap, subst, arith, AllByRecursion, flat_map-append, Grant, Extent, Kind, Used, Segment, replaced, in_segments, Tiles, IsRunOf, IsSegment, AreSegments, IsApartFrom, AreApart}
use Rattle.dlmalloc.proofs.Extents.Lookup.{nat_isnt, nat_same}
use Rattle.dlmalloc.proofs.Extents.Tiling.{sized, tiles_le}
use Rattle.dlmalloc.proofs.Segments.Among.{with_extents, all_at}

-- a change of one segment's extents, which leaves the extents of segments apart from it
pub in_one : (regions : List Grant) (words : ℕ → ℕ) (change : List Extent →
    List Extent) (front : List Segment) (segment : Segment) (back : List Segment) {extents : List Extent} →
    AreSegments regions words (front ++ segment ∷ back) → AreApart (front ++ segment ∷ back) → ((other : Segment) → IsSegment regions words other →
    (IsApartFrom other segment) ⊎ (IsApartFrom segment other) → change other.extents ≡ other.extents) → change segment.extents ≡ extents →
    in_segments change (front ++ segment ∷ back) ≡ front ++ with_extents segment extents ∷ back
in_one regions words change [] segment back parts apart others here = λ i. with_extents segment (here i) ∷ behind back parts.1 apart.0 i
  where
    behind : (back : List Segment) → AreSegments regions words back → AllByRecursion (IsApartFrom segment) back → in_segments change back ≡ back
    behind [] parts apart = refl
    behind (other ∷ back) parts apart = λ i. with_extents other (others other parts.0 (inr apart.0) i) ∷ behind back parts.1 apart.1 i
in_one regions words change (first ∷ front) segment back parts apart others here =
    λ i. with_extents first (others first parts.0 (inl (all_at (IsApartFrom first) front segment back apart.0)) i) ∷ in_one regions words change front
    segment back parts.1 apart.1 others here i

replaced_none : (words : ℕ → ℕ) (before : Kind) (from : ℕ) (extents : List Extent) (to at : ℕ) (others : Extent → List Extent) →
    (at < from) ⊎ (to ≤ at) → Tiles words before from extents to → replaced at others extents ≡ extents
replaced_none words before from [] to at others out h = refl
replaced_none words before from (extent ∷ extents) to at others out h =
    let long = (sized extent.kind extent.size h.1.size).1 in
    let later = tiles_le words extent.kind (from + extent.size) extents to h.2 in
    let place = h.0 in
    let rest = replaced_none words extent.kind (from + extent.size) extents to at others (grind arith) h.2 in
    let test : (extent.at == at) ≡ false = nat_isnt (grind arith) in
    rw test (ap (λ es. extent ∷ es) rest)

-- a byte of a segment is in none that is apart from it
pub in_no_other : (other segment : Segment) (at : ℕ) → segment.base ≤ at → at < segment.base + segment.size →
    (IsApartFrom other segment) ⊎ (IsApartFrom segment other) → (at < other.base) ⊎ (other.base + other.size ≤ at)
in_no_other other segment at low high (inl (inl a)) = inr (omega arith)
in_no_other other segment at low high (inl (inr b)) = inl (omega arith)
in_no_other other segment at low high (inr (inl a)) = inl (omega arith)
in_no_other other segment at low high (inr (inr b)) = inr (omega arith)

pub replaced_run : (regions : List Grant) {words : ℕ → ℕ} {segments : List Segment} → AreSegments regions words segments → AreApart segments →
    {extent : Extent} (others : Extent → List Extent) → (run : IsRunOf words segments extent.at (extent.at + extent.size) (extent ∷ [])) →
    in_segments (replaced extent.at others) segments ≡ run.front ++ with_extents run.segment (run.first ++ (others extent ++ run.last)) ∷ run.back
replaced_run regions {words} parts apart {extent} others run =
    ap (in_segments (replaced extent.at others)) run.is ∙ in_one regions words (replaced extent.at others) run.front run.segment run.back
    (subst (AreSegments regions words) run.is parts) (subst AreApart run.is apart) (λ other part beyond. replaced_none words Used other.base other.extents
    (other.base + other.size) extent.at others (in_no_other other run.segment extent.at low (omega (arith, high, run.some)) beyond) part.extents)
    (ap (replaced extent.at others) run.extents
    ∙ (flat_map-append each run.first (extent ∷ run.last) ∙ (λ i. before i ++ ((if here i then others extent else extent ∷ []) ++ behind i))))
  where
    each : Extent → List Extent
    each one = if one.at == extent.at then others one else one ∷ []

    here : (extent.at == extent.at) ≡ true
    here = nat_same extent.at

    low : run.segment.base ≤ extent.at
    low = tiles_le words Used run.segment.base run.first extent.at run.first_stand

    high : extent.at + extent.size ≤ run.segment.base + run.segment.size
    high = tiles_le words extent.kind (extent.at + extent.size) run.last (run.segment.base + run.segment.size) run.last_stand

    before : replaced extent.at others run.first ≡ run.first
    before = replaced_none words Used run.segment.base run.first extent.at extent.at others (inr (omega arith)) run.first_stand

    behind : replaced extent.at others run.last ≡ run.last
    behind = replaced_none words extent.kind (extent.at + extent.size) run.last (run.segment.base + run.segment.size)
        extent.at others (inl run.some) run.last_stand

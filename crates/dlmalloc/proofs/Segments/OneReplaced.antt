-- One segment of a heap gives way to another, and the regions may grow.
use Rattle.dlmalloc.proofs.Names.{◌≡◌, ℕ, ◌+◌, ◌-◌, ◌%◌, ◌<◌, inl, inr, List, [], ◌∷◌, ◌++◌, Some, refl, sym, ◌∙◌, arith, AllByRecursion, Grant, IsWordOf, Extent, Used, extent_at, HeapState, Segment, extents_in, IsBoundary, AllSpare, IsFlaggedRun, IsSegment, AreSegments, IsApartFrom, AreApart, record_of, AreRecords}
use Rattle.dlmalloc.proofs.Extents.Lookup.{found_here}
use Rattle.dlmalloc.proofs.Words.Spared.{spared, spared_before, spared_behind, inner_spared}
use Rattle.dlmalloc.proofs.Words.OfRecords.{payload_in, record_stays}
use Rattle.dlmalloc.proofs.Extents.OneMoreUsed.{AreDistinct}
use Rattle.dlmalloc.proofs.Segments.Among.{all_at, all_with, apart_back, distinct_later}
use Rattle.dlmalloc.proofs.Segments.WordsKept.{KeepsIts, segment_kept}

-- All granted words stay but those at boundaries of the new segment; what was apart from the old one is apart from the new one,
-- and still a run; and if a record described the old one, it describes the new one.
pub record IsChanged (regions regions' : List Grant) (old new : ℕ → ℕ) (segment segment' : Segment) : Type 0 where
  pub now : IsSegment regions' new segment'
  pub kept : (k : ℕ) → IsWordOf regions k → AllSpare segment'.extents k → new k ≡ old k
  pub others : (other : Segment) → IsSegment regions old other → IsApartFrom other segment →
      IsFlaggedRun regions' other.base other.size other.flags × IsApartFrom other segment'
  pub records : (at : ℕ) → extent_at at segment.extents ≡ Some (record_of at (segment.base + segment.size)) →
      (segment'.base ≡ segment.base) × (segment'.size ≡ segment.size) × (segment'.flags ≡ segment.flags)
      × (extent_at at segment'.extents ≡ Some (record_of at (segment.base + segment.size)))

-- extents that are found are spared by what is no boundary
pub all_spared : (heap : HeapState) (k : ℕ) (extents : List Extent) → AreDistinct extents → ((extent : Extent) → extent_at extent.at extents ≡ Some
    extent → extent_at extent.at (extents_in heap) ≡ Some extent) → (IsBoundary heap k → ⊥) → AllSpare extents k
all_spared heap k [] distinct there apart = tt
all_spared heap k (extent ∷ extents) distinct there apart = (
  spared extent.kind extent.at extent.size k (λ e. apart (record { extent = extent; there = there extent (found_here extent extents); is = inl e }))
      (λ free e. apart (record { extent = extent; there = there extent (found_here extent extents); is = inr (free, e) })),
  all_spared heap k extents distinct.1 (λ other found. there other (distinct_later (extent ∷ []) extents other.at distinct found)) apart,
)

module _ {regions regions' : List Grant} {old new : ℕ → ℕ} {segment segment' : Segment} (changed : IsChanged regions regions' old new segment segment') where
  -- a word of another segment stays
  beside : {other : Segment} → IsSegment regions old other → IsApartFrom other segment → KeepsIts old new other
  beside {other} part apart k low high whole =
      changed.kept k (record { granted = part.run.covered k (omega arith) high; aligned = whole }) (elim ((changed.others other part apart).1) [
        | inl before ↦ spared_before new Used segment'.base segment'.extents (segment'.base + segment'.size) k changed.now.extents (omega arith)
        | inr behind ↦ spared_behind new Used segment'.base segment'.extents (segment'.base + segment'.size) k changed.now.extents (omega arith)
      ])

  other_kept : {other : Segment} → IsApartFrom other segment → IsSegment regions old other → IsSegment regions' new other
  other_kept {other} apart part = segment_kept old new part (changed.others other part apart).0 (beside part apart)

  behind_kept : (back : List Segment) → AllByRecursion (IsApartFrom segment) back → AreSegments regions old back → AreSegments regions' new back
  behind_kept [] apart parts = tt
  behind_kept (other ∷ back) apart parts = (other_kept (apart_back segment other apart.0) parts.0, behind_kept back apart.1 parts.1)

  -- all are segments again, and apart
  pub segments_after : (front back : List Segment) → AreApart (front ++ segment ∷ back) → AreSegments regions old (front ++ segment ∷ back) →
      AreSegments regions' new (front ++ segment' ∷ back)
  segments_after [] back apart parts = (changed.now, behind_kept back apart.0 parts.1)
  segments_after (other ∷ front) back apart parts = (
    other_kept (all_at (IsApartFrom other) front segment back apart.0)
        parts.0,
    segments_after front back apart.1 parts.1,
  )

  behind_apart : (back : List Segment) → AllByRecursion (IsApartFrom segment) back → AreSegments regions old back → AllByRecursion (IsApartFrom segment') back
  behind_apart [] apart parts = tt
  behind_apart (other ∷ back) apart parts = (
    apart_back other segment'
        (changed.others other parts.0 (apart_back segment other apart.0)).1,
    behind_apart back apart.1 parts.1,
  )

  pub apart_after : (front back : List Segment) → AreApart (front ++ segment ∷ back) →
      AreSegments regions old (front ++ segment ∷ back) → AreApart (front ++ segment' ∷ back)
  apart_after [] back apart parts = (behind_apart back apart.0 parts.1, apart.1)
  apart_after (other ∷ front) back apart parts = (
    all_with (IsApartFrom other) front segment segment' back
        (λ one. (changed.others other parts.0 one).1) apart.0,
    apart_after front back apart.1 parts.1,
  )

  -- ---- the payload of a record stays

  record_told : {other : Segment} → IsSegment regions' new other →
      ((k : ℕ) → other.base < k → k < other.base + other.size → k % 8 ≡ 0 → AllSpare other.extents k → new k ≡ old k) →
      (others now : List Segment) (payload : ℕ) → AreRecords old payload (other ∷ others) → AreRecords new (old (payload + 16)) now →
      AreRecords new payload (other ∷ now)
  record_told {other} part same others now payload h rest =
      let p = payload_in part payload h.0 h.4 in
      record_stays old new payload other others now p.whole (λ k low high m. same k (omega arith) (omega arith) m
      (inner_spared new Used other.base other.extents (other.base + other.size) part.extents h.4 refl k (omega arith) (omega arith))) h rest

  pub records_behind : (back : List Segment) → AllByRecursion (IsApartFrom segment) back → AreSegments regions old back →
      (payload : ℕ) → AreRecords old payload back → AreRecords new payload back
  records_behind [] apart parts payload h = h
  records_behind (other ∷ back) apart parts payload h =
      let beyond = apart_back segment other apart.0 in
      record_told (other_kept beyond parts.0) (λ k low high m spared. beside parts.0 beyond k low high m) back back payload h
      (records_behind back apart.1 parts.1 (old (payload + 16)) h.5)

  -- and so the records describe them
  pub records_after : (front back : List Segment) → AreApart (front ++ segment ∷ back) → AreSegments regions old (front ++ segment ∷ back) →
      (payload : ℕ) → AreRecords old payload (front ++ segment ∷ back) → AreRecords new payload (front ++ segment' ∷ back)
  records_after [] back apart parts payload h =
      let is = changed.records (payload - 16) h.4 in
      record_told changed.now
      (λ k low high m spared. changed.kept k (record { granted = parts.0.run.covered k (omega arith) (omega arith); aligned = m }) spared)
      back back payload (
        h.0,
        h.1 ∙ sym is.0,
        h.2 ∙ sym is.1,
        h.3 ∙ sym is.2,
        is.3 ∙ (λ i. Some (record_of (payload - 16) (sym is.0 i + sym is.1 i))),
        h.5,
      ) (records_behind back apart.0 parts.1 (old (payload + 16)) h.5)
  records_after (other ∷ front) back apart parts payload h =
      let beyond = all_at (IsApartFrom other) front segment back apart.0 in
      record_told (other_kept beyond parts.0) (λ k low high m spared. beside parts.0 beyond k low high m) (front ++ segment ∷ back) (front ++ segment' ∷ back)
      payload h (records_after front back apart.1 parts.1 (old (payload + 16)) h.5)

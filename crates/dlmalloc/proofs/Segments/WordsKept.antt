-- Segments whose words stay are still segments, and records describe them as before.
use Rattle.dlmalloc.proofs.Names.{◌≡◌, ℕ, ◌+◌, ◌%◌, ◌<◌, ◌≤◌, ◌⊎◌, inl, inr, List, [], ◌∷◌, IsTrue, arith, dec_lt, AllByRecursion, Grant, IsWordOf, Used, last_kind, Segment, is_free_below_top, IsFlaggedRun, IsSegment, AreSegments, IsApartFrom, AreRecords}
use Rattle.dlmalloc.proofs.Extents.Tiling.{tiles_kept}
use Rattle.dlmalloc.proofs.Moves.OfLists.{no_plain}
use Rattle.dlmalloc.proofs.Words.OfRecords.{payload_in, record_stays}

-- the words of a segment stay
abbrev pub KeepsIts : (ℕ → ℕ) → (ℕ → ℕ) → Segment → Type 0
KeepsIts old new segment = (k : ℕ) → segment.base < k → k < segment.base + segment.size → k % 8 ≡ 0 → new k ≡ old k

-- an address is none of a segment's
abbrev pub IsOutside : Segment → ℕ → Type 0
IsOutside segment k = (k < segment.base) ⊎ (segment.base + segment.size ≤ k)

-- it is one in other regions, if it is a run of them
pub segment_kept : {regions regions' : List Grant} (old new : ℕ → ℕ) {segment : Segment} → IsSegment regions old segment →
    IsFlaggedRun regions' segment.base segment.size segment.flags → KeepsIts old new segment → IsSegment regions' new segment
segment_kept old new {segment} part run same = record {
  run = run;
  low = part.low;
  high = part.high;
  long = part.long;
  extents = tiles_kept old new Used segment.base segment.extents (segment.base + segment.size) part.extents
      (λ k low high m free. same k low (within k high free) m);
  tail = part.tail;
}
  where
    within : (k : ℕ) → k ≤ segment.base + segment.size → (k ≡ segment.base + segment.size → IsTrue (is_free_below_top (last_kind Used segment.extents))) →
        k < segment.base + segment.size
    within k high free = elim (dec_lt k (segment.base + segment.size))
        [ yes below ↦ below | no beyond ↦ absurd (no_plain (last_kind Used segment.extents) part.tail (free (omega arith))) ]

module _ (regions : List Grant) (old new : ℕ → ℕ) where
  pub one_stays : {segment : Segment} → IsSegment regions old segment → KeepsIts old new segment → IsSegment regions new segment
  one_stays part same = segment_kept old new part part.run same

  -- they are segments still
  pub parts_stay : (segments : List Segment) → AreSegments regions old segments → AllByRecursion (KeepsIts old new) segments → AreSegments regions new segments
  parts_stay [] parts same = tt
  parts_stay (segment ∷ segments) parts same = (one_stays parts.0 same.0, parts_stay segments parts.1 same.1)

  -- and records describe them as before
  pub records_stay : (segments : List Segment) → AreSegments regions old segments → AllByRecursion (KeepsIts old new) segments →
      (payload : ℕ) → AreRecords old payload segments → AreRecords new payload segments
  records_stay [] parts same payload h = h
  records_stay (segment ∷ segments) parts same payload h =
      let p = payload_in parts.0 payload h.0 h.4 in
      record_stays old new payload segment segments segments p.whole (λ k low high m. same.0 k (omega arith) (omega arith) m) h
      (records_stay segments parts.1 same.1 (old (payload + 16)) h.5)

  -- the words of segments that are apart from two others stay if what changes is in those
  pub apart_stay : (one two : Segment) (segments : List Segment) → AreSegments regions old segments → AllByRecursion (IsApartFrom one) segments →
      AllByRecursion (λ segment. IsApartFrom segment two) segments →
      ((k : ℕ) → IsWordOf regions k → IsOutside one k → IsOutside two k → new k ≡ old k) → AllByRecursion (KeepsIts old new) segments
  apart_stay one two [] parts first second same = tt
  apart_stay one two (segment ∷ segments) parts first second same = (
    λ k low high m. same k (record { granted = parts.0.run.covered k (omega arith) high; aligned = m })
        (elim (first.0) [ inl before ↦ inr (omega arith) | inr behind ↦ inl (omega arith) ])
        (elim (second.0) [ inl before ↦ inl (omega arith) | inr behind ↦ inr (omega arith) ]),
    apart_stay one two segments parts.1 first.1 second.1 same,
  )

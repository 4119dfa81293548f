-- Passing over the segments of a heap.
use Rattle.dlmalloc.proofs.Names.{◌≡◌, ◌≢◌, ℕ, ◌+◌, ◌-◌, ◌%◌, ◌^◌, ◌<◌, ◌≤◌, List, [], ◌∷◌, ◌++◌, Some, refl, sym, ◌∙◌, ap, subst, arith, append_assoc, length-append, length, append-nil, Grant, IsWordOf, Top, Foot, extent_at, Segment, IsSegment, AreSegments, record_of, records_from, AreRecords, chunks_between, IsChunkRun, segments_of, IsSound, Dlmalloc}
use Rattle.dlmalloc.proofs.Extents.Lookup.{extent}
use Rattle.dlmalloc.proofs.Extents.FromWords.{records_read}
use Rattle.dlmalloc.proofs.Segments.Among.{all_back}
use Rattle.dlmalloc.proofs.Words.OfRecords.{IsPayloadIn, payload_in}
use Rattle.dlmalloc.proofs.Segments.HeadTop.{top_run, top_part, top_segment, head_first, behind_told}
use Rattle.dlmalloc.proofs.Moves.OfHeaps.{segments_few}
use Rattle.dlmalloc.proofs.Extents.Walk.{HasTail, top_tail, record_tail}

-- ---- the segments of a heap

-- the segments up to a record's, of which something is known
pub record PassedSegments {A : Type 0} (word : A → ℕ → ℕ) (heap : Dlmalloc A) (payload : ℕ) (known : List Segment → Type 0) : Type 0 where
  pub passed : List Segment
  pub rest : List Segment
  pub is : segments_of word heap ≡ passed ++ rest
  pub some : 0 < length passed
  pub told : AreRecords (word heap.system) payload rest
  pub so_far : known passed

-- the segment that a record describes, and those after it
pub record NextSegment (regions : List Grant) (words : ℕ → ℕ) (payload : ℕ) (rest : List Segment) : Type 0 where
  pub segment : Segment
  pub others : List Segment
  pub is : rest ≡ segment ∷ others
  pub some : 16 < payload
  pub base : words payload ≡ segment.base
  pub size : words (payload + 8) ≡ segment.size
  pub told : AreRecords words (words (payload + 16)) others
  pub part : IsSegment regions words segment
  pub there : extent_at (payload - 16) segment.extents ≡ Some (record_of (payload - 16) (segment.base + segment.size))

-- the words of a record's payload are granted, and its segment ends below 2 ^ 64 and after it
pub record SpanFits (regions : List Grant) (words : ℕ → ℕ) (payload : ℕ) : Type 0 where
  pub low : 16 < payload
  pub high : payload + 16 < 2 ^ 64
  pub base : IsWordOf regions payload
  pub size : IsWordOf regions (payload + 8)
  pub next : IsWordOf regions (payload + 16)
  pub ends : words payload + words (payload + 8) < 2 ^ 64
  pub within : payload ≤ words payload + words (payload + 8)

next_segment : (regions : List Grant) (words : ℕ → ℕ) (payload : ℕ) (rest : List Segment) → payload ≢ 0 → AreSegments regions words rest →
    AreRecords words payload rest → NextSegment regions words payload rest
next_segment regions words payload [] some parts h = absurd (some h)
next_segment regions words payload (segment ∷ others) some parts h =
    record { segment = segment; others = others; is = refl; some = h.0; base = h.1; size = h.2; told = h.5; part = parts.0; there = h.4 }

-- if no record is left, no segment is
pub none_told : (words : ℕ → ℕ) {payload : ℕ} (rest : List Segment) → AreRecords words payload rest → payload ≡ 0 → rest ≡ []
none_told words [] h none = refl
none_told words (segment ∷ rest) h none = absurd (let some = h.0 in omega arith)

-- the head is passed
pub head_passed : {A : Type 0} {regions : A → List Grant} {word : A → ℕ → ℕ} (heap : Dlmalloc A) → IsSound regions word heap → 0 < heap.size →
    (known : List Segment → Type 0) → ((segment : Segment) → segment.base ≡ heap.base → HasTail (regions heap.system)
    (word heap.system) segment heap.top (extent heap.top heap.top_size Top ∷ extent (heap.top + heap.top_size) 80 Foot ∷ []) → known (segment ∷ [])) →
    PassedSegments word heap heap.next known
head_passed heap sound some known holds = record {
  passed = (top_run sound some).segment ∷ [];
  rest = (top_run sound some).back;
  is = head_first sound some;
  some = omega arith;
  told = behind_told sound some;
  so_far = holds (top_run sound some).segment (sym (top_segment sound some).base) (top_tail (top_part sound some) (top_segment sound some).top);
}

module _ {A : Type 0} {regions : A → List Grant} {word : A → ℕ → ℕ} {heap : Dlmalloc A} (sound : IsSound regions word heap) where
  -- the run of chunks of the head segment
  pub head_run : 0 < heap.size → IsChunkRun (regions heap.system) (word heap.system) heap.base heap.top
  head_run some = subst (λ base. IsChunkRun (regions heap.system) (word heap.system) base heap.top) (sym (top_segment sound some).base)
      (top_tail (top_part sound some) (top_segment sound some).top).run

  module _ {payload : ℕ} {known : List Segment → Type 0} (p : PassedSegments word heap payload known) where
    parts_left : AreSegments (regions heap.system) (word heap.system) p.rest
    parts_left = all_back (IsSegment (regions heap.system) (word heap.system)) p.passed p.rest
        (subst (AreSegments (regions heap.system) (word heap.system)) p.is sound.segments)

    few_left : length p.rest ≤ 2 ^ 64
    few_left = let all = segments_few word heap in let sum = ap length p.is ∙ length-append p.passed p.rest in let some = p.some in omega arith

    left_read : records_from (word heap.system) (2 ^ 64) payload ≡ p.rest
    left_read = records_read (regions heap.system) (word heap.system) (2 ^ 64) payload p.rest few_left parts_left p.told

    -- all are passed if no record is left
    pub all_segments : payload ≡ 0 → known (segments_of word heap)
    all_segments none = subst known (sym (p.is ∙ (ap (λ ss. p.passed ++ ss) (none_told (word heap.system) p.rest p.told none) ∙ append-nil p.passed))) p.so_far

    module _ (some : payload ≢ 0) where
      pub ahead_segment : NextSegment (regions heap.system) (word heap.system) payload p.rest
      ahead_segment = next_segment (regions heap.system) (word heap.system) payload p.rest some parts_left p.told

      abbrev pub segment_end : ℕ
      segment_end = ahead_segment.segment.base + ahead_segment.segment.size

      pub tail_there : HasTail (regions heap.system) (word heap.system) ahead_segment.segment (payload - 16) (record_of (payload - 16) segment_end ∷ [])
      tail_there = record_tail ahead_segment.part (payload - 16) ahead_segment.there

      abbrev segment : Segment
      segment = ahead_segment.segment

      abbrev words : ℕ → ℕ
      words = word heap.system

      place : IsPayloadIn segment payload
      place = payload_in ahead_segment.part payload ahead_segment.some ahead_segment.there

      -- the words of the payload
      pub payload_word : (k : ℕ) → payload ≤ k → k ≤ payload + 16 → k % 8 ≡ payload % 8 → IsWordOf (regions heap.system) k
      payload_word k low high m = record {
        granted = ahead_segment.part.run.covered k (omega (arith, place.low)) (omega (arith, place.high));
        aligned = omega (arith, place.whole);
      }

      pub payload_high : payload + 16 < 2 ^ 64
      payload_high = omega (arith, place.high, ahead_segment.part.high)

      pub payload_ends : words payload + words (payload + 8) < 2 ^ 64
      payload_ends = omega (arith, ahead_segment.base, ahead_segment.size, ahead_segment.part.high)

      pub payload_within : payload ≤ words payload + words (payload + 8)
      payload_within = omega (arith, ahead_segment.base, ahead_segment.size, place.high)

      -- what a look at it wants
      pub span_fits : SpanFits (regions heap.system) words payload
      span_fits = record {
        low = ahead_segment.some;
        high = payload_high;
        base = payload_word payload (omega arith) (omega arith) refl;
        size = payload_word (payload + 8) (omega arith) (omega arith) (omega (arith, place.whole));
        next = payload_word (payload + 16) (omega arith) (omega arith) (omega (arith, place.whole));
        ends = payload_ends;
        within = payload_within;
      }

      -- its run of chunks
      pub payload_run : IsChunkRun (regions heap.system) words (words payload) (payload - 16)
      payload_run = subst (λ base. IsChunkRun (regions heap.system) words base (payload - 16)) (sym ahead_segment.base) tail_there.run

      -- it is passed
      pub onward_segment : (known' : List Segment → Type 0) → known' (p.passed ++ segment ∷ []) → PassedSegments word heap (words (payload + 16)) known'
      onward_segment known' holds = record {
        passed = p.passed ++ segment ∷ [];
        rest = ahead_segment.others;
        is = p.is ∙ (ap (λ ss. p.passed ++ ss) ahead_segment.is ∙ sym (append_assoc p.passed (segment ∷ []) ahead_segment.others));
        some = (let sum = length-append p.passed (segment ∷ []) in omega arith);
        told = ahead_segment.told;
        so_far = holds;
      }

      -- its extents
      pub extents_told : segment.extents ≡ chunks_between words (words payload) (payload - 16) ++ record_of (payload - 16)
          (words payload + words (payload + 8)) ∷ []
      extents_told = tail_there.is ∙ (λ i. chunks_between words ((sym ahead_segment.base) i) (payload - 16) ++ record_of (payload - 16)
          ((sym ahead_segment.base) i + (sym ahead_segment.size) i) ∷ [])

      -- and fewer are left
      pub fewer_left : length (records_from words (2 ^ 64) (words (payload + 16))) < length (records_from words (2 ^ 64) payload)
      fewer_left =
          let rest = left_read ∙ ahead_segment.is in
          let parts = subst (AreSegments (regions heap.system) words) ahead_segment.is parts_left in
          let few = few_left in let as_many = ap length ahead_segment.is in
          let behind = records_read (regions heap.system) words (2 ^ 64) (words (payload + 16)) ahead_segment.others (omega arith) parts.1 ahead_segment.told in
          let one = ap length rest in let two = ap length behind in
          omega arith

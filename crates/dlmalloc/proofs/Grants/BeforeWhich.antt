-- A grant is put before the head segment, or before one that a record describes.
use Rattle.dlmalloc.proofs.Names.{◌≡◌, ◌≢◌, ℕ, ◌+◌, ◌-◌, ◌%◌, ◌^◌, ◌<◌, ◌≤◌, inl, inr, false, ◌==◌, List, [], ◌∷◌, ◌++◌, Some, refl, sym, ◌∙◌, ap, subst, arith, ⊤, Grant, Event, IsWordOf, Extent, HasHead, extent_at, Segment, put_before, IsFreshGrant, HasRoomFor, IsPrepended, CanHoldTwo, IsInRecord, IsHeadBehind, IsToldBehind, IsSegment, AreSegments, record_of, AreRecords, state_of, AreTold, IsSound, Dlmalloc}
use Rattle.dlmalloc.proofs.Extents.Lookup.{nat_isnt}
use Rattle.dlmalloc.proofs.Segments.Among.{all_at}
use Rattle.dlmalloc.proofs.Segments.HeadTop.{top_low}
use Rattle.dlmalloc.proofs.Words.OfRecords.{IsPayloadIn, payload_in, recorded_tiles}
use Rattle.dlmalloc.proofs.Segments.WordsKept.{IsOutside, one_stays, records_stay}
use Rattle.dlmalloc.proofs.Grants.PutBefore.{IsInTwo, IsJoining, before_means, front_parts, back_parts, front_keeps, back_keeps, among_new, is_prepended}
use Rattle.dlmalloc.proofs.Grants.SegmentBehind.{told_around}

-- the heads of the two parts of a grant are granted
part_head : {regions : List Grant} {segments : List Segment} {grant : Grant} → IsFreshGrant regions segments grant →
    (k : ℕ) → grant.base ≤ k → k + 16 ≤ grant.base + grant.size → k % 16 ≡ 0 → HasHead regions k
part_head fresh k low high m = record {
  aligned = omega arith;
  small = omega arith;
  granted = record { granted = fresh.run.covered (k + 8) (omega arith) (omega arith); aligned = omega arith };
}

pub two_heads : {regions : List Grant} {segments : List Segment} {grant : Grant} {n : ℕ} → HasRoomFor n regions segments grant →
    CanHoldTwo regions grant.base n (grant.size - n)
two_heads {grant} {n} has =
    let f = has.fresh in let whole = has.bytes.whole in let room = has.room in let least = has.bytes.least in let high = f.high in
    record {
      head = part_head f grant.base (omega arith) (omega arith) f.base_aligned;
      behind = part_head f (grant.base + n) (omega arith) (omega arith) (omega arith);
      first = whole;
      second = omega (arith, f.size_aligned, whole);
      least = least;
      ends = omega arith;
    }

-- what is found after the two parts of a grant
behind_two : (grant : Grant) (n : ℕ) (segment : Segment) (k : ℕ) {one : Extent} → segment.base ≡ grant.base + grant.size → n < grant.size →
    segment.base ≤ k → extent_at k segment.extents ≡ Some one → extent_at k (put_before grant n segment).extents ≡ Some one
behind_two grant n segment k place room low there =
    let first : (grant.base == k) ≡ false = nat_isnt (inl (omega arith)) in
    let second : (grant.base + n == k) ≡ false = nat_isnt (inl (omega arith)) in
    rw (first, second) there

module _ {A : Type 0} {regions : A → List Grant} {word : A → ℕ → ℕ} {follows : A → List Event → A → Type 0} {heap : Dlmalloc A}
    (sound : IsSound regions word heap) {grant : Grant} {n : ℕ} {system : A} (halves : IsInTwo regions word follows heap grant n system) where
  -- ---- before one that a record describes

  module _ {payload : ℕ} (b : IsToldBehind word heap grant payload) (base : word system payload ≡ grant.base)
      (size : word system (payload + 8) ≡ grant.size + word heap.system (payload + 8))
      (kept : (k : ℕ) → IsWordOf (regions heap.system) k → k ≢ grant.base + 8 → k ≢ grant.base + n + 8 → k ≢ payload →
      k ≢ payload + 8 → word system k ≡ word heap.system k) where
    abbrev pub told_new : Dlmalloc A
    told_new = record heap { system = system }

    abbrev IsUntold : ℕ → Type 0
    IsUntold k = (k ≢ payload) × (k ≢ payload + 8)

    abbrev front : List Segment
    front = b.head ∷ b.front

    segment_place : b.segment.base ≡ grant.base + grant.size
    segment_place = (before_means grant b.segment b.joins).0

    heap_told : AreTold (word heap.system) heap (front ++ b.segment ∷ b.back)
    heap_told = subst (AreTold (word heap.system) heap) b.is sound.told

    segment_part : IsSegment (regions heap.system) (word heap.system) b.segment
    segment_part = all_at (IsSegment (regions heap.system) (word heap.system)) front b.segment b.back
        (subst (AreSegments (regions heap.system) (word heap.system)) b.is sound.segments)

    abbrev end : ℕ
    end = b.segment.base + b.segment.size

    payload_place : IsPayloadIn b.segment payload
    payload_place = payload_in segment_part payload b.told.0 b.told.4

    untold_outside : (k : ℕ) → IsOutside b.segment k → IsUntold k
    untold_outside k out = (
      (λ is. elim out [ inl below ↦ omega (arith, payload_place.low) | inr above ↦ omega (arith, payload_place.high) ]),
      (λ is. elim out [ inl below ↦ omega (arith, payload_place.low) | inr above ↦ omega (arith, payload_place.high) ]),
    )

    -- a word of the segment
    kept_in : (k : ℕ) → b.segment.base < k → k < end → k % 8 ≡ 0 → k ≢ payload → k ≢ payload + 8 → word system k ≡ word heap.system k
    kept_in k low high m not_base not_size = kept k (record { granted = segment_part.run.covered k (omega arith) high; aligned = m })
        (λ is. omega (arith, segment_place)) (λ is. omega (arith, segment_place)) not_base not_size

    abbrev joint_told : IsJoining regions word heap grant n system IsUntold
    joint_told = record {
      front = front;
      segment = b.segment;
      back = b.back;
      is = b.is;
      joins = b.joins;
      untold = untold_outside;
      kept = λ k inside not_first not_second u. kept k inside not_first not_second u.0 u.1;
      tiles = recorded_tiles segment_part payload b.told.0 b.told.4 (word system) (λ k low high m out. kept_in k low high m
          (λ is. elim out [ inl below ↦ omega arith | inr above ↦ omega arith ]) (λ is. elim out [ inl below ↦ omega arith | inr above ↦ omega arith ]));
    }

    abbrev now_told : Segment
    now_told = put_before grant n b.segment

    record_now : extent_at (payload - 16) now_told.extents ≡ Some (record_of (payload - 16) (now_told.base + now_told.size))
    record_now = behind_two grant n b.segment (payload - 16) segment_place (omega arith) (omega (arith, payload_place.low)) b.told.4
        ∙ (λ i. Some (record_of (payload - 16) (same_end i)))
      where
        same_end : end ≡ grant.base + (grant.size + b.segment.size)
        same_end = omega (arith, segment_place)

    -- the words after those that were stored stay
    still_told : (k : ℕ) → payload + 16 ≤ k → k < payload + 32 → k % 8 ≡ 0 → word system k ≡ word heap.system k
    still_told k low high m = kept_in k (omega (arith, payload_place.low)) (omega (arith, payload_place.high)) m (λ is. omega arith) (λ is. omega arith)

    here_told : AreRecords (word system) payload (now_told ∷ b.back)
    here_told = (
      b.told.0,
      base,
      size ∙ ap (λ m. grant.size + m) b.told.2,
      still_told (payload + 24) (omega arith) (omega arith) (omega (arith, payload_place.whole)) ∙ b.told.3,
      record_now,
      subst (λ p. AreRecords (word system) p b.back) (sym (still_told (payload + 16) (omega arith) (omega arith) (omega (arith, payload_place.whole))))
          (records_stay (regions heap.system) (word heap.system) (word system) b.back (back_parts sound halves joint_told)
          (back_keeps sound halves joint_told) (word heap.system (payload + 16)) b.told.5),
    )

    told_after : AreTold (word system) told_new (front ++ now_told ∷ b.back)
    told_after =
        let parts = front_parts sound halves joint_told in let keeps = front_keeps sound halves joint_told in (
          heap_told.0,
          heap_told.1,
          heap_told.2,
          heap_told.3,
          heap_told.4,
          told_around (regions heap.system) (word heap.system) (word system) (b.segment ∷ b.back) (now_told ∷ b.back)
              b.front heap.next b.reached parts.1 keeps.1 heap_told.5 here_told,
        )

    recorded : (k : ℕ) → (IsInRecord (state_of word told_new) k → ⊥) → IsUntold k
    recorded k tag = (
      (λ is. tag (in_it (omega (arith, b.told.0)) (omega (arith, payload_place.high)))),
      (λ is. tag (in_it (omega (arith, b.told.0)) (omega (arith, payload_place.high)))),
    )
      where
        in_it : payload - 16 < k → k < end → IsInRecord (state_of word told_new) k
        in_it low high = record {
          extent = record_of (payload - 16) (now_told.base + now_told.size);
          there = among_new sound halves joint_told heap.base heap.size heap_told.0 told_after (payload - 16) record_now;
          is = refl;
          low = low;
          high = omega (arith, segment_place, payload_place.low, payload_place.high);
        }

    pub before_told : IsPrepended regions word follows heap grant n told_new
    before_told = is_prepended sound halves joint_told heap.base heap.size heap_told.0 told_after recorded

  -- ---- before the head segment

  module _ (b : IsHeadBehind word heap grant) (kept : (k : ℕ) → IsWordOf (regions heap.system) k → k ≢ grant.base + 8 →
      k ≢ grant.base + n + 8 → word system k ≡ word heap.system k) where
    abbrev pub head_now : Dlmalloc A
    head_now = record heap { system = system; base = grant.base; size = heap.size + grant.size }

    parts_are : AreSegments (regions heap.system) (word heap.system) (b.segment ∷ b.back)
    parts_are = subst (AreSegments (regions heap.system) (word heap.system)) b.is sound.segments

    told_are : AreTold (word heap.system) heap (b.segment ∷ b.back)
    told_are = subst (AreTold (word heap.system) heap) b.is sound.told

    place : b.segment.base ≡ grant.base + grant.size
    place = (before_means grant b.segment b.joins).0

    abbrev joint : IsJoining regions word heap grant n system (λ k. ⊤)
    joint = record {
      front = [];
      segment = b.segment;
      back = b.back;
      is = b.is;
      joins = b.joins;
      untold = λ k out. tt;
      kept = λ k inside a c u. kept k inside a c;
      tiles = (one_stays (regions heap.system) (word heap.system) (word system) parts_are.0 (λ k low high m. kept k
          (record { granted = parts_are.0.run.covered k (omega arith) high; aligned = m }) (λ is. omega (arith, place)) (λ is. omega (arith, place)))).extents;
    }

    told_now : AreTold (word system) head_now (put_before grant n b.segment ∷ b.back)
    told_now = (
      omega (arith, told_are.0),
      refl,
      omega (arith, told_are.2),
      told_are.3,
      behind_two grant n b.segment heap.top place (omega arith) (omega (arith, top_low sound told_are.0, told_are.1)) told_are.4,
      records_stay (regions heap.system) (word heap.system) (word system) b.back parts_are.1 (back_keeps sound halves joint) heap.next told_are.5,
    )

    pub before_head : IsPrepended regions word follows heap grant n head_now
    before_head = is_prepended sound halves joint grant.base (heap.size + grant.size) (omega (arith, told_are.0)) told_now (λ k tag. tt)

-- where the record is that describes the segment after it
pub record ToldPlace (regions : List Grant) (words : ℕ → ℕ) (grant : Grant) (payload : ℕ) : Type 0 where
  pub base_word : IsWordOf regions payload
  pub size_word : IsWordOf regions (payload + 8)
  pub high : payload + 32 < 2 ^ 64
  pub sum : grant.size + words (payload + 8) < 2 ^ 64
  pub apart : (k : ℕ) → payload ≤ k → k ≤ payload + 8 → grant.base ≤ k → k < grant.base + grant.size → ⊥

module _ {A : Type 0} {regions : A → List Grant} {word : A → ℕ → ℕ} {heap : Dlmalloc A} (sound : IsSound regions word heap) (grant : Grant) where
  -- the head segment ends below 2 ^ 64, with the grant before it
  pub head_ends : IsHeadBehind word heap grant → (grant.base + grant.size ≡ heap.base) × (heap.base + heap.size < 2 ^ 64)
  head_ends b =
      let part = (subst (AreSegments (regions heap.system) (word heap.system)) b.is sound.segments).0 in
      let told = subst (AreTold (word heap.system) heap) b.is sound.told in
      let place = (before_means grant b.segment b.joins).0 in
      (omega arith, omega arith)

  pub told_place : {payload : ℕ} → IsToldBehind word heap grant payload → ToldPlace (regions heap.system) (word heap.system) grant payload
  told_place {payload} b =
      let parts = subst (AreSegments (regions heap.system) (word heap.system)) b.is sound.segments in
      let part = all_at (IsSegment (regions heap.system) (word heap.system)) (b.head ∷ b.front) b.segment b.back parts in
      let p = payload_in part payload b.told.0 b.told.4 in let size = b.told.2 in let place = (before_means grant b.segment b.joins).0 in
      record {
        base_word = record { granted = part.run.covered payload (omega arith) (omega arith); aligned = omega arith };
        size_word = record { granted = part.run.covered (payload + 8) (omega arith) (omega arith); aligned = omega arith };
        high = omega arith;
        sum = omega arith;
        apart = λ k low high above below. omega arith;
      }

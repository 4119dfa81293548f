-- The payload of a segment's record: its words are granted, and the extents do not rest on them.
use Rattle.dlmalloc.proofs.Names.{◌≡◌, ℕ, ◌+◌, ◌-◌, ◌%◌, ◌<◌, ◌≤◌, ◌⊎◌, inl, inr, List, ◌∷◌, Some, refl, sym, ◌∙◌, subst, arith, Grant, IsWordOf, Used, Record, extent_at, Tiles, Segment, IsSegment, record_of, AreRecords}
use Rattle.dlmalloc.proofs.Extents.Lookup.{found}
use Rattle.dlmalloc.proofs.Extents.Tiling.{tiles_kept, tiles_split, tiles_append, tiles_le}
use Rattle.dlmalloc.proofs.Extents.FromWords.{nothing}
use Rattle.dlmalloc.proofs.Segments.Among.{in_part}

-- where the payload of a segment's record is
pub record IsPayloadIn (segment : Segment) (payload : ℕ) : Type 0 where
  pub whole : payload % 16 ≡ 0
  pub low : segment.base + 16 ≤ payload
  pub high : payload + 64 ≤ segment.base + segment.size

pub payload_in : {regions : List Grant} {words : ℕ → ℕ} {segment : Segment} → IsSegment regions words segment → (payload : ℕ) → 16 < payload →
    extent_at (payload - 16) segment.extents ≡ Some (record_of (payload - 16) (segment.base + segment.size)) → IsPayloadIn segment payload
payload_in {words} {segment} part payload some there =
    let end = segment.base + segment.size in
    let is = in_part words Used segment.base segment.extents end part.extents there in
    let long : 80 ≤ end - (payload - 16) = elim (is.stands.size) [ inl short ↦ omega arith | inr longer ↦ omega arith ] in
    record { whole = omega (arith, is.stands.whole); low = omega (arith, is.low); high = omega (arith, long) }

-- a record describes its segment as before if the words of its payload stay
pub record_stays : (old new : ℕ → ℕ) (payload : ℕ) (segment : Segment) (others now : List Segment) → payload % 16 ≡ 0 →
    ((k : ℕ) → payload ≤ k → k < payload + 32 → k % 8 ≡ 0 → new k ≡ old k) → AreRecords old payload (segment ∷ others) →
    AreRecords new (old (payload + 16)) now → AreRecords new payload (segment ∷ now)
record_stays old new payload segment others now whole same h rest = (
  h.0,
  same payload (omega arith) (omega arith) (omega arith) ∙ h.1,
  same (payload + 8) (omega arith) (omega arith) (omega arith) ∙ h.2,
  same (payload + 24) (omega arith) (omega arith) (omega arith) ∙ h.3,
  h.4,
  subst (λ p. AreRecords new p now) (sym (same (payload + 16) (omega arith) (omega arith) (omega arith))) rest,
)

module _ {regions : List Grant} {old : ℕ → ℕ} {segment : Segment} (part : IsSegment regions old segment) (payload : ℕ) (some : 16 < payload)
    (there : extent_at (payload - 16) segment.extents ≡ Some (record_of (payload - 16) (segment.base + segment.size))) where
  abbrev end : ℕ
  end = segment.base + segment.size

  place : IsPayloadIn segment payload
  place = payload_in part payload some there

  pub payload_whole : payload % 16 ≡ 0
  payload_whole = place.whole

  pub payload_low : segment.base + 16 ≤ payload
  payload_low = place.low

  pub payload_high : payload + 64 ≤ segment.base + segment.size
  payload_high = place.high

  -- its words are granted
  pub payload_word : (k : ℕ) → payload ≤ k → k < payload + 32 → k % 8 ≡ 0 → IsWordOf regions k
  payload_word k low high m = record { granted = part.run.covered k (omega (arith, payload_low)) (omega (arith, payload_high)); aligned = m }

  -- and the segment is still one, if others stay
  module _ (new : ℕ → ℕ) (kept : (k : ℕ) → segment.base < k → k < segment.base + segment.size → k % 8 ≡ 0 →
      (k < payload) ⊎ (payload + 32 ≤ k) → new k ≡ old k) where
    pub recorded_tiles : Tiles new Used segment.base segment.extents (segment.base + segment.size)
    recorded_tiles =
        let f = found (payload - 16) (record_of (payload - 16) end) segment.extents there in
        let s = tiles_split old Used segment.base f.front (record_of (payload - 16) end ∷ f.back) end
        (subst (λ es. Tiles old Used segment.base es end) f.is part.extents) in
        let at : payload - 16 ≡ s.middle = s.second.0 in
        let low = tiles_le old Used segment.base f.front s.middle s.first in
        let last = nothing old Record (s.middle + (end - (payload - 16))) f.back end refl s.second.2 in
        subst (λ es. Tiles new Used segment.base es end) (sym f.is)
        (tiles_append new Used segment.base f.front (record_of (payload - 16) end ∷ f.back) s.middle end
        (tiles_kept old new Used segment.base f.front s.middle s.first
        (λ k above below m free. kept k above (omega (arith, place.high)) m (inl (omega arith)))) (
          at,
          record {
            whole = s.second.1.whole;
            size = s.second.1.size;
            kind = s.second.1.kind;
            head = kept (payload - 16 + 8) (omega arith) (omega (arith, place.high)) (omega (arith, payload_whole)) (inl (omega arith)) ∙ s.second.1.head;
            foot = λ free. absurd (cc);
            fence = λ is k above below m. kept k (omega arith) (omega (arith, place.high)) m (inr (omega arith)) ∙ s.second.1.fence is k above below m;
          },
          subst (λ es. Tiles new Record (s.middle + (end - (payload - 16))) es end) (sym last.0) last.1,
        ))

    pub recorded_stays : IsSegment regions new segment
    recorded_stays = record { run = part.run; low = part.low; high = part.high; long = part.long; extents = recorded_tiles; tail = part.tail }

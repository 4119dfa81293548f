-- A heap rests only on the words that describe its extents, and on the payloads of its records.
use Rattle.dlmalloc.proofs.Names.{◌≡◌, ℕ, ◌+◌, ◌-◌, ◌%◌, ◌<◌, ◌≤◌, ◌⊎◌, inl, inr, true, false, nat_le, nat_lt, List, [], ◌∷◌, ◌++◌, Some, IsTrue, refl, sym, ◌∙◌, ap, subst, arith, append_assoc, dec_lt, list_any, AllByRecursion, nat_tests, Grant, IsWordOf, Extent, Kind, Used, Record, Foot, ends_segment, Bins, extent_at, HasChunk, Tiles, Segment, extents_in, is_free_below_top, IsFlaggedRun, IsSegment, has_byte_in, AreSegments, AreApart, record_of, AreRecords, segments_of, state_of, AreTold, IsSound, Dlmalloc}
use Rattle.dlmalloc.proofs.Extents.Lookup.{found_here}
use Rattle.dlmalloc.proofs.Extents.Tiling.{sized}
use Rattle.dlmalloc.proofs.Extents.OneMoreUsed.{AreDistinct, tiles_distinct}
use Rattle.dlmalloc.proofs.Segments.Among.{extents_all, all_at, any_among, distinct_later, among_all, in_part}
use Rattle.dlmalloc.proofs.Words.OfRecords.{payload_in, record_stays}
use Rattle.dlmalloc.proofs.Extents.Disjoint.{room_behind}
use Rattle.dlmalloc.proofs.Moves.OfHeaps.{segments_read, segments_few}

-- a word that an extent rests on, or may: its head, the words of a record, and the word after a free one
abbrev pub IsTelling : ℕ → Extent → Type 0
IsTelling k one = (one.at < k) × (k ≤ one.at + one.size) × (k % 8 ≡ 0) × ((k ≡ one.at + 8) ⊎ ((one.kind ≡ Record) ⊎ (k ≡ one.at + one.size)))
    × (k ≡ one.at + one.size → IsTrue (is_free_below_top one.kind))

-- an extent rests on the words that describe it
stands_told : {words : ℕ → ℕ} (words' : ℕ → ℕ) {before : Kind} (one : Extent) → HasChunk words before one →
    ((k : ℕ) → IsTelling k one → words' k ≡ words k) → HasChunk words' before one
stands_told words' one h same =
    let s = sized one.kind one.size h.size in
    let whole = h.whole in let size = s.0 in let long = s.1 in
    record {
      whole = h.whole;
      size = h.size;
      kind = h.kind;
      head = same (one.at + 8) (omega arith, omega arith, omega arith, inl refl, λ is. absurd (omega arith)) ∙ h.head;
      foot = λ free. same (one.at + one.size) (omega arith, omega arith, omega arith, inr (inr refl), λ is. free) ∙ h.foot free;
      fence = λ is k low high m. same k (omega arith, omega arith, m, inr (inl is), λ e. absurd (omega arith)) ∙ h.fence is k low high m;
    }

tiles_told : (words words' : ℕ → ℕ) (before : Kind) (from : ℕ) (extents : List Extent) (to : ℕ) → Tiles words before from extents to → AreDistinct extents →
    ((one : Extent) → extent_at one.at extents ≡ Some one → (k : ℕ) → IsTelling k one → words' k ≡ words k) → Tiles words' before from extents to
tiles_told words words' before from [] to h distinct same = h
tiles_told words words' before from (first ∷ extents) to h distinct same = (
  h.0,
  stands_told words' first h.1 (same first (found_here first extents)),
  tiles_told words words' first.kind (from + first.size) extents to h.2 distinct.1
      (λ one there. same one (distinct_later (first ∷ []) extents one.at distinct there)),
)

-- a segment has its bytes
pub has_its : (segment : Segment) (k : ℕ) → segment.base ≤ k → k < segment.base + segment.size → has_byte_in k segment ≡ true
has_its segment k low high =
    let from : nat_le segment.base k ≡ true = grind (arith, nat_tests) in
    let to : nat_lt k (segment.base + segment.size) ≡ true = grind (arith, nat_tests) in
    rw (from, to) refl

-- Each segment is still a run, and the words that describe the extents stay. The bins do not matter.
module _ {A : Type 0} {regions : A → List Grant} {word : A → ℕ → ℕ} {heap : Dlmalloc A} (sound : IsSound regions word heap) (system : A) (bins : Bins)
    (stay : AllByRecursion (λ (segment : Segment). IsFlaggedRun (regions heap.system) segment.base segment.size
    segment.flags → IsFlaggedRun (regions system) segment.base segment.size segment.flags) (segments_of word heap))
    (same : (one : Extent) → extent_at one.at (extents_in (state_of word heap)) ≡ Some one → (k : ℕ) → IsTelling k one →
    IsWordOf (regions heap.system) k → IsTrue (list_any (has_byte_in k) (segments_of word heap)) →
    word system k ≡ word heap.system k) where
  abbrev words : ℕ → ℕ
  words = word heap.system

  abbrev now : ℕ → ℕ
  now = word system

  abbrev after : Dlmalloc A
  after = record heap { system = system; bins = bins }

  -- a word that an extent rests on stays
  told : (front : List Segment) (segment : Segment) (back : List Segment) → segments_of word heap ≡ front ++ segment ∷ back →
      (one : Extent) → extent_at one.at segment.extents ≡ Some one → (k : ℕ) → IsTelling k one → now k ≡ words k
  told front segment back is one there k tells =
      let in_it = in_part words Used segment.base segment.extents (segment.base + segment.size) part.extents there in
      let low = in_it.low in let high = in_it.high in let above = tells.0 in
      same one (among_all (regions heap.system) words sound.segments sound.apart front segment back is one.at there) k tells
      (record { granted = part.run.covered k (omega arith) (inner high); aligned = tells.2 })
      (ap (list_any (has_byte_in k)) is ∙ any_among (has_byte_in k) front segment back (has_its segment k (omega arith) (inner high)))
    where
      part : IsSegment (regions heap.system) words segment
      part = all_at (IsSegment (regions heap.system) words) front segment back (subst (AreSegments (regions heap.system) words) is sound.segments)

      ends : (kind : Kind) → IsTrue (is_free_below_top kind) → ends_segment kind ≡ false
      ends Record plain = absurd (cc)
      ends Foot plain = absurd (cc)
      ends kind plain = refl

      inner : one.at + one.size ≤ segment.base + segment.size → k < segment.base + segment.size
      inner high = elim (dec_lt k (one.at + one.size)) [
        | yes below ↦ omega arith
        | no at_end ↦ (let below = tells.1 in let e : k ≡ one.at + one.size = omega arith in
            let room = room_behind words Used segment.base segment.extents (segment.base + segment.size) one part.extents
            part.tail there (ends one.kind (tells.4 e)) in omega arith)
      ]

  -- each segment is one still
  still_in : (front segments : List Segment) → segments_of word heap ≡ front ++ segments → AreSegments (regions heap.system) words segments →
      AllByRecursion (λ segment. IsFlaggedRun (regions heap.system) segment.base segment.size segment.flags →
      IsFlaggedRun (regions system) segment.base segment.size segment.flags) segments → AreSegments (regions system) now segments
  still_in front [] is parts runs = tt
  still_in front (segment ∷ segments) is parts runs = (
    record {
      run = runs.0 parts.0.run;
      low = parts.0.low;
      high = parts.0.high;
      long = parts.0.long;
      extents = tiles_told words now Used segment.base segment.extents (segment.base + segment.size) parts.0.extents
          (tiles_distinct words Used segment.base segment.extents (segment.base + segment.size) parts.0.extents) (told front segment segments is);
      tail = parts.0.tail;
    },
    still_in (front ++ segment ∷ []) segments (is ∙ sym (append_assoc front (segment ∷ []) segments)) parts.1 runs.1,
  )

  still_segments : AreSegments (regions system) now (segments_of word heap)
  still_segments = still_in [] (segments_of word heap) refl sound.segments stay

  -- the records say the same
  still_records : (front segments : List Segment) → segments_of word heap ≡ front ++ segments → AreSegments (regions heap.system) words segments →
      (payload : ℕ) → AreRecords words payload segments → AreRecords now payload segments
  still_records front [] is parts payload h = h
  still_records front (segment ∷ segments) is parts payload h =
      let p = payload_in parts.0 payload h.0 h.4 in let some = h.0 in
      record_stays words now payload segment segments segments p.whole (λ k low high m. told front segment segments is
      (record_of (payload - 16) (segment.base + segment.size)) h.4 k (omega arith, omega arith, m, inr (inl refl), λ e. absurd (omega arith))) h
      (still_records (front ++ segment ∷ []) segments (is ∙ sym (append_assoc front (segment ∷ []) segments)) parts.1 (words (payload + 16)) h.5)

  still_told : AreTold now after (segments_of word heap)
  still_told = go (segments_of word heap) refl sound.segments sound.told
    where
      go : (segments : List Segment) → segments_of word heap ≡ segments → AreSegments (regions heap.system) words segments →
          AreTold words heap segments → AreTold now after segments
      go [] is parts h = h
      go (segment ∷ segments) is parts h = (h.0, h.1, h.2, h.3, h.4, still_records (segment ∷ []) segments is parts.1 heap.next h.5)

  still_read : segments_of word after ≡ segments_of word heap
  still_read = segments_read (regions system) word after (segments_of word heap) still_segments still_told (segments_few word heap)

  pub sound_told : IsSound regions word after
  sound_told = record {
    granularity = sound.granularity;
    segments = subst (AreSegments (regions system) now) (sym still_read) still_segments;
    apart = subst AreApart (sym still_read) sound.apart;
    told = subst (AreTold now after) (sym still_read) still_told;
    none = sound.none;
    no_victim = sound.no_victim;
    victim = λ some. ap (λ ss. extent_at heap.victim (extents_all ss)) still_read ∙ sound.victim some;
  }

  pub state_told : state_of word after ≡ state_of word heap
  state_told = λ i. record (state_of word heap) { segments = still_read i }

-- The one top.
use Rattle.dlmalloc.proofs.Names.{◌<◌, ◌≡◌, ℕ, ◌+◌, ◌-◌, inl, inr, Bool, true, false, ◌==◌, if◌then◌else◌, List, [], ◌∷◌, ◌++◌, Some, refl, sym, ◌∙◌, ap, subst, arith, append_assoc, unwrap_or, Grant, Extent, Used, Free, Top, Record, Foot, Segment, last_kind, IsSegment, AreSegments, record_of, AreRecords, segments_of, AreTold, IsSound, Dlmalloc, AreChunks, chunks_between, ◌≢◌, IsBoundary, state_of}
use Rattle.dlmalloc_chunks.specs.Tiling.{extent_at}
use Rattle.dlmalloc.proofs.Extents.Lookup.{extent, the_extent, found_here, found_either, found_more, of_two}
use Rattle.dlmalloc.proofs.Moves.OfLists.{last_append}
use Rattle.dlmalloc.proofs.Extents.Walk.{run_read, top_tail, record_tail}
use Rattle.dlmalloc.proofs.Segments.Among.{extents_all, all_at, among_all, distinct_later}
use Rattle.dlmalloc.proofs.Extents.OneMoreUsed.{AreDistinct, tiles_distinct}

-- a chunk is no top
no_top : (extents : List Extent) → AreChunks extents → (k : ℕ) {one : Extent} → extent_at k extents ≡ Some one → one.kind ≡ Top → ⊥
no_top [] are k there is = cc
no_top (extent ∷ extents) are k {one} there is = go (extent.at == k) there (λ later. no_top extents are.1 k later is)
  where
    go : (b : Bool) → (if b then Some extent else extent_at k extents) ≡ Some one → (extent_at k extents ≡ Some one → ⊥) → ⊥
    go true same later =
        let kind : extent.kind ≡ Top = ap (λ o. (unwrap_or o extent).kind) same ∙ is in
        elim are.0 [ inl used ↦ (let no : Used ≡ Top = sym used ∙ kind in cc) | inr free ↦ (let no : Free ≡ Top = sym free ∙ kind in cc) ]
    go false found later = later found

-- the segments that records describe have records
record_there : (words : ℕ → ℕ) (payload : ℕ) (front : List Segment) (segment : Segment) (back : List Segment) →
    AreRecords words payload (front ++ segment ∷ back) → (at : ℕ) × (extent_at at segment.extents ≡ Some (record_of at (segment.base + segment.size)))
record_there words payload [] segment back h = (payload - 16, h.4)
record_there words payload (first ∷ front) segment back h = record_there words (words (payload + 16)) front segment back h.5

module _ {regions : List Grant} {words : ℕ → ℕ} {segment : Segment} (part : IsSegment regions words segment) where
  abbrev end : ℕ
  end = segment.base + segment.size

  module _ {at size : ℕ} (there : extent_at at segment.extents ≡ Some (extent at size Top)) where
    -- chunks, the top, and its foot
    abbrev chunks : List Extent
    chunks = (top_tail part there).run.chunks

    top_is : segment.extents ≡ chunks ++ extent at size Top ∷ extent (at + size) 80 Foot ∷ []
    top_is = (top_tail part there).is ∙ ap (λ es. es ++ extent at size Top ∷ extent (at + size) 80 Foot ∷ []) (run_read (top_tail part there).run)

    -- its foot is after it
    pub foot_there : extent_at (at + size) segment.extents ≡ Some (extent (at + size) 80 Foot)
    foot_there =
        let foot = extent (at + size) 80 Foot in
        let is = top_is ∙ sym (append_assoc chunks (extent at size Top ∷ []) (foot ∷ [])) in
        ap (extent_at (at + size)) is ∙ distinct_later (chunks ++ extent at size Top ∷ []) (foot ∷ []) (at + size)
        (subst AreDistinct is (tiles_distinct words Used segment.base segment.extents end part.extents)) (found_here foot [])

    -- there is one
    one_top : {other other_size : ℕ} → extent_at other segment.extents ≡ Some (extent other other_size Top) → at ≡ other
    one_top {other} other_there =
        elim (found_either other chunks (extent at size Top ∷ extent (at + size) 80 Foot ∷ []) (ap (extent_at other) (sym top_is) ∙ other_there)) [
          | inl first ↦ absurd (no_top chunks (top_tail part there).run.are other first refl)
          | inr later ↦ elim (of_two other (extent at size Top) (extent (at + size) 80 Foot) later.1) [
            | inl same ↦ ap (λ e. e.at) same
            | inr foot ↦ absurd (let no : Foot ≡ Top = ap (λ e. e.kind) foot in cc)
          ]
        ]

  -- no record is there
  pub no_record : {at size : ℕ} (record_at : ℕ) → extent_at at segment.extents ≡ Some (extent at size Top) →
      extent_at record_at segment.extents ≡ Some (record_of record_at end) → ⊥
  no_record {at} {size} record_at there record_there =
      let foot = ap (last_kind Used) (top_is there) ∙ last_append Used (chunks there) (extent at size Top ∷ extent (at + size) 80 Foot ∷ []) in
      let kind = ap (last_kind Used) (record_tail part record_at record_there).is
      ∙ last_append Used (chunks_between words segment.base record_at) (record_of record_at end ∷ []) in
      let no : Foot ≡ Record = sym foot ∙ kind in
      cc

-- the top is found among all, if there is a segment
pub top_among : {A : Type 0} {regions : A → List Grant} {word : A → ℕ → ℕ} {heap : Dlmalloc A} → IsSound regions word heap → 0 < heap.size →
    extent_at heap.top (extents_all (segments_of word heap)) ≡ Some (extent heap.top heap.top_size Top)
top_among {word} {heap} sound some = go (segments_of word heap) sound.told
  where
    go : (segments : List Segment) → AreTold (word heap.system) heap segments →
        extent_at heap.top (extents_all segments) ≡ Some (extent heap.top heap.top_size Top)
    go [] h = absurd (omega arith)
    go (segment ∷ segments) h = found_more heap.top segment.extents (extents_all segments) h.4

module _ {A : Type 0} {regions : A → List Grant} {word : A → ℕ → ℕ} {heap : Dlmalloc A} (sound : IsSound regions word heap)
    (front : List Segment) (segment : Segment) (back : List Segment) (is : segments_of word heap ≡ front ++ segment ∷ back) where
  part : IsSegment (regions heap.system) (word heap.system) segment
  part = all_at (IsSegment (regions heap.system) (word heap.system)) front segment back
      (subst (AreSegments (regions heap.system) (word heap.system)) is sound.segments)

  -- the top stands in the head segment, where the field says
  pub is_top : {at size : ℕ} → extent_at at segment.extents ≡ Some (extent at size Top) → (front ≡ []) × (at ≡ heap.top)
  is_top {at} {size} there = go front (subst (AreTold (word heap.system) heap) is sound.told)
    where
      go : (front : List Segment) → AreTold (word heap.system) heap (front ++ segment ∷ back) → (front ≡ []) × (at ≡ heap.top)
      go [] h = (refl, one_top part there h.4)
      go (first ∷ front) h =
          let r = record_there (word heap.system) heap.next front segment back h.5 in
          absurd (no_record part r.0 there r.1)

  -- what is found in the segment at the place of the top is the top
  pub the_top : {one : Extent} → extent_at one.at segment.extents ≡ Some one → one.at ≡ heap.top → one ≡ extent heap.top heap.top_size Top
  the_top {one} there place =
      let all = among_all (regions heap.system) (word heap.system) sound.segments sound.apart front segment back is one.at there in
      the_extent (sym all ∙ (ap (λ k. extent_at k (extents_all (segments_of word heap))) place
      ∙ top_among sound (some front (subst (AreTold (word heap.system) heap) is sound.told))))
    where
      some : (front : List Segment) → AreTold (word heap.system) heap (front ++ segment ∷ back) → 0 < heap.size
      some [] h = h.0
      some (first ∷ front) h = h.0

-- and so is its foot
pub foot_among : {A : Type 0} {regions : A → List Grant} {word : A → ℕ → ℕ} {heap : Dlmalloc A} → IsSound regions word heap → 0 < heap.size →
    extent_at (heap.top + heap.top_size) (extents_all (segments_of word heap)) ≡ Some (extent (heap.top + heap.top_size) 80 Foot)
foot_among {regions} {word} {heap} sound some = go (segments_of word heap) sound.segments sound.told
  where
    go : (segments : List Segment) → AreSegments (regions heap.system) (word heap.system) segments → AreTold (word heap.system) heap segments →
        extent_at (heap.top + heap.top_size) (extents_all segments) ≡ Some (extent (heap.top + heap.top_size) 80 Foot)
    go [] parts h = absurd (omega arith)
    go (segment ∷ segments) parts h = found_more (heap.top + heap.top_size) segment.extents (extents_all segments) (foot_there parts.0 h.4)

-- what is at no boundary is not the head of the top, nor of its foot
pub head_tags : {A : Type 0} {regions : A → List Grant} {word : A → ℕ → ℕ} {heap : Dlmalloc A} → IsSound regions word heap → 0 < heap.size →
    (k : ℕ) → (IsBoundary (state_of word heap) k → ⊥) → (k ≢ heap.top + 8) × (k ≢ heap.top + heap.top_size + 8)
head_tags {heap} sound some k apart = (
  (λ is. apart (record { extent = extent heap.top heap.top_size Top; there = top_among sound some; is = inl is })),
  (λ is. apart (record { extent = extent (heap.top + heap.top_size) 80 Foot; there = foot_among sound some; is = inl is })),
)

-- That blocks keep their words follows from the clause on words, if both heaps are sound.
use Rattle.dlmalloc.proofs.Names.{◌≡◌, ℕ, ◌+◌, ◌/◌, ◌%◌, ◌<◌, ◌≤◌, ◌⊎◌, inl, inr, Bool, true, false, ◌==◌, if◌then◌else◌, List, [], ◌∷◌, Some, IsTrue, sym, ◌∙◌, ap, subst, arith, unwrap_or, AllByRecursion, Grant, IsWordOf, is_granted, Extent, Kind, Used, Free, Victim, Top, Record, Foot, is_used, Segment, HeapState, extents_in, is_free_below_top, IsInFree, OnlyOwnChange, OnlyOwnOrTagsChange, KeepsBlocks, IsSpared, AllSpare, IsSegment, AreSegments, IsApartFrom, AreApart, segments_of, state_of, IsSound, IsTurned, Event, Dlmalloc}
use Rattle.dlmalloc_chunks.specs.Tiling.{extent_at}
use Rattle.dlmalloc.proofs.Names.{IsInRecord}
use Rattle.dlmalloc.proofs.Extents.Lookup.{found_either}
use Rattle.dlmalloc.proofs.Words.Spared.{spared_before, spared_behind, spared_append, inner_spared}
use Rattle.dlmalloc.proofs.Moves.OfLists.{standing, half}
use Rattle.dlmalloc.proofs.Segments.Among.{extents_all, located, of_located, in_part}
use Rattle.dlmalloc.proofs.Extents.Disjoint.{beside}
use Rattle.dlmalloc.proofs.Laws.{used_inside}

-- a word of a segment is at no boundary of others
spared_beside : (regions : List Grant) (words : ℕ → ℕ) (segment : Segment) (segments : List Segment) → AreSegments regions words segments →
    AllByRecursion (IsApartFrom segment) segments → (k : ℕ) → segment.base < k → k < segment.base + segment.size → AllSpare (extents_all segments) k
spared_beside regions words segment [] parts apart k low high = tt
spared_beside regions words segment (other ∷ segments) parts apart k low high =
    spared_append other.extents (extents_all segments) k (elim (apart.0) [
      | inl before ↦ spared_before words Used other.base other.extents (other.base + other.size) k parts.0.extents (omega arith)
      | inr behind ↦ spared_behind words Used other.base other.extents (other.base + other.size) k parts.0.extents (omega arith)
    ]) (spared_beside regions words segment segments parts.1 apart.1 k low high)

-- nor is a word of a block at one of any
all_spared : (regions : List Grant) (words : ℕ → ℕ) (segments : List Segment) → AreSegments regions words segments → AreApart segments →
    {block : Extent} → extent_at block.at (extents_all segments) ≡ Some block → block.kind ≡ Used →
    (k : ℕ) → block.at + 16 ≤ k → k < block.at + block.size + 8 → AllSpare (extents_all segments) k
all_spared regions words [] parts apart there used k low high = tt
all_spared regions words (segment ∷ segments) parts apart {block} there used k low high =
    elim (found_either block.at segment.extents (extents_all segments) there) [
      | inl here ↦ (let is = standing words Used segment.base segment.extents (segment.base + segment.size) parts.0.extents parts.0.tail here used in
          let from = is.low in let to = is.high in
          spared_append segment.extents (extents_all segments) k (inner_spared words Used segment.base segment.extents (segment.base + segment.size)
          parts.0.extents here (ap is_used used) k low high) (spared_beside regions words segment segments parts.1 apart.0 k (omega arith) (omega arith)))
      | inr later ↦ (let l = located block.at segments later.1 in
          let p = of_located (IsSegment regions words) l parts.1 in
          let is = standing words Used l.segment.base l.segment.extents (l.segment.base + l.segment.size) p.extents p.tail l.there used in
          let from = is.low in let to = is.high in
          spared_append segment.extents (extents_all segments) k (elim (of_located (IsApartFrom segment) l apart.0) [
            | inl before ↦ spared_behind words Used segment.base segment.extents (segment.base + segment.size) k parts.0.extents (omega arith)
            | inr behind ↦ spared_before words Used segment.base segment.extents (segment.base + segment.size) k parts.0.extents (omega arith)
          ]) (all_spared regions words segments parts.1 apart.1 later.1 used k low high))
    ]

spared_found : (extents : List Extent) (k at : ℕ) {one : Extent} → AllSpare extents k → extent_at at extents ≡ Some one → IsSpared k one.kind one.at one.size
spared_found [] k at spared there = absurd (cc)
spared_found (extent ∷ extents) k at {one} spared there = go (extent.at == at) there (λ later. spared_found extents k at spared.1 later)
  where
    go : (b : Bool) → (if b then Some extent else extent_at at extents) ≡ Some one →
        (extent_at at extents ≡ Some one → IsSpared k one.kind one.at one.size) → IsSpared k one.kind one.at one.size
    go true same later = subst (λ e. IsSpared k e.kind e.at e.size) (ap (λ o. unwrap_or o extent) same) spared.0
    go false found later = later found

no_boundary : (k : ℕ) (kind : Kind) (at size : ℕ) → IsSpared k kind at size → (k ≡ at + 8) ⊎ (IsTrue (is_free_below_top kind) × (k ≡ at + size)) → ⊥
no_boundary k Used at size h is = elim is [ inl a ↦ h a | inr b ↦ (let p = b.0 in cc) ]
no_boundary k Free at size h is = elim is [ inl a ↦ h.0 a | inr b ↦ h.1 b.1 ]
no_boundary k Victim at size h is = elim is [ inl a ↦ h.0 a | inr b ↦ h.1 b.1 ]
no_boundary k Top at size h is = elim is [ inl a ↦ h a | inr b ↦ (let p = b.0 in cc) ]
no_boundary k Record at size h is = elim is [ inl a ↦ h a | inr b ↦ (let p = b.0 in cc) ]
no_boundary k Foot at size h is = elim is [ inl a ↦ h a | inr b ↦ (let p = b.0 in cc) ]

-- a word of a block, or its head, is in no record
pub no_record : {A : Type 0} {regions : A → List Grant} {word : A → ℕ → ℕ} {heap : Dlmalloc A} → IsSound regions word heap →
    {block : Extent} → extent_at block.at (extents_in (state_of word heap)) ≡ Some block → block.kind ≡ Used →
    (k : ℕ) → block.at ≤ k → k < block.at + block.size + 8 → k % 8 ≡ 0 → IsInRecord (state_of word heap) k → ⊥
no_record {regions} {word} {heap} sound {block} there used k low high m r =
    elim (beside (regions heap.system) (word heap.system) (segments_of word heap) sound.segments sound.apart there r.there differ) [
      | inl before ↦ (let above = r.low in omega (arith, whole))
      | inr behind ↦ (let below = r.high in omega arith)
    ]
  where
    differ : block.at ≡ r.extent.at → ⊥
    differ same =
        let one : Some block ≡ Some r.extent = sym there ∙ (ap (λ a. extent_at a (extents_in (state_of word heap))) same ∙ r.there) in
        let no : Used ≡ Record = sym used ∙ (ap (λ o. (unwrap_or o block).kind) one ∙ r.is) in
        cc

    whole : r.extent.at % 16 ≡ 0
    whole =
        let l = located r.extent.at (segments_of word heap) r.there in
        let p = of_located (IsSegment (regions heap.system) (word heap.system)) l sound.segments in
        (in_part (word heap.system) Used l.segment.base l.segment.extents (l.segment.base + l.segment.size) p.extents l.there).stands.whole

-- nor in a free extent
pub not_in_free : {A : Type 0} {regions : A → List Grant} {word : A → ℕ → ℕ} {heap : Dlmalloc A} → IsSound regions word heap →
    {block : Extent} → extent_at block.at (extents_in (state_of word heap)) ≡ Some block → block.kind ≡ Used →
    (k : ℕ) → block.at ≤ k → k < block.at + block.size + 8 → IsInFree (state_of word heap) k → ⊥
not_in_free {regions} {word} {heap} sound {block} there used k low high f =
    elim (beside (regions heap.system) (word heap.system) (segments_of word heap) sound.segments sound.apart there f.free differ) [
      | inl before ↦ (let above = f.low in omega arith)
      | inr behind ↦ (let below = f.high in omega arith)
    ]
  where
    differ : block.at ≡ f.at → ⊥
    differ same =
        let one : Some block ≡ Some (record { at = f.at; size = f.size; kind = Free }) = sym there
        ∙ (ap (λ a. extent_at a (extents_in (state_of word heap))) same ∙ f.free) in
        let no : Used ≡ Free = sym used ∙ ap (λ o. (unwrap_or o block).kind) one in
        cc

-- a block keeps its words, if it is one of the new heap, and its words were in no free extent
kept_in_tags : {A : Type 0} {regions : A → List Grant} {word : A → ℕ → ℕ} (granted : List Grant) (before : HeapState)
    (old : ℕ → ℕ) {new : Dlmalloc A} → IsSound regions word new → OnlyOwnOrTagsChange granted before (state_of word new) old (word new.system) →
    {block : Extent} → extent_at block.at (extents_in (state_of word new)) ≡ Some block → block.kind ≡ Used →
    (k : ℕ) → block.at + 16 ≤ k → k < block.at + block.size + 8 → IsWordOf granted k → (IsInFree before k → ⊥) → word new.system k ≡ old k
kept_in_tags {regions} {word} granted before old {new} sound same there used k low high is was =
    let spared = all_spared (regions new.system) (word new.system) (segments_of word new) sound.segments sound.apart there used k low high in
    same k is was (λ own. elim own [
      | inl boundary ↦ no_boundary k boundary.extent.kind boundary.extent.at boundary.extent.size
          (spared_found (extents_in (state_of word new)) k boundary.extent.at spared boundary.there) boundary.is
      | inr free ↦ not_in_free sound there used k (omega arith) high free
    ]) (no_record sound there used k (omega arith) high is.aligned)

pub kept_in : {A : Type 0} {regions : A → List Grant} {word : A → ℕ → ℕ} {follows : A → List Event → A → Type 0} {old new : Dlmalloc A} →
    IsTurned regions word follows old new → {block : Extent} → extent_at block.at (extents_in (state_of word new)) ≡ Some block → block.kind ≡ Used →
    (k : ℕ) → block.at + 16 ≤ k → k < block.at + block.size + 8 → IsWordOf (regions old.system) k → (IsInFree (state_of word old) k → ⊥) →
    word new.system k ≡ word old.system k
kept_in {regions} {word} {old} moved =
    kept_in_tags (regions old.system) (state_of word old) (word old.system) moved.sound (λ k inside was own recorded. moved.words k inside was own)

-- blocks that keep their words twice keep them
pub keeps_on : {blocks : List Extent} {first second third : ℕ → ℕ} →
    KeepsBlocks blocks first second → KeepsBlocks blocks second third → KeepsBlocks blocks first third
keeps_on one other = record {
  words = λ block there used k low high m. other.words block there used k low high m ∙ one.words block there used k low high m;
  heads = λ block there used. other.heads block there used ∙ one.heads block there used;
}

-- blocks among others that keep their words keep them
pub kept_among : {blocks few : List Extent} {old new : ℕ → ℕ} →
    ((block : Extent) → block.kind ≡ Used → extent_at block.at few ≡ Some block → extent_at block.at blocks ≡ Some block) →
    KeepsBlocks blocks old new → KeepsBlocks few old new
kept_among among kept = record {
  words = λ block there used. kept.words block (among block used there) used;
  heads = λ block there used. kept.heads block (among block used there) used;
}

-- Each of some blocks is in use in two heaps.
abbrev pub AreInBoth : HeapState → HeapState → List Extent → Type 0
AreInBoth old new blocks = (block : Extent) → extent_at block.at blocks ≡ Some block → block.kind ≡ Used →
    (extent_at block.at (extents_in old) ≡ Some block) × (extent_at block.at (extents_in new) ≡ Some block)

-- blocks of two sound heaps keep their words, if of some granted words only own ones and those of tags change
module _ {A : Type 0} {regions : A → List Grant} {word : A → ℕ → ℕ} {old new : Dlmalloc A} (sound : IsSound regions word old)
    (sound' : IsSound regions word new) (granted : List Grant)
    (same : OnlyOwnOrTagsChange granted (state_of word old) (state_of word new) (word old.system) (word new.system)) (blocks : List Extent)
    (both : AreInBoth (state_of word old) (state_of word new) blocks) where
  blocks_kept : ((block : Extent) → extent_at block.at blocks ≡ Some block → block.kind ≡ Used → (k : ℕ) → block.at + 16 ≤ k →
      k < block.at + block.size + 8 → IsTrue (is_granted granted k)) → KeepsBlocks blocks (word old.system) (word new.system)
  blocks_kept inside = record {
    words = λ block there used k low high m. kept_in_tags granted (state_of word old) (word old.system) sound' same (both block there used).1 used k low
        high (record { granted = inside block there used k low high; aligned = m }) (not_in_free sound (both block there used).0 used k (omega arith) high);
    heads = λ block there used.
        let b = both block there used in let l = located block.at (segments_of word old) b.0 in
        let l' = located block.at (segments_of word new) b.1 in
        let p = of_located (IsSegment (regions old.system) (word old.system)) l sound.segments in
        let p' = of_located (IsSegment (regions new.system) (word new.system)) l' sound'.segments in
        let is = standing (word old.system) Used l.segment.base l.segment.extents (l.segment.base + l.segment.size) p.extents p.tail l.there used in
        let was = standing (word new.system) Used l'.segment.base l'.segment.extents (l'.segment.base + l'.segment.size) p'.extents p'.tail l'.there used in
        let whole = is.size_whole in
        ap (λ w. w / 2) was.head ∙ (half block.size was.before is.before (omega arith) ∙ ap (λ w. w / 2) (sym is.head));
  }

pub blocks_law_tags : {A : Type 0} {regions : A → List Grant} {word : A → ℕ → ℕ} {old new : Dlmalloc A} → IsSound regions word old → IsSound regions word new →
    OnlyOwnOrTagsChange (regions old.system) (state_of word old) (state_of word new) (word old.system) (word new.system) →
    (blocks : List Extent) → AreInBoth (state_of word old) (state_of word new) blocks → KeepsBlocks blocks (word old.system) (word new.system)
blocks_law_tags {regions} {word} {old} sound sound' same blocks both = blocks_kept sound sound' (regions old.system) same blocks both
    (λ block there used k low high. (used_inside regions word old sound block used (both block there used).0).granted k (omega arith) (omega arith))

-- the same if bytes were given back, and of the words that are still granted only those of tags change
pub blocks_law_still : {A : Type 0} (regions : A → List Grant) (word : A → ℕ → ℕ) {old : Dlmalloc A} (new : Dlmalloc A) →
    IsSound regions word old → IsSound regions word new →
    OnlyOwnOrTagsChange (regions new.system) (state_of word old) (state_of word new) (word old.system) (word new.system) →
    (blocks : List Extent) → AreInBoth (state_of word old) (state_of word new) blocks → KeepsBlocks blocks (word old.system) (word new.system)
blocks_law_still regions word new sound sound' same blocks both = blocks_kept sound sound' (regions new.system) same blocks both
    (λ block there used k low high. (used_inside regions word new sound' block used (both block there used).1).granted k (omega arith) (omega arith))

pub blocks_law : {A : Type 0} {regions : A → List Grant} {word : A → ℕ → ℕ} {old new : Dlmalloc A} → IsSound regions word old → IsSound regions word new →
    OnlyOwnChange (regions old.system) (state_of word old) (state_of word new) (word old.system) (word new.system) →
    (blocks : List Extent) → AreInBoth (state_of word old) (state_of word new) blocks → KeepsBlocks blocks (word old.system) (word new.system)
blocks_law sound sound' same blocks both = blocks_law_tags sound sound' (λ k inside was own recorded. same k inside was own) blocks both

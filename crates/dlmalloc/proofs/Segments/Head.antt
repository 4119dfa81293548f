-- Where the head segment is, and what is beside its top.
use Rattle.dlmalloc.proofs.Names.{◌≡◌, ℕ, ◌+◌, ◌-◌, ◌<◌, ◌≤◌, ◌⊎◌, inl, inr, Bool, true, false, ◌==◌, if◌then◌else◌, List, [], ◌∷◌, map, IsTrue, Some, refl, sym, ◌∙◌, ap, arith, nat_le, nat_tests, Grant, is_granted, Extent, Used, Top, Foot, extent_at, HeapState, Segment, extents_in, in_segments, is_behind, granted, is_counted, staying, passed, counted, spans, segments_of, state_of, AreTold, IsSound, Dlmalloc}
use Rattle.dlmalloc.proofs.Segments.HeadTold.{bare_head}
use Rattle.dlmalloc.specs.Granted.{is_behind_head}
use Rattle.dlmalloc.proofs.Extents.Lookup.{extent, the_extent}
use Rattle.dlmalloc.proofs.Segments.Among.{located}
use Rattle.dlmalloc.proofs.Grants.BehindHead.{behind_means}
use Rattle.dlmalloc.proofs.Segments.HeadTop.{top_part, top_segment, ends}
use Rattle.dlmalloc.proofs.Laws.{used_inside, used_apart}
use Rattle.dlmalloc.proofs.Extents.Top.{is_top, top_among, foot_among}

-- ---- where the first of some segments is

abbrev pub first_base : List Segment → ℕ
first_base [] = 0
first_base (segment ∷ segments) = segment.base

abbrev pub first_size : List Segment → ℕ
first_size [] = 0
first_size (segment ∷ segments) = segment.size

abbrev pub HasSameFirst : List Segment → List Segment → Type 0
HasSameFirst one other = (first_base one ≡ first_base other) × (first_size one ≡ first_size other)

-- other extents leave it where it is
pub first_changed : (change : List Extent → List Extent) (segments : List Segment) → HasSameFirst (in_segments change segments) segments
first_changed change [] = (refl, refl)
first_changed change (segment ∷ segments) = (refl, refl)

-- and so do segments that are as long at the same places
pub first_spans : (one other : HeapState) → spans one ≡ spans other → HasSameFirst one.segments other.segments
first_spans one other same = (
  sym (bare one.segments).0 ∙ (ap first_base same ∙ (bare other.segments).0),
  sym (bare one.segments).1 ∙ (ap first_size same ∙ (bare other.segments).1),
)
  where
    bare : (segments : List Segment) → HasSameFirst (map {B = Segment} (λ segment. record segment { extents = [] }) segments) segments
    bare [] = (refl, refl)
    bare (segment ∷ segments) = (refl, refl)

-- a count of freed chunks does too
pub first_counted : (frees parts : Bool) (heap : HeapState) (at : ℕ) → HasSameFirst (counted frees parts heap at).segments heap.segments
first_counted frees parts heap at = count (is_counted heap at) (nat_le heap.countdown 1) frees
  where
    stays : (segments : List Segment) → HasSameFirst (staying parts segments) segments
    stays [] = (refl, refl)
    stays (head ∷ rest) = (refl, refl)

    count : (a b frees : Bool) → HasSameFirst (if a then (if b then passed frees parts heap
        else record heap { countdown = heap.countdown - 1 }) else heap).segments heap.segments
    count true true true = stays heap.segments
    count a b frees = (refl, refl)

-- a grant after it makes it longer
pub first_granted : (grant : Grant) (n : ℕ) (heap : HeapState) → is_behind_head grant heap.segments ≡ true → (first_base
    (granted grant n heap).segments ≡ first_base heap.segments) × (first_size (granted grant n heap).segments ≡ first_size heap.segments + grant.size)
first_granted grant n heap test = go heap.segments test
  where
    go : (segments : List Segment) → is_behind_head grant segments ≡ true →
        (first_base (granted grant n (record heap { segments = segments })).segments ≡ first_base segments)
        × (first_size (granted grant n (record heap { segments = segments })).segments ≡ first_size segments + grant.size)
    go [] is = absurd (cc)
    go (head ∷ rest) is = let behind : is_behind grant head ≡ true = is in rw behind (refl, refl)

-- ---- the head segment of a heap

-- the test of a grant goes by the fields
pub behind_first : {A : Type 0} (word : A → ℕ → ℕ) (heap : Dlmalloc A) (grant : Grant) → 0 < heap.size →
    is_behind grant (bare_head heap) ≡ true → is_behind_head grant (segments_of word heap) ≡ true
behind_first word heap grant some test = let there : (heap.size == 0) ≡ false = grind (arith, nat_tests) in rw there test

module _ {A : Type 0} {regions : A → List Grant} {word : A → ℕ → ℕ} {heap : Dlmalloc A} (sound : IsSound regions word heap) where
  pub first_told : (heap.size ≡ first_size (segments_of word heap)) × (0 < heap.size → heap.base ≡ first_base (segments_of word heap))
  first_told = go (segments_of word heap) sound.told
    where
      go : (segments : List Segment) → AreTold (word heap.system) heap segments →
          (heap.size ≡ first_size segments) × (0 < heap.size → heap.base ≡ first_base segments)
      go [] told = (told, λ some. omega arith)
      go (segment ∷ segments) told = (told.2, λ some. told.1)

  -- a grant that is after it
  pub first_end : (grant : Grant) → is_behind_head grant (segments_of word heap) ≡ true → grant.base ≡ heap.base + heap.size
  first_end grant test = go (segments_of word heap) sound.told test
    where
      go : (segments : List Segment) → AreTold (word heap.system) heap segments → is_behind_head grant segments ≡ true → grant.base ≡ heap.base + heap.size
      go [] told is = absurd (cc)
      go (segment ∷ segments) told is = let means = behind_means grant segment is in omega arith

  -- the top is where the field says
  pub top_place : {at : ℕ} {size : ℕ} → extent_at at (extents_in (state_of word heap)) ≡ Some (extent at size Top) → at ≡ heap.top
  top_place {at} there = let l = located at (segments_of word heap) there in (is_top sound l.front l.segment l.back l.is l.there).1

  module _ (some : 0 < heap.size) where
    -- its bytes are granted
    pub head_granted : (k : ℕ) → heap.base ≤ k → k < heap.base + heap.size → IsTrue (is_granted (regions heap.system) k)
    head_granted k low high =
        let is = top_segment sound some in
        (top_part sound some).run.covered k (omega arith) (omega arith)

    -- what is in use ends before the top, or is beyond the segment
    pub beside_top : {used : Extent} → used.kind ≡ Used → extent_at used.at (extents_in (state_of word heap)) ≡ Some used →
        (used.at + used.size ≤ heap.top) ⊎ (heap.base + heap.size ≤ used.at)
    beside_top {used} is there =
        elim (used_apart regions word heap sound used (extent heap.top heap.top_size Top) there top
        (λ same. no_top (kind_of (extent heap.top heap.top_size Top) same top))) [
          | inl before ↦ inl before
          | inr behind ↦ elim (used_apart regions word heap sound used (extent (heap.top + heap.top_size) 80 Foot) there foot
              (λ same. no_foot (kind_of (extent (heap.top + heap.top_size) 80 Foot) same foot))) [
                | inl less ↦ (let low : heap.top + heap.top_size ≤ used.at = behind in
                    let high : used.at + used.size ≤ heap.top + heap.top_size = less in absurd (omega (arith, long)))
                | inr more ↦ (let low : heap.top + heap.top_size + 80 ≤ used.at = more in inr (omega (arith, ends sound some)))
              ]
        ]
      where
        top : extent_at heap.top (extents_in (state_of word heap)) ≡ Some (extent heap.top heap.top_size Top)
        top = top_among sound some

        foot : extent_at (heap.top + heap.top_size) (extents_in (state_of word heap)) ≡ Some (extent (heap.top + heap.top_size) 80 Foot)
        foot = foot_among sound some

        long : 32 ≤ used.size
        long = (used_inside regions word heap sound used is there).long

        kind_of : (other : Extent) → used.at ≡ other.at → extent_at other.at (extents_in (state_of word heap)) ≡ Some other → Used ≡ other.kind
        kind_of other same found = sym is ∙ ap (λ e. e.kind) (the_extent (sym there ∙ (ap (λ a. extent_at a (extents_in (state_of word heap))) same ∙ found)))

        no_top : Used ≡ Top → ⊥
        no_top same = cc

        no_foot : Used ≡ Foot → ⊥
        no_foot same = cc

-- heaps with the same first segment have the same head
pub same_head : {A : Type 0} {regions : A → List Grant} {word : A → ℕ → ℕ} {one : Dlmalloc A} (other : Dlmalloc A) → IsSound regions word one →
    IsSound regions word other → 0 < one.size → HasSameFirst (segments_of word other) (segments_of word one) →
    (other.base ≡ one.base) × (other.size ≡ one.size)
same_head {one} other sound_one sound_other some same =
    let told = first_told sound_one in let told_other = first_told sound_other in
    let size : other.size ≡ one.size = told_other.0 ∙ (same.1 ∙ sym told.0) in
    (told_other.1 (omega arith) ∙ (same.0 ∙ sym (told.1 some)), size)

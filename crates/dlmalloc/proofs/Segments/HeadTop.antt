-- The head segment ends with the top and its foot.
use Rattle.dlmalloc.proofs.Names.{◌≡◌, ℕ, ◌+◌, ◌-◌, ◌%◌, ◌^◌, ◌<◌, ◌≤◌, inr, true, false, ◌&&◌, ◌==◌, List, [], ◌∷◌, ◌++◌, Some, None, refl, sym, ◌∙◌, ap, subst, arith, append_assoc, dec_lt, AllByRecursion, nat_tests, Grant, IsWordOf, Extent, Kind, Used, Top, Foot, head_of, ends_segment, extent_at, is_used, is_behind, is_before, Tiles, last_kind, extents_in, IsFlaggedRun, IsSegment, AreSegments, IsApartFrom, AreApart, AreRecords, segments_of, state_of, AreTold, IsSound, AreChunks, Dlmalloc, IsRunOf}
use Rattle.dlmalloc.proofs.Extents.Lookup.{extent, found_here, found_later}
use Rattle.dlmalloc.proofs.Extents.Tiling.{sized, tiles_le, plain_chunk, tiles_kept, tiles_append}
use Rattle.dlmalloc.proofs.Moves.OfLists.{last_append}
use Rattle.dlmalloc.proofs.Extents.OneMoreUsed.{none_outside}
use Rattle.dlmalloc.proofs.Extents.FromWords.{are_chunks, behind_top}
use Rattle.dlmalloc.proofs.Segments.HeadTold.{IsHead, bare_head, head_is}
use Rattle.dlmalloc.proofs.Segments.Among.{extents_all}
use Rattle.dlmalloc.proofs.Extents.RunReplaced.{run_of, run_part, run_tail}
use Rattle.dlmalloc.proofs.Extents.Top.{is_top, top_among}

-- a heap with no segment
pub no_segments : {A : Type 0} (word : A → ℕ → ℕ) (heap : Dlmalloc A) → heap.size ≡ 0 → segments_of word heap ≡ []
no_segments word heap none = let test : (heap.size == 0) ≡ true = grind (arith, nat_tests) in rw test refl

-- if an extent is found, there is one
pub some_segment : {A : Type 0} (word : A → ℕ → ℕ) (heap : Dlmalloc A) (k : ℕ) {one : Extent} →
    extent_at k (extents_all (segments_of word heap)) ≡ Some one → 0 < heap.size
some_segment word heap k {one} there = elim (dec_lt 0 heap.size) [
  | yes some ↦ some
  | no none ↦ absurd (let gone : extent_at k [] ≡ Some one = ap (λ segments. extent_at k (extents_all segments))
      (sym (no_segments word heap (omega arith))) ∙ there in cc)
]

-- a top and its foot, as their heads describe them
abbrev pub top_of : ℕ → ℕ → List Extent
top_of at size = extent at size Top ∷ extent (at + size) 80 Foot ∷ []

pub top_stands : (words : ℕ → ℕ) {before : Kind} (at size : ℕ) → before ≡ Used → at % 16 ≡ 0 → size % 16 ≡ 0 → 16 ≤ size →
    words (at + 8) ≡ size + 1 → words (at + size + 8) ≡ 80 → Tiles words before at (top_of at size) (at + size + 80)
top_stands words at size used place whole long head foot = (
  refl,
  plain_chunk place (whole, long) used (head ∙ (omega arith ∙ ap (λ k. head_of size (is_used k) false) (sym used))) (λ free. cc) (λ is. cc),
  (
    refl,
    plain_chunk (omega arith) refl refl foot (λ free. cc) (λ is. cc),
    refl,
  ),
)

-- ---- the head segment

module _ {A : Type 0} {regions : A → List Grant} {word : A → ℕ → ℕ} {heap : Dlmalloc A} (sound : IsSound regions word heap) (some : 0 < heap.size) where
  abbrev pub top_run : IsRunOf (word heap.system) (segments_of word heap) heap.top (heap.top + heap.top_size) (extent heap.top heap.top_size Top ∷ [])
  top_run = run_of (regions heap.system) (word heap.system) (segments_of word heap) sound.segments (top_among sound some)

  pub top_part : IsSegment (regions heap.system) (word heap.system) top_run.segment
  top_part = run_part (regions heap.system) sound.segments top_run

  -- nothing of the chunks is found at the top, nor above it
  pub none_from_top : (k : ℕ) → heap.top ≤ k → extent_at k top_run.first ≡ None
  none_from_top k above = none_outside (word heap.system) Used top_run.segment.base top_run.first heap.top k (inr above) top_run.first_stand

  pub top_front : top_run.front ≡ []
  top_front = (is_top sound top_run.front top_run.segment top_run.back top_run.is {at = heap.top} {size = heap.top_size}
      (ap (extent_at heap.top) top_run.extents ∙ (found_later heap.top top_run.first (extent heap.top heap.top_size Top ∷ top_run.last)
      (none_from_top heap.top (omega arith)) ∙ found_here (extent heap.top heap.top_size Top) top_run.last))).0

  pub top_segment : IsHead heap top_run.segment
  top_segment = head_is word heap top_run.front top_run.segment top_run.back top_front top_run.is sound.told

  pub top_last : (top_run.last ≡ extent (top_run.segment.base + top_run.segment.size - 80) 80
      Foot ∷ []) × (heap.top + heap.top_size + 80 ≡ top_run.segment.base + top_run.segment.size)
  top_last = behind_top (word heap.system) (heap.top + heap.top_size) top_run.last (top_run.segment.base + top_run.segment.size) top_run.last_stand
      (run_tail (regions heap.system) sound.segments top_run)

  -- it is the first of all, and the others are apart from it
  pub head_first : segments_of word heap ≡ top_run.segment ∷ top_run.back
  head_first = top_run.is ∙ ap (λ front. front ++ top_run.segment ∷ top_run.back) top_front

  pub behind_parts : AreSegments (regions heap.system) (word heap.system) top_run.back
  behind_parts = (subst (AreSegments (regions heap.system) (word heap.system)) head_first sound.segments).1

  pub head_beside : AllByRecursion (IsApartFrom top_run.segment) top_run.back
  head_beside = (subst AreApart head_first sound.apart).0

  pub behind_apart : AreApart top_run.back
  behind_apart = (subst AreApart head_first sound.apart).1

  pub behind_told : AreRecords (word heap.system) heap.next top_run.back
  behind_told = (subst (AreTold (word heap.system) heap) head_first sound.told).5

  -- a grant is after it, or before it, as its fields say
  pub grant_behind_head : (grant : Grant) → is_behind grant top_run.segment ≡ is_behind grant (bare_head heap)
  grant_behind_head grant = λ i. grant.base == (sym top_segment.base) i + (sym top_segment.size) i &&
      (grant.flags % 2 == 0 && grant.flags == (sym top_segment.flags) i)

  pub grant_before_head : (grant : Grant) → is_before grant top_run.segment ≡ is_before grant (bare_head heap)
  grant_before_head grant = λ i. (sym top_segment.base) i == grant.base + grant.size && (grant.flags % 2 == 0 && grant.flags == (sym top_segment.flags) i)

  -- its extents: chunks, the top, and the foot
  pub head_chunks : AreChunks top_run.first
  head_chunks = are_chunks (word heap.system) Used top_run.segment.base top_run.first (extent heap.top heap.top_size Top) top_run.last
      (top_run.segment.base + top_run.segment.size) (λ is. cc) (subst (λ es. Tiles (word heap.system) Used top_run.segment.base es
      (top_run.segment.base + top_run.segment.size)) top_run.extents top_part.extents)

  pub head_extents : top_run.segment.extents ≡ top_run.first ++ top_of heap.top heap.top_size
  head_extents = top_run.extents ∙ ap (λ es. top_run.first ++ extent heap.top heap.top_size Top ∷ es) (top_last.0 ∙ (λ i. extent (foot_at i) 80 Foot ∷ []))
    where
      foot_at : top_run.segment.base + top_run.segment.size - 80 ≡ heap.top + heap.top_size
      foot_at = omega (arith, top_last.1)

  pub extents_all_are : extents_in (state_of word heap) ≡ top_run.first ++ (top_of heap.top heap.top_size ++ extents_all top_run.back)
  extents_all_are = ap extents_all head_first ∙ (ap (λ es. es ++ extents_all top_run.back) head_extents
      ∙ append_assoc top_run.first (top_of heap.top heap.top_size) (extents_all top_run.back))

  pub low_top : top_run.segment.base ≤ heap.top
  low_top = tiles_le (word heap.system) Used top_run.segment.base top_run.first heap.top top_run.first_stand

  -- with other extents from the top on it is a segment, if the words before them stay
  pub head_with : {others : List Grant} (new : ℕ → ℕ) {size : ℕ} (more : List Extent) →
      IsFlaggedRun others top_run.segment.base size top_run.segment.flags → top_run.segment.base + size < 2 ^ 64 → 96 < size →
      ((k : ℕ) → top_run.segment.base < k → k ≤ heap.top → k % 8 ≡ 0 → new k ≡ word heap.system k) →
      Tiles new (last_kind Used top_run.first) heap.top more (top_run.segment.base + size) →
      ends_segment (last_kind (last_kind Used top_run.first) more) ≡ true →
      IsSegment others new (record { base = top_run.segment.base; size = size; flags = top_run.segment.flags; extents = top_run.first ++ more })
  head_with new {size} more run high long kept stand tail = record {
    run = run;
    low = top_part.low;
    high = high;
    long = long;
    extents = tiles_append new Used top_run.segment.base top_run.first more heap.top (top_run.segment.base + size)
        (tiles_kept (word heap.system) new Used top_run.segment.base top_run.first heap.top top_run.first_stand
        (λ k above below m free. kept k above below m)) stand;
    tail = ap ends_segment (last_append Used top_run.first more) ∙ tail;
  }

  pub top_low : heap.base ≤ heap.top
  top_low = omega (arith, low_top, top_segment.base)

  pub top_whole : heap.top % 16 ≡ 0
  top_whole = top_run.here.1.whole

  pub top_sizes : (heap.top_size % 16 ≡ 0) × (16 ≤ heap.top_size)
  top_sizes = sized Top heap.top_size top_run.here.1.size

  pub ends : heap.top + heap.top_size + 80 ≡ heap.base + heap.size
  ends = omega (arith, top_last.1, top_segment.base, top_segment.size)

  pub top_word : IsWordOf (regions heap.system) (heap.top + 8)
  top_word = record { granted = top_part.run.covered (heap.top + 8) (omega (arith, low_top)) (omega (arith, top_last.1)); aligned = omega (arith, top_whole) }

  pub head_low : 4096 ≤ heap.base
  head_low = omega (arith, top_part.low, top_segment.base)

  pub head_small : heap.base + heap.size < 2 ^ 64
  head_small = omega (arith, top_part.high, top_segment.base, top_segment.size)

  -- a word of the head segment
  pub head_word : (k : ℕ) → heap.base ≤ k → k < heap.base + heap.size → k % 8 ≡ 0 → IsWordOf (regions heap.system) k
  head_word k low high m = record {
    granted = top_part.run.covered k (omega (arith, top_segment.base))
        (omega (arith, top_segment.base, top_segment.size));
    aligned = m;
  }

  pub end_whole : (heap.base + heap.size) % 16 ≡ 0
  end_whole = omega (arith, ends, top_whole, top_sizes.0)

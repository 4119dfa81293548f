-- A grant becomes the head segment: what was the top is freed, and a record after it describes the segment that it is
-- in.
use Rattle.dlmalloc.proofs.Names.{◌≡◌, ◌≢◌, ℕ, ◌+◌, ◌-◌, ◌%◌, ◌<◌, ◌≤◌, ◌⊎◌, inl, inr, Bool, true, false, not, ◌&&◌, ◌==◌, nat_lt, if◌then◌else◌, List, [], ◌∷◌, ◌++◌, Some, refl, sym, ◌∙◌, ap, subst, arith, append_assoc, dec_lt, AllByRecursion, nat_tests, flat_map, list_any, flat_map-append, Grant, IsWordOf, Extent, Used, Free, Top, Record, head_of, extent_at, is_used, Tiles, last_kind, Segment, trim_threshold, opened, is_behind, is_before, is_put_before, granted, IsFreshGrant, HasSameUsed, IsRecordAt, OnlyTagsChange, IsFlaggedRun, IsSegment, IsApartFrom, record_of, AreRecords, IsFreeAt, FreeMoves, segments_of, state_of, AreTold, IsSound, IsRunOf, Dlmalloc, SegmentRecord}
use Rattle.dlmalloc.specs.Granted.{closed, without_top}
use Rattle.dlmalloc.proofs.Extents.Lookup.{extent, found_here, found_later, nat_same}
use Rattle.dlmalloc.proofs.Segments.HeadTold.{IsHead, bare_head}
use Rattle.dlmalloc.proofs.Segments.Among.{extents_all, apart_back}
use Rattle.dlmalloc.proofs.Segments.HeadTop.{top_of, top_run, top_part, top_segment, top_last, top_sizes, top_whole, low_top, ends, head_with, grant_behind_head, head_first, head_beside, behind_apart, head_chunks, head_extents, extents_all_are, none_from_top}
use Rattle.dlmalloc.proofs.Grants.Opened.{grant_apart, apart_grant, parts_kept, told_kept, opened_segment}
use Rattle.dlmalloc.proofs.Segments.Exchange.{HasNo, none_of, Exchange, exchanged_read, exchanged_new, exchanged_used, exchanged_free, exchanged_sound}
use Rattle.dlmalloc.proofs.Extents.Top.{head_tags}
use Rattle.dlmalloc.proofs.Segments.WordsKept.{IsOutside}
use Rattle.dlmalloc.proofs.Grants.TopLeft.{closed_chunks, left, left_free, in_left, left_there, place, record_place, left_stands, left_tail, left_record}

-- ---- the heap

-- a heap with a grant as its head segment, and a record at an address
abbrev pub new_head : {A : Type 0} → Dlmalloc A → Grant → A → ℕ → Dlmalloc A
new_head heap grant system at = record heap {
  system = system;
  base = grant.base;
  size = grant.size;
  flags = grant.flags;
  next = at + 16;
  top = grant.base;
  top_size = grant.base + grant.size - 80 - grant.base;
  trim_check = trim_threshold;
}

-- what a record says of the head segment
abbrev pub record_of_head : {A : Type 0} → Dlmalloc A → SegmentRecord
record_of_head heap = record { base = heap.base; size = heap.size; next = heap.next; flags = heap.flags }

module _ {A : Type 0} {regions : A → List Grant} {word : A → ℕ → ℕ} {heap : Dlmalloc A} (sound : IsSound regions word heap) (some : 0 < heap.size) where
  -- the record is in the head segment
  pub bounds_of : {at : ℕ} → at ≡ (if nat_lt heap.top_size 32 then heap.top else heap.top + heap.top_size) →
      (heap.top ≤ at) × (at + 80 ≤ heap.base + heap.size) × (at % 16 ≡ 0)
  bounds_of {at} is = go (nat_lt heap.top_size 32) is
    where
      go : (b : Bool) → at ≡ (if b then heap.top else heap.top + heap.top_size) → (heap.top ≤ at) × (at + 80 ≤ heap.base + heap.size) × (at % 16 ≡ 0)
      go true is = (omega arith, omega (arith, ends sound some), omega (arith, top_whole sound some))
      go false is = (omega arith, omega (arith, ends sound some), omega (arith, top_whole sound some, (top_sizes sound some).0))

  -- the grant is beside the head segment
  pub beside_head : (grant : Grant) → IsFreshGrant (regions heap.system) (segments_of word heap) grant →
      (heap.base + heap.size ≤ grant.base) ⊎ (grant.base + grant.size ≤ heap.base)
  beside_head grant fresh =
      let is = top_segment sound some in
      let apart = (subst (AllByRecursion (λ segment. IsApartFrom segment (opened grant))) (head_first sound some) fresh.apart).0 in
      elim apart [ inl before ↦ inl (omega arith) | inr behind ↦ inr (omega arith) ]

-- What is stored if a grant becomes the head segment: the heads of its top and of its foot, the record that describes
-- the segment that was the head, and the word after the chunk that its top was, if that has more than 16 bytes.
pub record IsNewHead {A : Type 0} (regions : A → List Grant) (word : A → ℕ → ℕ) (heap : Dlmalloc A) (grant : Grant) (system : A) (at : ℕ) : Type 0 where
  pub fresh : IsFreshGrant (regions heap.system) (segments_of word heap) grant
  pub some : 0 < heap.size
  pub beside : is_behind grant (bare_head heap) ≡ false
  pub no_join : is_put_before grant (segments_of word heap) ≡ false
  pub same : regions system ≡ regions heap.system
  pub at_is : at ≡ (if nat_lt heap.top_size 32 then heap.top else heap.top + heap.top_size)
  pub head : word system (grant.base + 8) ≡ grant.base + grant.size - 80 - grant.base + 1
  pub foot : word system (grant.base + grant.size - 72) ≡ 80
  pub recorded : IsRecordAt (word system) at (record_of_head heap) (heap.base + heap.size) (at == heap.top)
  pub left_foot : 32 ≤ heap.top_size → word system (heap.top + heap.top_size) ≡ heap.top_size
  pub kept : (k : ℕ) → IsWordOf (regions heap.system) k → (k ≤ at) ⊎ (heap.base + heap.size ≤ k) → (k ≡ heap.top + heap.top_size → heap.top_size < 32) →
      k ≢ grant.base + 8 → k ≢ grant.base + grant.size - 72 → word system k ≡ word heap.system k

module _ {A : Type 0} {regions : A → List Grant} {word : A → ℕ → ℕ} {heap : Dlmalloc A} {grant : Grant} {system : A} {at : ℕ}
    (sound : IsSound regions word heap) (stored : IsNewHead regions word heap grant system at) where
  open stored use {fresh, some, beside, no_join, same, at_is, head, foot, recorded, left_foot, kept}

  abbrev new : Dlmalloc A
  new = new_head heap grant system at

  abbrev it : IsRunOf (word heap.system) (segments_of word heap) heap.top (heap.top + heap.top_size) (extent heap.top heap.top_size Top ∷ [])
  it = top_run sound some

  old_part : IsSegment (regions heap.system) (word heap.system) it.segment
  old_part = top_part sound some

  was : IsHead heap it.segment
  was = top_segment sound some

  ends_at : heap.top + heap.top_size + 80 ≡ it.segment.base + it.segment.size
  ends_at = (top_last sound some).1

  sizes : (heap.top_size % 16 ≡ 0) × (16 ≤ heap.top_size)
  sizes = top_sizes sound some

  low_head : it.segment.base ≤ heap.top
  low_head = low_top sound some

  bounds : (heap.top ≤ at) × (at + 80 ≤ heap.base + heap.size) × (at % 16 ≡ 0)
  bounds = bounds_of sound some at_is

  -- the record takes the place of the whole top, or stands after it
  abbrev small : Bool
  small = at == heap.top

  pub where_is : ((heap.top_size == 16) ≡ small) × (at ≡ place small heap.top heap.top_size)
  where_is = record_place at heap.top heap.top_size at_is sizes.0 sizes.1

  abbrev rest : List Extent
  rest = left small heap.top heap.top_size

  abbrev now : Segment
  now = record { base = it.segment.base; size = it.segment.size; flags = it.segment.flags; extents = it.first ++ rest }

  grant_beside : IsApartFrom it.segment (opened grant)
  grant_beside = (grant_apart system sound fresh same some).0

  -- a word of the segment before the record is none of those written
  inside_kept : (k : ℕ) → it.segment.base ≤ k → k ≤ heap.top + 8 → k ≤ at → k % 8 ≡ 0 → word system k ≡ word heap.system k
  inside_kept k low below before m = kept k (record { granted = old_part.run.covered k low (omega (arith, ends_at, sizes.1)); aligned = m })
      (inl before) (λ is. absurd (omega (arith, sizes.1))) (λ is. elim (grant_beside)
      [ inl a ↦ omega (arith, ends_at, sizes.1) | inr b ↦ omega (arith, fresh.long) ])
      (λ is. elim (grant_beside) [ inl a ↦ omega (arith, ends_at, sizes.1, fresh.long) | inr b ↦ omega (arith, fresh.long) ])

  rest_stand : Tiles (word system) (last_kind Used it.first) heap.top rest (it.segment.base + it.segment.size)
  rest_stand = left_stands (word system) it.here.1 ends_at small where_is.0
      (subst (λ a. IsRecordAt (word system) a (record_of_head heap) (it.segment.base + it.segment.size) small) where_is.1
      (subst (λ e. IsRecordAt (word system) at (record_of_head heap) e small) (λ i. was.base i + was.size i) recorded)) was_top
      (λ large. left_foot (let other = where_is.0 ∙ large in let units = sizes.0 in let long = sizes.1 in grind (arith, nat_tests)))
    where
      was_top : small ≡ false → word system (heap.top + 8) ≡ heap.top_size + 1
      was_top large =
          let there : at ≡ heap.top + heap.top_size = where_is.1 ∙ ap (λ b. place b heap.top heap.top_size) large in
          inside_kept (heap.top + 8) (omega (arith, low_head)) (omega arith) (omega (arith, sizes.1)) (omega (arith, top_whole sound some))
          ∙ (it.here.1.head ∙ (ap (λ k. head_of heap.top_size (is_used k) false) it.here.1.kind ∙ omega arith))

  is_now : IsSegment (regions system) (word system) now
  is_now = head_with sound some (word system) rest (subst (λ rs. IsFlaggedRun rs it.segment.base it.segment.size it.segment.flags) (sym same) old_part.run)
      old_part.high old_part.long (λ k above below m. inside_kept k (omega arith) (omega arith) (omega (arith, bounds.0)) m) rest_stand
      (left_tail (last_kind Used it.first) heap.top heap.top_size small)

  outside_kept : (k : ℕ) → IsWordOf (regions heap.system) k → IsOutside it.segment k → IsOutside (opened grant) k → word system k ≡ word heap.system k
  outside_kept k inside first second = kept k inside
      (elim first [ inl below ↦ inl (omega (arith, low_head, bounds.0)) | inr above ↦ inr (omega (arith, was.base, was.size)) ])
      (λ is. absurd (elim first [ inl below ↦ omega (arith, low_head) | inr above ↦ omega (arith, ends_at) ]))
      (λ is. elim second [ inl below ↦ omega (arith, fresh.long) | inr above ↦ omega (arith, fresh.long) ])
      (λ is. elim second [ inl below ↦ omega (arith, fresh.long) | inr above ↦ omega (arith, fresh.long) ])

  abbrev all : List Segment
  all = opened grant ∷ now ∷ it.back

  record_left : extent_at at rest ≡ Some (record_of at (it.segment.base + it.segment.size))
  record_left = subst (λ a. extent_at a rest ≡ Some (record_of a (it.segment.base + it.segment.size))) (sym where_is.1)
      (left_record heap.top heap.top_size sizes.1 ends_at small where_is.0)

  record_there : extent_at at now.extents ≡ Some (record_of at (it.segment.base + it.segment.size))
  record_there = found_later at it.first rest (none_from_top sound some at bounds.0) ∙ record_left

  told_now : AreTold (word system) new all
  told_now = (
    omega (arith, fresh.long),
    refl,
    refl,
    refl,
    (let here = nat_same grant.base in rw here refl),
    (
      omega (arith, bounds.0, low_head, old_part.low),
      recorded.base ∙ was.base,
      recorded.size ∙ was.size,
      recorded.flags ∙ was.flags,
      subst (λ a. extent_at a now.extents ≡ Some (record_of a (it.segment.base + it.segment.size))) back record_there,
      subst (λ p. AreRecords (word system) p it.back) (sym recorded.next) (told_kept system sound fresh same some outside_kept),
    ),
  )
    where
      back : at ≡ at + 16 - 16
      back = omega arith

  abbrev exchange : Exchange regions word heap new
  exchange = record {
    now = all;
    parts = (opened_segment system sound fresh same head foot, (is_now, parts_kept system sound fresh same some outside_kept));
    apart = ((apart_back it.segment (opened grant) grant_beside, apart_grant system sound fresh same some), (head_beside sound some, behind_apart sound some));
    told = told_now;
    some = omega (arith, fresh.long);
    granularity = refl;
    ahead = (opened grant).extents;
    first = it.first;
    less = top_of heap.top heap.top_size;
    more = rest;
    last = extents_all it.back;
    were = extents_all_are sound some;
    are = ap (λ es. (opened grant).extents ++ es) (append_assoc it.first rest (extents_all it.back));
  }

  pub added_used : HasSameUsed (state_of word heap) (state_of word new)
  added_used = exchanged_used sound exchange ((λ is. cc), ((λ is. cc), tt)) ((λ is. cc), ((λ is. cc), tt)) (none_used small)
    where
      none_used : (b : Bool) → HasNo Used (left b heap.top heap.top_size)
      none_used true = ((λ is. cc), tt)
      none_used false = ((λ is. cc), ((λ is. cc), tt))

  -- ---- the free extents

  pub added_free : FreeMoves (state_of word heap) (state_of word new) [] (left_free small heap.top)
  added_free = exchanged_free sound exchange ((λ is. cc), ((λ is. cc), tt)) [] (left_free small heap.top)
      (λ k size found. absurd (none_of Free (top_of heap.top heap.top_size) k ((λ is. cc), ((λ is. cc), tt)) refl found)) (in_left small heap.top heap.top_size)
      (λ k none. absurd none) (λ k came. inr (left_there small heap.top heap.top_size k came))

  top_left : small ≡ false → extent_at heap.top rest ≡ Some (extent heap.top heap.top_size Free)
  top_left large = subst (λ b. extent_at heap.top (left b heap.top heap.top_size) ≡ Some (extent heap.top heap.top_size Free)) (sym large)
      (found_here (extent heap.top heap.top_size Free) (extent (heap.top + heap.top_size) 80 Record ∷ []))

  pub added_rest : small ≡ false → IsFreeAt (state_of word new) heap.top heap.top_size
  added_rest large = exchanged_new sound exchange heap.top (top_left large)

  pub added_sound : IsSound regions word new
  added_sound = exchanged_sound sound exchange ((λ is. cc), ((λ is. cc), tt)) refl refl

  pub added_words : OnlyTagsChange (regions heap.system) (state_of word new) (word heap.system) (word system)
  added_words k inside boundary recording =
      let tags = head_tags added_sound exchange.some k boundary in
      kept k inside out free (λ is. tags.0 (omega arith)) (λ is. tags.1 (omega arith))
    where
      out : (k ≤ at) ⊎ (heap.base + heap.size ≤ k)
      out = elim (dec_lt at k) [
        | no before ↦ inl (omega arith)
        | yes above ↦ elim (dec_lt k (heap.base + heap.size)) [
          | no behind ↦ inr (omega arith)
          | yes within ↦ absurd (recording (record {
            extent = record_of at (it.segment.base + it.segment.size);
            there = exchanged_new sound exchange at record_left;
            is = refl;
            low = above;
            high = omega (arith, was.base, was.size, bounds.1);
          }))
        ]
      ]

      free : k ≡ heap.top + heap.top_size → heap.top_size < 32
      free is = go small refl
        where
          go : (b : Bool) → small ≡ b → heap.top_size < 32
          go true test = (let sixteen = where_is.0 ∙ test in grind (arith, nat_tests))
          go false test = absurd (boundary (record {
            extent = extent heap.top heap.top_size Free;
            there = exchanged_new sound exchange heap.top (top_left test);
            is = inr (refl, is);
          }))

  -- of the grant the heads of the top and of its foot alone are written
  pub added_new : (k : ℕ) → IsWordOf (regions heap.system) k → grant.base ≤ k → k < grant.base + grant.size → k ≢ new.top + 8 →
      k ≢ new.top + new.top_size + 8 → word system k ≡ word heap.system k
  added_new k inside low high not_top not_foot = kept k inside (elim (grant_beside)
      [ inl a ↦ inr (omega (arith, was.base, was.size)) | inr b ↦ inl (omega (arith, low_head, bounds.0)) ]) (λ is. absurd (elim (grant_beside)
      [ inl a ↦ omega (arith, ends_at) | inr b ↦ omega (arith, low_head) ])) (λ is. not_top (omega arith)) (λ is. not_foot (omega arith))

  pub added_state : (n : ℕ) → state_of word new ≡ granted grant n (state_of word heap)
  added_state n =
      (λ i. record (state_of word heap) { segments = segments_now i; trim_check = trim_threshold })
      ∙ (sym after ∙ ap (λ ss. granted grant n (record (state_of word heap) { segments = ss }))
      (sym (head_first sound some)))
    where
      apart : is_behind grant it.segment ≡ false
      apart = grant_behind_head sound some grant ∙ beside

      none : list_any (is_before grant) (it.segment ∷ it.back) ≡ false
      none = (λ i. not (sym apart i) && list_any (is_before grant) (it.segment ∷ it.back)) ∙ (ap (is_put_before grant) (sym (head_first sound some)) ∙ no_join)

      after : granted grant n (record (state_of word heap) { segments = it.segment ∷ it.back }) ≡
          record (state_of word heap) { segments = opened grant ∷ without_top it.segment ∷ it.back; trim_check = trim_threshold }
      after = (let one = apart in let two = none in rw (one, two) refl)

      closed_are : flat_map closed it.segment.extents ≡ it.first ++ rest
      closed_are =
          ap (flat_map closed) (head_extents sound some) ∙ (flat_map-append closed it.first (top_of heap.top heap.top_size)
          ∙ (λ i. closed_chunks it.first (head_chunks sound some) i ++ of_top small where_is.0 i))
        where
          of_top : (b : Bool) → (heap.top_size == 16) ≡ b → flat_map closed (top_of heap.top heap.top_size) ≡ left b heap.top heap.top_size
          of_top true is = rw is refl
          of_top false is = rw is refl

      segments_now : segments_of word new ≡ opened grant ∷ without_top it.segment ∷ it.back
      segments_now = exchanged_read sound exchange ∙ (λ i. opened
          grant ∷ (record { base = it.segment.base; size = it.segment.size; flags = it.segment.flags; extents = (sym closed_are) i }) ∷ it.back)

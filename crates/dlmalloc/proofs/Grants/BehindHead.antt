-- A grant at the end of the head segment makes its top longer.
use Rattle.dlmalloc.proofs.Names.{◌≡◌, ◌≢◌, ℕ, ◌+◌, ◌-◌, ◌<◌, ◌⊎◌, inl, inr, true, List, [], ◌∷◌, ◌++◌, map, Some, refl, sym, ◌∙◌, ap, subst, arith, append_assoc, AllByRecursion, nat_tests, map-append, Grant, IsWordOf, IsWhole, Extent, Used, Free, Top, Foot, extent_at, Tiles, last_kind, Segment, trim_threshold, opened, is_behind, granted, IsFreshGrant, HasSameUsed, OnlyTagsChange, IsFlaggedRun, IsSegment, AreSegments, IsApartFrom, FreeMoves, segments_of, state_of, IsSound, Dlmalloc, AreChunks, IsRunOf}
use Rattle.dlmalloc.specs.Granted.{grown, extended}
use Rattle.dlmalloc.proofs.Extents.Lookup.{extent, nat_same, found_later}
use Rattle.dlmalloc.proofs.Segments.HeadTold.{IsHead, bare_head}
use Rattle.dlmalloc.proofs.Segments.Among.{extents_all}
use Rattle.dlmalloc.proofs.Segments.RegionsMore.{runs_joined}
use Rattle.dlmalloc.proofs.Segments.Exchange.{Exchange, exchanged_read, exchanged_used, exchanged_sound, none_exchanged}
use Rattle.dlmalloc.proofs.Extents.Top.{head_tags}
use Rattle.dlmalloc.proofs.Segments.WordsKept.{IsOutside}
use Rattle.dlmalloc.proofs.Segments.HeadTop.{top_of, top_stands, top_run, top_part, top_segment, top_last, top_low, top_whole, top_sizes, ends, head_word, head_with, grant_behind_head, head_first, behind_parts, head_beside, behind_apart, head_chunks, head_extents, extents_all_are, none_from_top}
use Rattle.dlmalloc.proofs.Grants.Opened.{grant_apart, parts_kept, told_kept}

-- what the test says of a grant at the end of a segment
pub behind_means : (grant : Grant) (segment : Segment) → is_behind grant segment ≡ true →
    (grant.base ≡ segment.base + segment.size) × (grant.flags ≡ segment.flags)
behind_means grant segment test = (grind (arith, nat_tests), grind (arith, nat_tests))

-- chunks stay as they are
map_grown : (more : ℕ) (chunks : List Extent) → AreChunks chunks → map (grown more) chunks ≡ chunks
map_grown more [] are = refl
map_grown more (chunk ∷ chunks) are = λ i. same are.0 i ∷ map_grown more chunks are.1 i
  where
    same : (chunk.kind ≡ Used) ⊎ (chunk.kind ≡ Free) → grown more chunk ≡ chunk
    same (inl is) = rw is refl
    same (inr is) = rw is refl

-- ---- a grant at the end of the head segment makes its top longer

-- the heap whose head segment has the bytes of a grant at its end
abbrev pub extended_heap : {A : Type 0} → Dlmalloc A → Grant → A → Dlmalloc A
extended_heap heap grant system =
    record heap { system = system; size = heap.size + grant.size; top_size = heap.base + (heap.size + grant.size) - 80 - heap.top; trim_check = trim_threshold }

-- What is stored if the head segment gets the bytes of a grant: the heads of the longer top and of its foot.
pub record IsExtended {A : Type 0} (regions : A → List Grant) (word : A → ℕ → ℕ) (heap : Dlmalloc A) (grant : Grant) (system : A) : Type 0 where
  pub fresh : IsFreshGrant (regions heap.system) (segments_of word heap) grant
  pub some : 0 < heap.size
  pub behind : is_behind grant (bare_head heap) ≡ true
  pub whole : AllByRecursion IsWhole (regions heap.system)
  pub same : regions system ≡ regions heap.system
  pub head : word system (heap.top + 8) ≡ heap.base + (heap.size + grant.size) - 80 - heap.top + 1
  pub foot : word system (heap.base + (heap.size + grant.size) - 72) ≡ 80
  pub kept : (k : ℕ) → IsWordOf (regions heap.system) k → k ≢ heap.top + 8 → k ≢ heap.base + (heap.size + grant.size) - 72 → word system k ≡ word heap.system k

module _ {A : Type 0} {regions : A → List Grant} {word : A → ℕ → ℕ} {heap : Dlmalloc A} {grant : Grant} {system : A}
    (sound : IsSound regions word heap) (stored : IsExtended regions word heap grant system) where
  open stored use {fresh, some, behind, whole, same, head, foot, kept}

  begins : grant.base ≡ heap.base + heap.size
  begins = (behind_means grant (bare_head heap) behind).0

  abbrev new : Dlmalloc A
  new = extended_heap heap grant system

  abbrev old_run : IsRunOf (word heap.system) (segments_of word heap) heap.top (heap.top + heap.top_size) (extent heap.top heap.top_size Top ∷ [])
  old_run = top_run sound some

  was : IsHead heap old_run.segment
  was = top_segment sound some

  abbrev length_now : ℕ
  length_now = heap.top_size + grant.size

  length_is : length_now ≡ heap.base + (heap.size + grant.size) - 80 - heap.top
  length_is = omega (arith, ends sound some)

  abbrev more : List Extent
  more = top_of heap.top length_now

  abbrev now : Segment
  now = record { base = old_run.segment.base; size = old_run.segment.size + grant.size; flags = old_run.segment.flags; extents = old_run.first ++ more }

  now_end : heap.top + length_now + 80 ≡ old_run.segment.base + (old_run.segment.size + grant.size)
  now_end = omega (arith, (top_last sound some).1)

  -- words of other segments stay
  outside_kept : (k : ℕ) → IsWordOf (regions heap.system) k → IsOutside old_run.segment k → IsOutside (opened grant) k → word system k ≡ word heap.system k
  outside_kept k inside first second = kept k inside (λ is. elim first [
    | inl below ↦ omega (arith, was.base, top_low sound some)
    | inr above ↦ omega (arith, (top_last sound some).1)
  ]) (λ is. elim second [
    | inl below ↦ omega (arith, begins)
    | inr above ↦ omega (arith, begins)
  ])

  more_stand : Tiles (word system) (last_kind Used old_run.first) heap.top more (old_run.segment.base + (old_run.segment.size + grant.size))
  more_stand =
      let units = fresh.size_aligned in
      let place : heap.top + length_now + 8 ≡ heap.base + (heap.size + grant.size) - 72 = omega (arith, ends sound some) in
      subst (λ end. Tiles (word system) (last_kind Used old_run.first) heap.top more end) now_end
      (top_stands (word system) heap.top length_now old_run.here.1.kind (top_whole sound some) (omega (arith, (top_sizes sound some).0))
      (omega (arith, (top_sizes sound some).1)) (head ∙ ap (λ n. n + 1) (sym length_is)) (ap (word system) place ∙ foot))

  run_now : IsFlaggedRun (regions system) old_run.segment.base (old_run.segment.size + grant.size) old_run.segment.flags
  run_now = subst (λ rs. IsFlaggedRun rs old_run.segment.base (old_run.segment.size + grant.size) old_run.segment.flags) (sym same)
      (runs_joined (begins ∙ (λ i. was.base i + was.size i)) (top_part sound some).run (subst (λ f. IsFlaggedRun (regions heap.system) grant.base grant.size f)
      ((behind_means grant (bare_head heap) behind).1 ∙ was.flags) fresh.run) whole)

  is_now : IsSegment (regions system) (word system) now
  is_now = head_with sound some (word system) more run_now (omega (arith, was.base, was.size, begins)) (omega (arith, (top_part sound some).long))
      (λ k above below m. kept k (head_word sound some k (omega (arith, was.base)) (omega (arith, ends sound some)) m) (λ is. omega arith)
      (λ is. omega (arith, ends sound some))) more_stand refl

  longer_apart : (others : List Segment) → AllByRecursion (IsApartFrom old_run.segment) others →
      AllByRecursion (λ segment. IsApartFrom segment (opened grant)) others →
      AreSegments (regions heap.system) (word heap.system) others → AllByRecursion (IsApartFrom now) others
  longer_apart [] one two parts = tt
  longer_apart (other ∷ others) one two parts = (
    elim (one.0) [
      | inr before ↦ inr before
      | inl behind ↦ elim (two.0) [
        | inl ahead ↦ absurd (omega (arith, was.base, was.size, begins))
        | inr past ↦ inl (omega (arith, was.base, was.size, begins))
      ]
    ],
    longer_apart others one.1 two.1 parts.1,
  )

  where_top : extent_at new.top now.extents ≡ Some (extent new.top new.top_size Top)
  where_top = found_later heap.top old_run.first more (none_from_top sound some heap.top (omega arith))
      ∙ (let here = nat_same heap.top in rw here refl ∙ (λ i. Some (extent heap.top (length_is i) Top)))

  abbrev it : Exchange regions word heap new
  it = record {
    now = now ∷ old_run.back;
    parts = (is_now, parts_kept system sound fresh same some outside_kept);
    apart = (
      longer_apart old_run.back (head_beside sound some) (grant_apart system sound fresh same some).1
          (behind_parts sound some),
      behind_apart sound some,
    );
    told = (omega arith, was.base, ap (λ n. n + grant.size) was.size, was.flags, where_top, told_kept system sound fresh same some outside_kept);
    some = omega arith;
    granularity = refl;
    ahead = [];
    first = old_run.first;
    less = top_of heap.top heap.top_size;
    more = more;
    last = extents_all old_run.back;
    were = extents_all_are sound some;
    are = append_assoc old_run.first more (extents_all old_run.back);
  }

  pub extended_used : HasSameUsed (state_of word heap) (state_of word new)
  extended_used = exchanged_used sound it ((λ is. cc), ((λ is. cc), tt)) tt ((λ is. cc), ((λ is. cc), tt))

  pub extended_sound : IsSound regions word new
  extended_sound = exchanged_sound sound it ((λ is. cc), ((λ is. cc), tt)) refl refl

  pub extended_state : (n : ℕ) → state_of word new ≡ granted grant n (state_of word heap)
  extended_state n =
      (λ i. record (state_of word heap) { segments = segments_now i; trim_check = trim_threshold })
      ∙ (sym after ∙ ap (λ ss. granted grant n (record (state_of word heap) { segments = ss }))
      (sym (head_first sound some)))
    where
      here : is_behind grant old_run.segment ≡ true
      here = grant_behind_head sound some grant ∙ behind

      after : granted grant n (record (state_of word heap) { segments = old_run.segment ∷ old_run.back }) ≡
          record (state_of word heap) { segments = extended grant.size old_run.segment ∷ old_run.back; trim_check = trim_threshold }
      after = (let test = here in rw test refl)

      grown_are : map (grown grant.size) old_run.segment.extents ≡ old_run.first ++ more
      grown_are =
          let place : heap.top + heap.top_size + grant.size ≡ heap.top + length_now = omega arith in
          ap (map (grown grant.size)) (head_extents sound some) ∙ (map-append (grown grant.size) old_run.first (top_of heap.top heap.top_size)
          ∙ (λ i. map_grown grant.size old_run.first (head_chunks sound some) i ++ (extent heap.top length_now Top ∷ extent (place i) 80 Foot ∷ [])))

      segments_now : segments_of word new ≡ extended grant.size old_run.segment ∷ old_run.back
      segments_now = exchanged_read sound it ∙ (λ i. (record {
        base = old_run.segment.base;
        size =
            old_run.segment.size + grant.size;
        flags = old_run.segment.flags;
        extents = (sym grown_are) i;
      }) ∷ old_run.back)

  pub extended_words : OnlyTagsChange (regions heap.system) (state_of word new) (word heap.system) (word system)
  extended_words k inside boundary recorded =
      let tags = head_tags extended_sound it.some k boundary in
      kept k inside (λ is. tags.0 (omega arith)) (λ is. tags.1 (omega (arith, ends sound some)))

  -- no free extent but the top changes
  pub extended_free : FreeMoves (state_of word heap) (state_of word new) [] []
  extended_free = none_exchanged sound it tt ((λ is. cc), ((λ is. cc), tt)) ((λ is. cc), ((λ is. cc), tt))

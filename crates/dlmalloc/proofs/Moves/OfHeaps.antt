-- What a move leaves of a heap.
use Rattle.dlmalloc.proofs.Names.{◌≡◌, ◌≢◌, ℕ, suc, ◌+◌, ◌/◌, ◌^◌, ◌<◌, ◌≤◌, inr, Bool, true, false, ◌==◌, if◌then◌else◌, List, [], ◌∷◌, ◌++◌, Option, Some, None, refl, sym, ◌∙◌, ap, subst, arith, append_assoc, length, nat_tests, Grant, Extent, Free, extent_at, chunks_from, Segment, extents_in, top_and_foot, OnlyBoundariesChange, HasOneMore, HasMore, used_of, AreSegments, AreApart, records_from, segments_of, state_of, AreTold, IsGranularity, IsSound, Dlmalloc}
use Rattle.dlmalloc.proofs.Extents.Lookup.{extent, nat_isnt, found_more}
use Rattle.dlmalloc.proofs.Extents.FromWords.{read_top, records_read, records_few}
use Rattle.dlmalloc.proofs.Extents.OneMoreUsed.{AreDistinct, distinct_second, more_between, one_more, used_append, replaced_found}
use Rattle.dlmalloc.proofs.Segments.Among.{extents_all, all_among, as_many, all_distinct, distinct_later}
use Rattle.dlmalloc.proofs.Segments.OneReplaced.{IsChanged, all_spared, segments_after, apart_after}

-- ---- the segments that are read are those that are described

pub segments_read : {A : Type 0} (regions : List Grant) (word : A → ℕ → ℕ) (heap : Dlmalloc A) (segments : List Segment) → AreSegments regions
    (word heap.system) segments → AreTold (word heap.system) heap segments → length segments ≤ suc (2 ^ 64) → segments_of word heap ≡ segments
segments_read regions word heap [] parts told few = (let none : (heap.size == 0) ≡ true = grind (arith, nat_tests) in rw none refl)
segments_read regions word heap (segment ∷ segments) parts told few =
    let words = word heap.system in
    let some : (heap.size == 0) ≡ false = nat_isnt (inr told.0) in
    let extents : chunks_from words (heap.size / 16) heap.base heap.top ++ top_and_foot heap.top (heap.base + heap.size) ≡ segment.extents =
    (λ i. chunks_from words (told.2 i / 16) (told.1 i) heap.top ++ top_and_foot heap.top (told.1 i + told.2 i)) ∙ read_top parts.0 told.4 in
    rw some (λ i. (record { base = told.1 i; size = told.2 i; flags = told.3 i; extents = extents i })
    ∷ records_read regions words (2 ^ 64) heap.next segments (omega arith) parts.1 told.5 i)

-- they are no more than can be read
pub segments_few : {A : Type 0} (word : A → ℕ → ℕ) (heap : Dlmalloc A) → length (segments_of word heap) ≤ suc (2 ^ 64)
segments_few word heap = go (heap.size == 0)
  where
    head : Segment
    head = record {
      base = heap.base;
      size = heap.size;
      flags = heap.flags;
      extents =
          chunks_from (word heap.system) (heap.size / 16) heap.base heap.top ++ top_and_foot heap.top (heap.base + heap.size);
    }

    go : (b : Bool) → length (if b then [] else head ∷ records_from (word heap.system) (2 ^ 64) heap.next) ≤ suc (2 ^ 64)
    go true = omega arith
    go false = let few = records_few (word heap.system) (2 ^ 64) heap.next in omega arith

-- ---- a move, and the heap that it leaves

-- In one segment some extents give way to others, and the new heap is described with the new segment in its place.
pub record IsStep {A : Type 0} (regions : A → List Grant) (word : A → ℕ → ℕ) (heap new : Dlmalloc A) (less more : List Extent) : Type 0 where
  pub front : List Segment
  pub segment : Segment
  pub back : List Segment
  pub is : segments_of word heap ≡ front ++ segment ∷ back
  pub now : Segment
  pub first : List Extent
  pub last : List Extent
  pub old_extents : segment.extents ≡ first ++ (less ++ last)
  pub new_extents : now.extents ≡ first ++ (more ++ last)
  pub changed : IsChanged (regions heap.system) (regions new.system) (word heap.system) (word new.system) segment now
  pub told : AreTold (word new.system) new (front ++ now ∷ back)

module _ {A : Type 0} {regions : A → List Grant} {word : A → ℕ → ℕ} {heap new : Dlmalloc A}
    (sound : IsSound regions word heap) {less more : List Extent} (step : IsStep regions word heap new less more) where
  was_segments : AreSegments (regions heap.system) (word heap.system) (step.front ++ step.segment ∷ step.back)
  was_segments = subst (AreSegments (regions heap.system) (word heap.system)) step.is sound.segments

  was_apart : AreApart (step.front ++ step.segment ∷ step.back)
  was_apart = subst AreApart step.is sound.apart

  -- the segments of the new heap
  pub read : segments_of word new ≡ step.front ++ step.now ∷ step.back
  read = segments_read (regions new.system) word new (step.front ++ step.now ∷ step.back)
      (segments_after step.changed step.front step.back was_apart was_segments) step.told
      (subst (λ n. n ≤ suc (2 ^ 64)) (ap length step.is ∙ as_many step.front step.segment step.now step.back) (segments_few word heap))

  pub segments_now : AreSegments (regions new.system) (word new.system) (segments_of word new)
  segments_now = subst (AreSegments (regions new.system) (word new.system)) (sym read) (segments_after step.changed step.front step.back was_apart was_segments)

  pub apart_now : AreApart (segments_of word new)
  apart_now = subst AreApart (sym read) (apart_after step.changed step.front step.back was_apart was_segments)

  -- all extents, before and after
  abbrev pub before : List Extent
  before = extents_all step.front ++ step.first

  abbrev pub behind : List Extent
  behind = step.last ++ extents_all step.back

  around : (segment : Segment) (run : List Extent) → segment.extents ≡ step.first ++ (run ++ step.last) →
      extents_all (step.front ++ segment ∷ step.back) ≡ before ++ (run ++ behind)
  around segment run is =
      all_among step.front segment step.back ∙ (ap (λ es. extents_all step.front ++ (es ++ extents_all step.back)) is
      ∙ (ap (λ es. extents_all step.front ++ es) (append_assoc step.first (run ++ step.last) (extents_all step.back) ∙ ap (λ es. step.first ++ es)
      (append_assoc run step.last (extents_all step.back))) ∙ sym (append_assoc (extents_all step.front) step.first (run ++ behind))))

  pub all_old : extents_in (state_of word heap) ≡ before ++ (less ++ behind)
  all_old = ap extents_all step.is ∙ around step.segment less step.old_extents

  pub all_new : extents_in (state_of word new) ≡ before ++ (more ++ behind)
  all_new = ap extents_all read ∙ around step.now more step.new_extents

  pub distinct_old : AreDistinct (extents_in (state_of word heap))
  distinct_old = all_distinct (regions heap.system) (word heap.system) (segments_of word heap) sound.segments sound.apart

  pub distinct_new : AreDistinct (extents_in (state_of word new))
  distinct_new = all_distinct (regions new.system) (word new.system) (segments_of word new) segments_now apart_now

  -- one of the new extents is found among all
  pub found_new : (k : ℕ) (one : Extent) → extent_at k more ≡ Some one → extent_at k (extents_in (state_of word new)) ≡ Some one
  found_new k one there =
      ap (extent_at k) all_new ∙ distinct_later before (more ++ behind) k (subst AreDistinct all_new distinct_new) (found_more k more behind there)

  -- what is found still is, if it is found among the new ones too
  pub found_again : (k : ℕ) {one : Extent} → (extent_at k less ≡ Some one → extent_at k more ≡ Some one) →
      extent_at k (extents_in (state_of word heap)) ≡ Some one → extent_at k (extents_in (state_of word new)) ≡ Some one
  found_again k stays there =
      ap (extent_at k) all_new ∙ replaced_found k before less more behind (subst AreDistinct all_new distinct_new) stays
      (ap (extent_at k) (sym all_old) ∙ there)

  -- what is found was there, if it was found among the old ones too
  pub found_before : (k : ℕ) {one : Extent} → (extent_at k more ≡ Some one → extent_at k less ≡ Some one) →
      extent_at k (extents_in (state_of word new)) ≡ Some one → extent_at k (extents_in (state_of word heap)) ≡ Some one
  found_before k stays there =
      ap (extent_at k) all_old ∙ replaced_found k before more less behind (subst AreDistinct all_old distinct_old) stays
      (ap (extent_at k) (sym all_new) ∙ there)

  -- all granted words stay but those at boundaries
  pub keeps_words : OnlyBoundariesChange (regions heap.system) (state_of word new) (word heap.system) (word new.system)
  keeps_words k inside apart = step.changed.kept k inside (all_spared (state_of word new) k step.now.extents
      (distinct_front step.now.extents (extents_all step.back) (distinct_second (extents_all step.front) (step.now.extents ++ extents_all step.back) among))
      (λ extent there. ap (extent_at extent.at) now_all ∙ distinct_later (extents_all step.front) (step.now.extents ++ extents_all step.back) extent.at among
      (found_more extent.at step.now.extents (extents_all step.back) there)) apart)
    where
      now_all : extents_in (state_of word new) ≡ extents_all step.front ++ (step.now.extents ++ extents_all step.back)
      now_all = ap extents_all read ∙ all_among step.front step.now step.back

      among : AreDistinct (extents_all step.front ++ (step.now.extents ++ extents_all step.back))
      among = subst AreDistinct now_all distinct_new

      none_first : (k : ℕ) (one other : List Extent) → extent_at k (one ++ other) ≡ None → extent_at k one ≡ None
      none_first k one other none = go (extent_at k one) refl
        where
          go : (o : Option Extent) → extent_at k one ≡ o → o ≡ None
          go None is = refl
          go (Some extent) is = absurd (let some = found_more k one other is in cc)

      distinct_front : (one other : List Extent) → AreDistinct (one ++ other) → AreDistinct one
      distinct_front [] other d = tt
      distinct_front (extent ∷ one) other d = (none_first extent.at one other d.0, distinct_front one other d.1)

  -- ---- extents in use

  pub has_more : (one : Extent) → HasMore less more one → HasOneMore (state_of word heap) (state_of word new) one.at
  has_more one h = one_more (state_of word heap) (state_of word new) distinct_old distinct_new (subst (λ es. HasMore es (extents_in (state_of word new)) one)
      (sym all_old) (subst (λ es. HasMore (before ++ (less ++ behind)) es one) (sym all_new) (more_between before behind h)))

  pub has_less : {one : Extent} → HasMore more less one → HasOneMore (state_of word new) (state_of word heap) one.at
  has_less {one} h = one_more (state_of word new) (state_of word heap) distinct_new distinct_old (subst (λ es. HasMore es (extents_in (state_of word heap))
      one) (sym all_new) (subst (λ es. HasMore (before ++ (more ++ behind)) es one) (sym all_old) (more_between before behind h)))

  -- if as many are in use, the same are
  same_used : used_of less ≡ used_of more → used_of (extents_in (state_of word heap)) ≡ used_of (extents_in (state_of word new))
  same_used same = ap used_of all_old ∙ (used_append before (less ++ behind) ∙ (ap (λ es. used_of before ++ es) (used_append less behind ∙
      (ap (λ es. es ++ used_of behind) same ∙ sym (used_append more behind))) ∙ sym (used_append before (more ++ behind)))) ∙ ap used_of (sym all_new)

  -- there is a head segment
  pub some_there : 0 < heap.size
  some_there = go step.front (subst (AreTold (word heap.system) heap) step.is sound.told)
    where
      go : (front : List Segment) → AreTold (word heap.system) heap (front ++ step.segment ∷ step.back) → 0 < heap.size
      go [] h = h.0
      go (first ∷ front) h = h.0

  -- it is sound if the head segment's size stayed
  pub stays_sound : regions new.system ≡ regions heap.system → new.granularity ≡ heap.granularity → new.base ≡ heap.base →
      new.size ≡ heap.size → new.flags ≡ heap.flags → (new.victim_size ≡ 0 → new.victim ≡ 0) → (new.victim_size ≢ 0 →
      extent_at new.victim (extents_in (state_of word new)) ≡ Some (extent new.victim new.victim_size Free)) → IsSound regions word new
  stays_sound same granularity base size flags none named = record {
    granularity = subst IsGranularity (sym granularity) sound.granularity;
    segments = segments_now;
    apart = apart_now;
    told = subst (AreTold (word new.system) new) (sym read) step.told;
    none = λ gone. absurd (let some = some_there in omega arith);
    no_victim = none;
    victim = named;
  }

-- A chunk is cut from the start of a grant that is put before a segment.
use Rattle.dlmalloc.proofs.Names.{◌≡◌, ℕ, ◌+◌, ◌-◌, ◌%◌, ◌<◌, ◌≤◌, ◌⊎◌, inl, inr, Bool, true, false, not, ◌&&◌, List, [], ◌∷◌, None, Some, refl, sym, ◌∙◌, ap, subst, arith, dec_lt, AllByRecursion, list_any, Grant, Event, Granted, IsWordOf, IsApart, IsGoodGrant, with_grant, round_up, Extent, Used, Free, Record, extent_at, HeapState, Segment, extents_in, chosen, freed, is_behind, is_before, is_put_before, granted, HasOneMore, IsBoundary, IsInFree, OnlyTagsChange, OnlyOwnOrTagsChange, IsPrepended, segments_of, state_of, IsSound, IsTurned, IsCutOut, IndexStays, IsFreeAt, IsBinned, IsSameBins, FreeMoves, Dlmalloc}
use Rattle.dlmalloc.specs.Granted.{prepended}
use Rattle.dlmalloc.specs.Grown.{IsPutBefore}
use Rattle.dlmalloc.proofs.Extents.Lookup.{extent, the_extent}
use Rattle.dlmalloc.proofs.Frees.Behind.{next_boundary}
use Rattle.dlmalloc.proofs.Blocks.WordsKept.{blocks_law_tags}
use Rattle.dlmalloc.proofs.Extents.NoRoom.{full}
use Rattle.dlmalloc.proofs.Words.OfLinks.{same_or_beside}
use Rattle.dlmalloc.proofs.Bins.Changes.{binned_same}
use Rattle.dlmalloc.proofs.Grants.NewRegion.{granted_same}
use Rattle.dlmalloc.proofs.Segments.RegionsMore.{word_kept, word_fresh, with_other, none_granted}
use Rattle.dlmalloc.proofs.Extents.RunReplaced.{behind}

-- if the grant is put before a segment, the state is that
pub granted_before : (grant : Grant) (n : ℕ) (heap : HeapState) → is_put_before grant heap.segments ≡ true →
    granted grant n heap ≡ freed (prepended grant n heap) (grant.base + n)
granted_before grant n heap test = go heap.segments test
  where
    both : (b c : Bool) → (not b && c) ≡ true → (b ≡ false) × (c ≡ true)
    both true c is = absurd (cc)
    both false c is = (refl, is)

    go : (segments : List Segment) → is_put_before grant segments ≡ true →
        granted grant n (record heap { segments = segments })
        ≡ freed (prepended grant n (record heap { segments = segments })) (grant.base + n)
    go [] is = absurd (cc)
    go (head ∷ rest) is =
        let b = both (is_behind grant head) (list_any (is_before grant) (head ∷ rest)) is in
        let one = b.0 in let two = b.1 in
        rw (one, two) refl

-- ---- the free extents of a heap that a grant was put before

module _ {A : Type 0} {regions : A → List Grant} {word : A → ℕ → ℕ} {follows : A → List Event → A → Type 0} {old middle : Dlmalloc A}
    {grant : Grant} {n : ℕ} (first : IsPrepended regions word follows old grant n middle) where
  -- what is free then was free before
  was_free : {at size : ℕ} → IsFreeAt (state_of word middle) at size → IsFreeAt (state_of word old) at size
  was_free {at} {size} free = first.before (extent at size Free) (λ same. clash n same first.chunk) (λ same. clash (grant.size - n) same first.rest) free
    where
      clash : {place : ℕ} (bytes : ℕ) → at ≡ place → extent_at place (extents_in (state_of word middle)) ≡ Some (extent place bytes Used) → ⊥
      clash {place} bytes same used = (let no : Used ≡ Free = ap (λ e. e.kind)
          (the_extent (sym used ∙ (ap (λ a. extent_at a (extents_in (state_of word middle))) (sym same) ∙ free))) in cc)

  pub no_free : (k : ℕ) → (IsInFree (state_of word old) k → ⊥) → IsInFree (state_of word middle) k → ⊥
  no_free k was f = was (record { at = f.at; size = f.size; free = was_free f.free; low = f.low; high = f.high })

  -- nothing of the grant is free
  pub none_of_grant : (k : ℕ) → grant.base ≤ k → k < grant.base + grant.size → IsInFree (state_of word middle) k → ⊥
  none_of_grant k low high f =
      let above = f.low in let below = f.high in
      elim (same_or_beside first.sound f.free first.chunk) [
        | inl same ↦ (let no : Used ≡ Free = ap (λ e. e.kind) same in cc)
        | inr beside ↦ elim (same_or_beside first.sound f.free first.rest) [
          | inl same ↦ (let no : Used ≡ Free = ap (λ e. e.kind) same in cc)
          | inr behind ↦ elim beside [
            | inl after ↦ elim behind [ inl out ↦ omega arith | inr between ↦ omega arith ]
            | inr before ↦ omega arith
          ]
        ]
      ]

  pub prepended_free : FreeMoves (state_of word old) (state_of word middle) [] []
  prepended_free = record {
    stays = λ at size free out. (first.still (extent at size Free) free, λ none. none);
    was = λ at size free out. (was_free free, λ none. none);
  }

  pub prepended_tags : OnlyTagsChange (regions old.system) (state_of word middle) (word old.system) (word middle.system)
  prepended_tags k inside boundary tag = elim (dec_lt k grant.base) [
    | yes below ↦ first.words k inside (inl below) tag
    | no low ↦ elim (dec_lt k (grant.base + grant.size)) [
      | yes high ↦ first.new_words k inside (omega arith) high
          (λ is. boundary (record { extent = extent grant.base n Used; there = first.chunk; is = inl is }))
          (λ is. boundary (record { extent = extent (grant.base + n) (grant.size - n) Used; there = first.rest; is = inl is }))
      | no above ↦ first.words k inside (inr (omega arith)) tag
    ]
  ]

  -- the bins stay
  abbrev pub prepended_binned : IndexStays → IsSound regions word old → IsSameBins old middle → IsBinned regions word old → IsBinned regions word middle
  prepended_binned stays sound same = binned_same stays sound first.sound
      (λ k was is boundary tag tag'. prepended_tags k was boundary tag') same.bins prepended_free same.victim

-- its rest was freed
pub put_before_is : {A : Type 0} {regions : A → List Grant} {word : A → ℕ → ℕ} {follows : A → List Event → A → Type 0} {old middle new : Dlmalloc A}
    {grant : Grant} {n : ℕ} → 32 ≤ n → IsPrepended regions word follows old grant n middle →
    state_of word new ≡ freed (state_of word middle) (grant.base + n) → HasOneMore (state_of word new) (state_of word middle) (grant.base + n) →
    IsTurned regions word follows middle new → ((one : Extent) → one.kind ≡ Record →
    extent_at one.at (extents_in (state_of word middle)) ≡ Some one → extent_at one.at (extents_in (state_of word new)) ≡ Some one) →
    follows old.system [] new.system → IsPutBefore regions word follows old grant n new
put_before_is {regions} {word} {old} {middle} {new} {grant} {n} least first state less moved records followed = record {
  state = state ∙ ap (λ s. freed s (grant.base + n)) first.state;
  sound = moved.sound;
  regions_same = moved.regions_same ∙ first.regions_same;
  followed = followed;
  chunk = chunk_there;
  more = record {
    kept = λ used is there. less.only used is (first.still used there) ((first.apart used there).1);
    only = λ used is there other. first.before used other (less.new used is there) (less.kept used is there);
    new = λ used is there. (first.apart used there).0;
  };
  words = λ k inside out was own tag. moved.words k (into k inside) (no_free first k was) own ∙ first.words k inside out
      (λ r. tag (record { extent = r.extent; there = records r.extent r.is r.there; is = r.is; low = r.low; high = r.high }));
  new_words = λ k inside low high own. moved.words k (into k inside) (none_of_grant first k low high) own ∙ first.new_words k inside low high
      (λ is. own (inl (record { extent = extent grant.base n Used; there = chunk_there; is = inl is })))
      (λ is. own (inl (subst (IsBoundary (state_of word new)) (sym is) (next_boundary moved.sound chunk_there))));
}
  where
    chunk_there : extent_at grant.base (extents_in (state_of word new)) ≡ Some (extent grant.base n Used)
    chunk_there = less.only (extent grant.base n Used) refl first.chunk (λ is. omega arith)

    into : (k : ℕ) → IsWordOf (regions old.system) k → IsWordOf (regions middle.system) k
    into k inside = subst (λ rs. IsWordOf rs k) (sym first.regions_same) inside

-- ---- so the chunk is cut out

pub cut_before : {A : Type 0} {regions : A → List Grant} {word : A → ℕ → ℕ} {zeros : A → Bool} {follows : A → List Event → A → Type 0}
    {old : Dlmalloc A} {middle : A} {n asked : ℕ} {grant : Grant} {new : Dlmalloc A} → IsSound regions word old → 32 ≤ n → n + 96 ≤ asked →
    chosen (state_of word old) n ≡ None → IsGoodGrant asked grant → AllByRecursion (IsApart grant.base (grant.base + grant.size)) (regions old.system) →
    regions middle ≡ with_grant grant (regions old.system) → ((k : ℕ) → IsWordOf (regions old.system) k → word middle k ≡ word old.system k) →
    (zeros old.system ≡ true → (k : ℕ) → grant.base ≤ k → k < grant.base + grant.size → k % 8 ≡ 0 → word middle k ≡ 0) →
    is_put_before grant (segments_of word (record old { system = middle })) ≡ true →
    IsPutBefore regions word follows (record old { system = middle }) grant n new →
    follows old.system (Granted (round_up (n + 96) old.granularity) grant ∷ []) new.system → IsCutOut regions word zeros follows old n grant.base new
cut_before {regions} {word} {old} {middle} {n} {grant} {new} sound least enough none good beside with_it words zero test put followed = record {
  cut = inr (
    grant,
    record {
      none_chosen = none;
      full = full sound n none;
      of_grant = λ is. (
        refl,
        put.state ∙ (ap (λ s. freed (prepended grant n s) (grant.base + n)) same
            ∙ sym (granted_before grant n (state_of word old) joins)),
      );
      of_top = λ is. absurd (let no : false ≡ true = sym is ∙ joins in cc);
      room = omega arith;
      place = inl refl;
    },
    followed,
    put.regions_same ∙ with_it,
    beside,
  );
  small = omega arith;
  more = more_put;
  holds = λ size holds near. record {
    extent = extent grant.base n Used;
    there = subst (λ a. extent_at a (extents_in (state_of word new)) ≡ Some (extent grant.base n Used)) back put.chunk;
    low = omega arith;
    used = refl;
    holds = holds;
    little = omega arith;
  };
  kept = blocks_law_tags sound put.sound words_put (extents_in (state_of word old)) (λ block there used. (there, more_put.kept block used there));
  words = words_put;
  own = λ is. absurd (with_other grant (sym (put.regions_same ∙ with_it) ∙ is));
  new_words = λ zeroed k inside fresh own.
      let there = subst (λ rs. IsWordOf rs k) put.regions_same inside in
      let within = word_fresh grant (regions old.system) with_it k there fresh in
      put.new_words k there within.0 within.1 own ∙ zero zeroed k within.0 within.1 inside.aligned;
  sound = put.sound;
}
  where
    same : state_of word (record old { system = middle }) ≡ state_of word old
    same = granted_same sound middle (omega arith) good beside with_it words

    joins : is_put_before grant (segments_of word old) ≡ true
    joins = subst (λ ss. is_put_before grant ss ≡ true) (λ i. (same i).segments) test

    more_put : HasOneMore (state_of word old) (state_of word new) grant.base
    more_put = subst (λ s. HasOneMore s (state_of word new) grant.base) same put.more

    words_put : OnlyOwnOrTagsChange (regions old.system) (state_of word old) (state_of word new) (word old.system) (word new.system)
    words_put k inside was own tag = put.words k (word_kept grant with_it inside) out (λ f. was (subst (λ s. IsInFree s k) same f)) own tag ∙ words k inside
      where
        out : (k < grant.base) ⊎ (grant.base + grant.size ≤ k)
        out = elim (dec_lt k grant.base) [
          | yes below ↦ inl below
          | no low ↦ elim (dec_lt k (grant.base + grant.size)) [
            | yes high ↦ absurd (none_granted grant.base (grant.base + grant.size) (regions old.system) beside k (omega arith) high inside.granted)
            | no above ↦ inr (omega arith)
          ]
        ]

    back : grant.base ≡ grant.base + 16 - 16
    back = omega arith

-- Which extent of a sound heap is chosen.
use Rattle.dlmalloc.proofs.Names.{◌≡◌, ◌≢◌, ℕ, ◌+◌, ◌^◌, ◌<◌, ◌≤◌, Bool, true, false, not, ◌&&◌, ◌==◌, nat_le, nat_lt, List, Option, Some, None, IsTrue, refl, sym, ◌∙◌, ap, subst, arith, unwrap_or, option_map, find, nat_tests, Grant, Extent, Kind, Used, Free, Top, extent_at, HeapState, extents_in, is_free_below_top, is_victim, size_where, OfBins, TheVictim, TheTop, least_fit, choose, chosen, IsChosen, IsSegment, segments_of, state_of, IsSound, Dlmalloc}
use Rattle.dlmalloc.specs.State.{is_top}
use Rattle.dlmalloc.specs.Choice.{goes_first, is_one_of}
use Rattle.dlmalloc.specs.declared.walk.Place.{Place}
use Rattle.dlmalloc.specs.declared.walk.Choice.TheVariants.{Chunk}
use Rattle.dlmalloc.proofs.Extents.Lookup.{extent, nat_same}
use Rattle.dlmalloc.proofs.Extents.Tiling.{sized}
use Rattle.dlmalloc.proofs.Segments.Among.{all_distinct, located, of_located, in_part}
use Rattle.dlmalloc.proofs.Extents.Top.{is_top as the_place, top_among, foot_among}
use Rattle.dlmalloc.proofs.Extents.OneMoreUsed.{AreDistinct}
use Rattle.dlmalloc.proofs.Cuts.FoundByTest.{find_only, find_none}

pub and_false : (a : Bool) {b : Bool} → b ≡ false → (a && b) ≡ false
and_false true is = is
and_false false is = refl

-- an extent of a heap begins at 4096 at least, and below 2 ^ 64 - 16
pub free_low : {A : Type 0} {regions : A → List Grant} {word : A → ℕ → ℕ} {heap : Dlmalloc A} → IsSound regions word heap → {one : Extent} →
    extent_at one.at (extents_in (state_of word heap)) ≡ Some one → 4096 ≤ one.at
free_low {regions} {word} {heap} sound {one} there =
    let l = located one.at (segments_of word heap) there in
    let p = of_located (IsSegment (regions heap.system) (word heap.system)) l sound.segments in
    let is = in_part (word heap.system) Used l.segment.base l.segment.extents (l.segment.base + l.segment.size) p.extents l.there in
    let low = is.low in let base = p.low in
    omega arith

pub free_below : {A : Type 0} {regions : A → List Grant} {word : A → ℕ → ℕ} {heap : Dlmalloc A} → IsSound regions word heap → {one : Extent} →
    extent_at one.at (extents_in (state_of word heap)) ≡ Some one → one.at + 16 < 2 ^ 64
free_below {regions} {word} {heap} sound {one} there =
    let l = located one.at (segments_of word heap) there in
    let p = of_located (IsSegment (regions heap.system) (word heap.system)) l sound.segments in
    let is = in_part (word heap.system) Used l.segment.base l.segment.extents (l.segment.base + l.segment.size) p.extents l.there in
    let long = (sized one.kind one.size is.stands.size).1 in
    let low = is.low in let high = is.high in let end = p.high in
    omega arith

-- a top stands where the field says
pub top_place : {A : Type 0} {regions : A → List Grant} {word : A → ℕ → ℕ} {heap : Dlmalloc A} → IsSound regions word heap → {one : Extent} →
    extent_at one.at (extents_in (state_of word heap)) ≡ Some one → one.kind ≡ Top → one.at ≡ heap.top
top_place {word} {heap} sound {one} there is =
    let l = located one.at (segments_of word heap) there in
    (the_place sound l.front l.segment l.back l.is (l.there ∙ (λ i. Some (extent one.at one.size (is i))))).1

of_top : (kind : Kind) → is_top kind ≡ true → kind ≡ Top
of_top Top test = refl
of_top kind test = absurd (cc)

pub top_below : {A : Type 0} {regions : A → List Grant} {word : A → ℕ → ℕ} {heap : Dlmalloc A} → IsSound regions word heap →
    0 < heap.size → heap.top + 16 < 2 ^ 64
top_below sound some = free_below sound (top_among sound some)

-- the top ends below 2 ^ 64
pub top_end : {A : Type 0} {regions : A → List Grant} {word : A → ℕ → ℕ} {heap : Dlmalloc A} → IsSound regions word heap →
    0 < heap.size → heap.top + heap.top_size < 2 ^ 64
top_end sound some = let below = free_below sound (foot_among sound some) in omega arith

module _ {A : Type 0} {regions : A → List Grant} {word : A → ℕ → ℕ} {heap : Dlmalloc A} (sound : IsSound regions word heap) (some : 0 < heap.size) where
  abbrev pub state : HeapState
  state = state_of word heap

  distinct : AreDistinct (extents_in state)
  distinct = all_distinct (regions heap.system) (word heap.system) (segments_of word heap) sound.segments sound.apart

  at_victim : (one : Extent) → is_victim state one ≡ true → one.at ≡ heap.victim
  at_victim one test = grind (arith, nat_tests)

  -- the size of the victim
  victim_size_is : size_where (is_victim state) (extents_in state) ≡ heap.victim_size
  victim_size_is = by_size (heap.victim_size == 0) refl
    where
      by_size : (b : Bool) → (heap.victim_size == 0) ≡ b → unwrap_or (option_map (λ extent. extent.size)
          (find (is_victim state) (extents_in state))) 0 ≡ heap.victim_size
      by_size true test =
          let zero : heap.victim_size ≡ 0 = grind (arith, nat_tests) in
          let at = sound.no_victim zero in
          ap (λ o. unwrap_or (option_map (λ extent. extent.size) o) 0) (find_none (is_victim state) (extents_in state) distinct (λ other found test.
          (let low = free_low sound found in let place = at_victim other test in omega arith))) ∙ sym zero
      by_size false test =
          let some : heap.victim_size ≢ 0 = grind (arith, nat_tests) in
          ap (λ o. unwrap_or (option_map (λ extent. extent.size) o) 0) (find_only (is_victim state) (extents_in state) distinct (sound.victim some)
          (nat_same heap.victim) (λ other found test. at_victim other test))

  -- the top is one of the extents
  pub top_there : extent_at heap.top (extents_in state) ≡ Some (extent heap.top heap.top_size Top)
  top_there = top_among sound some

  -- the size of the top
  pub top_size_is : size_where (λ extent. is_top extent.kind) (extents_in state) ≡ heap.top_size
  top_size_is = ap (λ o. unwrap_or (option_map (λ extent. extent.size) o) 0) (find_only (λ extent. is_top extent.kind) (extents_in state) distinct
      top_there refl (λ other found test. top_place sound found (of_top other.kind test)))

  module _ (n : ℕ) where
    pub chosen_is : {fit : Option ℕ} → least_fit state n ≡ fit → chosen state n ≡ choose n fit heap.victim_size heap.top_size
    chosen_is is = λ i. choose n (is i) (victim_size_is i) (top_size_is i)

    -- a binned chunk goes first
    pub bins_chosen : (at : ℕ) {size : ℕ} → least_fit state n ≡ Some size → goes_first n heap.victim_size size ≡ true →
        extent_at at (extents_in state) ≡ Some (record { at = at; size = size; kind = Free }) → at ≢ heap.victim →
        IsChosen state n (record { at = at; size = size; kind = Free })
    bins_chosen at {size} fit first there other = record {
      choice = OfBins size;
      is = chosen_is fit ∙ rw first refl;
      there = there;
      one = (let apart : (at == heap.victim) ≡ false = (let o = other in grind (arith, nat_tests)) in let same = nat_same size in rw (apart, same) refl);
    }

    abbrev pub victim : Extent
    victim = record { at = heap.victim; size = heap.victim_size; kind = Free }

    -- the victim
    of_victim : chosen state n ≡ Some TheVictim → n ≤ heap.victim_size → 0 < n → IsChosen state n victim
    of_victim is fits more = record {
      choice = TheVictim;
      is = is;
      there = sound.victim (λ zero. omega arith);
      one = nat_same heap.victim;
    }

    pub victim_fits : (size : ℕ) → goes_first n heap.victim_size size ≡ false → n ≤ heap.victim_size
    victim_fits size last = by_test (nat_lt heap.victim_size n) refl
      where
        by_test : (b : Bool) → nat_lt heap.victim_size n ≡ b → n ≤ heap.victim_size
        by_test true test = absurd (let first : goes_first n heap.victim_size size ≡ true = rw test refl in cc)
        by_test false test = grind (arith, nat_tests)

    pub victim_first : {size : ℕ} → least_fit state n ≡ Some size → goes_first n heap.victim_size size ≡ false → 0 < n → IsChosen state n victim
    victim_first {size} fit last more = of_victim (chosen_is fit ∙ rw last refl) (victim_fits size last) more

    pub victim_alone : least_fit state n ≡ None → n ≤ heap.victim_size → 0 < n → IsChosen state n victim
    victim_alone fit fits more = of_victim (chosen_is fit ∙ (let test : nat_le n heap.victim_size ≡ true = grind (arith, nat_tests) in rw test refl)) fits more

    -- the top
    pub top_chosen : least_fit state n ≡ None → heap.victim_size < n → n < heap.top_size →
        IsChosen state n (record { at = heap.top; size = heap.top_size; kind = Top })
    top_chosen fit small fits = record {
      choice = TheTop;
      is = chosen_is fit ∙ (let one : nat_le n heap.victim_size ≡ false = grind (arith, nat_tests) in
          let two : nat_lt n heap.top_size ≡ true = grind (arith, nat_tests) in rw (one, two) refl);
      there = top_there;
      one = refl;
    }

    -- nothing
    pub none_chosen : least_fit state n ≡ None → heap.victim_size < n → heap.top_size ≤ n → chosen state n ≡ None
    none_chosen fit small few = chosen_is fit ∙ (let one : nat_le n heap.victim_size ≡ false = grind (arith, nat_tests) in
        let two : nat_lt n heap.top_size ≡ false = grind (arith, nat_tests) in rw (one, two) refl)

-- one that is chosen of the bins is binned
of_bins : {heap : HeapState} {n : ℕ} (size : ℕ) {extent : Extent} → IsChosen heap n extent → chosen heap n ≡ Some (OfBins size) →
    (is_free_below_top extent.kind ≡ true) × ((extent.at == heap.victim) ≡ false)
of_bins {heap} size {extent} h is = parts (is_free_below_top extent.kind) (extent.at == heap.victim) (extent.size == size)
    (subst (λ c. IsTrue (is_one_of heap c extent)) (ap (λ o. unwrap_or o h.choice) (sym h.is ∙ is)) h.one)
  where
    parts : (plain victim sized : Bool) → ((plain && not victim) && sized) ≡ true → (plain ≡ true) × (victim ≡ false)
    parts true false sized test = (refl, refl)
    parts true true sized test = absurd (cc)
    parts false victim sized test = absurd (cc)

-- so it is not the victim
pub bins_no_victim : {heap : HeapState} {n : ℕ} (size : ℕ) {extent : Extent} → IsChosen heap n extent → chosen heap n ≡ Some (OfBins size) →
    extent.at ≢ heap.victim
bins_no_victim {heap} size {extent} h is same =
    let test : (extent.at == heap.victim) ≡ true = (let e = same in grind (arith, nat_tests)) in
    let no = sym (of_bins size h is).1 ∙ test in cc

-- and the top is in no bin
pub top_no_bins : {heap : HeapState} {n : ℕ} (size : ℕ) {extent : Extent} → IsChosen heap n extent → extent.kind ≡ Top → chosen heap n ≡ Some (OfBins size) → ⊥
top_no_bins size h top is = (let no = sym (of_bins size h is).0 ∙ ap is_free_below_top top in cc)

-- what holds of a place holds of the one that is returned
pub of_place : (P : Place → Type 0) (old new : Place) → Some (Chunk old) ≡ Some (Chunk new) → P old → P new
of_place P old new is h = let same : old ≡ new = cc in subst P same h

-- A heap rests on the words outside of its blocks alone.
use Rattle.dlmalloc.proofs.Names.{◌≡◌, ℕ, ◌+◌, ◌<◌, ◌≤◌, ◌⊎◌, inl, inr, Bool, true, false, ◌&&◌, ◌||◌, ◌==◌, nat_le, nat_lt, if◌then◌else◌, List, [], ◌∷◌, Some, IsTrue, refl, sym, ◌∙◌, ap, subst, arith, list_any, AllByRecursion, nat_tests, Grant, is_granted, IsWordOf, IsApart, Extent, Kind, Used, Free, Record, IndexStays, extent_at, Segment, extents_in, is_free_below_top, IsWithin, IsFlaggedRun, IsSegment, has_byte_in, segments_of, state_of, IsSound, IsFreeAt, HoldsBinned, IsBinned, regions_in, KeepsRegions, OnlyBlocksChange, Dlmalloc}
use Rattle.dlmalloc.proofs.Extents.Lookup.{nat_is, the_extent}
use Rattle.dlmalloc.proofs.Segments.Among.{extents_all, any_among, located, of_located, in_part}
use Rattle.dlmalloc.proofs.Extents.Disjoint.{beside, stands_there}
use Rattle.dlmalloc.proofs.Words.Telling.{IsTelling, has_its, sound_told, state_told}
use Rattle.dlmalloc.proofs.Words.OfLinks.{same_or_beside, is_chunk}

-- a region has a byte of a segment
abbrev meets : Segment → Grant → Bool
meets segment region = nat_lt region.base (segment.base + segment.size) && nat_lt segment.base (region.base + region.size)

-- a region is apart from a segment, or one of its own
abbrev IsOfRun : Segment → Grant → Type 0
IsOfRun segment region = IsApart segment.base (segment.base + segment.size) region ⊎ IsWithin segment.base (segment.base + segment.size) segment.flags region

-- ---- the regions

-- the granted bytes of a segment are those of its regions
granted_in : (segment : Segment) (regions : List Grant) (k : ℕ) → segment.base ≤ k → k < segment.base + segment.size →
    is_granted (regions_in segment regions) k ≡ is_granted regions k
granted_in segment [] k low high = refl
granted_in segment (region ∷ regions) k low high = go (meets segment region) refl (granted_in segment regions k low high)
  where
    go : (b : Bool) → meets segment region ≡ b → is_granted (regions_in segment regions) k ≡ is_granted regions k →
        is_granted (if b then region ∷ regions_in segment regions else regions_in segment regions) k ≡ is_granted (region ∷ regions) k
    go true test rest = ap (λ b. (nat_le region.base k && nat_lt k (region.base + region.size)) || b) rest
    go false test rest = (let none : (nat_le region.base k && nat_lt k (region.base + region.size)) ≡ false = grind (arith, nat_tests) in rw none rest)

-- what holds of all regions holds of those of a segment
those_in : (P : Grant → Type 0) (segment : Segment) (regions : List Grant) → AllByRecursion P regions → AllByRecursion P (regions_in segment regions)
those_in P segment [] all = tt
those_in P segment (region ∷ regions) all = go (meets segment region) (those_in P segment regions all.1)
  where
    go : (b : Bool) → AllByRecursion P (regions_in segment regions) → AllByRecursion P
        (if b then region ∷ regions_in segment regions else regions_in segment regions)
    go true rest = (all.0, rest)
    go false rest = rest

-- all others are apart from it
others_apart : (segment : Segment) (regions : List Grant) → AllByRecursion (λ region. IsOfRun segment region) (regions_in segment regions) →
    AllByRecursion (λ region. IsOfRun segment region) regions
others_apart segment [] all = tt
others_apart segment (region ∷ regions) all = go (meets segment region) refl all (others_apart segment regions)
  where
    go : (b : Bool) → meets segment region ≡ b → AllByRecursion (λ region. IsOfRun segment region) (if b then region ∷ regions_in segment regions
        else regions_in segment regions) → (AllByRecursion (λ region. IsOfRun segment region) (regions_in segment regions) →
        AllByRecursion (λ region. IsOfRun segment region) regions) → AllByRecursion (λ region. IsOfRun segment region) (region ∷ regions)
    go true test all rest = (all.0, rest all.1)
    go false test all rest = (inl (grind (arith, nat_tests)), rest all)

run_kept : (segment : Segment) {old : List Grant} (new : List Grant) → regions_in segment new ≡ regions_in segment old →
    IsFlaggedRun old segment.base segment.size segment.flags → IsFlaggedRun new segment.base segment.size segment.flags
run_kept segment {old} new same run = record {
  covered = λ k low high. sym (granted_in segment new k low high) ∙ (ap (λ rs. is_granted rs k) same
      ∙ (granted_in segment old k low high ∙ run.covered k low high));
  whole = others_apart segment new (subst (AllByRecursion (λ region. IsOfRun segment region)) (sym same) (those_in (IsOfRun segment) segment old run.whole));
}

module _ {A : Type 0} {regions : A → List Grant} {word : A → ℕ → ℕ} {heap : Dlmalloc A} (sound : IsSound regions word heap) (system : A)
    (stay : KeepsRegions (segments_of word heap) (regions heap.system) (regions system))
    (outside : OnlyBlocksChange (regions heap.system) (state_of word heap) (word heap.system) (word system)) where
  -- a word that an extent rests on stays
  same : (one : Extent) → extent_at one.at (extents_in (state_of word heap)) ≡ Some one → (k : ℕ) → IsTelling k one →
      IsWordOf (regions heap.system) k → IsTrue (list_any (has_byte_in k) (segments_of word heap)) → word system k ≡ word heap.system k
  same one there k tells granted inside = outside k granted inside (λ used used_is found. go used used_is found (used.at == one.at) refl)
    where
      plain_used : (kind : Kind) → IsTrue (is_free_below_top kind) → kind ≡ Used → ⊥
      plain_used kind plain is = (let no = ap is_free_below_top is in cc)

      of_used : (used : Extent) → used.kind ≡ Used → used ≡ one → (k < used.at + 16) ⊎ (used.at + used.size + 8 ≤ k)
      of_used used used_is one_is =
          let place = ap (λ e. e.at) one_is in
          let is : one.kind ≡ Used = ap (λ e. e.kind) (sym one_is) ∙ used_is in
          elim (tells.3) [
            | inl head ↦ inl (omega arith)
            | inr other ↦ absurd (elim other [ inl tail ↦ (let no : Record ≡ Used = sym tail ∙ is in cc) | inr end ↦ plain_used one.kind (tells.4 end) is ])
          ]

      go : (used : Extent) → used.kind ≡ Used → extent_at used.at (extents_in (state_of word heap)) ≡ Some used → (b : Bool) →
          (used.at == one.at) ≡ b → (k < used.at + 16) ⊎ (used.at + used.size + 8 ≤ k)
      go used used_is found true test = of_used used used_is (the_extent
          (sym found ∙ (ap (λ a. extent_at a (extents_all (segments_of word heap))) (nat_is test) ∙ there)))
      go used used_is found false other =
          let above = tells.0 in let below = tells.1 in let m = tells.2 in
          let whole = (stands_there (regions heap.system) (word heap.system) (segments_of word heap) sound.segments there).1.whole in
          elim (beside (regions heap.system) (word heap.system) (segments_of word heap) sound.segments sound.apart found there
          (λ same. (let t : (used.at == one.at) ≡ true = grind (arith, nat_tests) in cc))) [
            | inl before ↦ inr (omega arith)
            | inr behind ↦ inl (omega arith)
          ]

  runs : (segments : List Segment) → KeepsRegions segments (regions heap.system) (regions system) → AllByRecursion (λ segment. IsFlaggedRun
      (regions heap.system) segment.base segment.size segment.flags → IsFlaggedRun (regions system) segment.base segment.size segment.flags) segments
  runs [] stay = tt
  runs (segment ∷ segments) stay = ((λ run. run_kept segment (regions system) stay.0 run), runs segments stay.1)

  pub still_sound : IsSound regions word (record heap { system = system })
  still_sound = sound_told sound system heap.bins (runs (segments_of word heap) stay) same

  pub still_state : state_of word (record heap { system = system }) ≡ state_of word heap
  still_state = state_told sound system heap.bins (runs (segments_of word heap) stay) same

  -- ---- and so its bins

  -- the words of a free chunk stay
  pub chunk_stays : {size : ℕ} (chunk k : ℕ) → IsFreeAt (state_of word heap) chunk size → chunk + 8 ≤ k → k < chunk + size →
      IsWordOf (regions heap.system) k → word system k ≡ word heap.system k
  chunk_stays chunk k free low high granted =
      let l = located chunk (segments_of word heap) free in
      let p = of_located (IsSegment (regions heap.system) (word heap.system)) l sound.segments in
      let is = in_part (word heap.system) Used l.segment.base l.segment.extents (l.segment.base + l.segment.size) p.extents l.there in
      let above = is.low in let below = is.high in
      outside k granted (ap (list_any (has_byte_in k)) l.is ∙ any_among (has_byte_in k) l.front l.segment l.back
      (has_its l.segment k (omega arith) (omega arith))) (λ used used_is found. elim (same_or_beside sound free found) [
        | inl same ↦ absurd (let no : Used ≡ Free = sym used_is ∙ ap (λ e. e.kind) same in cc)
        | inr beside ↦ elim beside [ inl before ↦ inr (omega arith) | inr behind ↦ inl (omega arith) ]
      ])

  abbrev pub still_binned : IndexStays → IsBinned regions word heap → IsBinned regions word (record heap { system = system })
  still_binned stays b = record {
    index = b.index;
    linked = stays (regions heap.system) (regions system) (word heap.system) (word system) heap.bins b.index b.linked (record {
      granted = λ size chunk k is low high inside.
          (is_chunk still_sound (subst (λ s. IsFreeAt s chunk size) (sym still_state) (b.holds.free chunk size is))).granted k low high inside.aligned;
      words = λ size chunk k is low high near inside. chunk_stays chunk k (b.holds.free chunk size is) low high inside;
    });
    holds = subst (λ s. HoldsBinned s b.index) (sym still_state) b.holds;
  }

-- A grant becomes part of a heap, and of its bins.
use Rattle.dlmalloc.proofs.Names.{◌≡◌, ◌≢◌, ℕ, ◌+◌, ◌<◌, ◌≤◌, ◌⊎◌, inl, inr, Bool, true, false, ◌==◌, nat_le, if◌then◌else◌, List, [], ◌∷◌, ◌++◌, Some, refl, sym, ◌∙◌, ap, subst, arith, nat_tests, Grant, IsWordOf, Event, Extent, Kind, Free, Top, IndexStays, extent_at, extents_in, IsBoundary, IsInFree, IsInRecord, HasSameUsed, IsFreshGrant, IsAdmitted, opened, segments_of, state_of, IsSound, IsFreeAt, IsBinned, IsBinnedBut, IsSameBins, IsRebinned, FreeMoves, Dlmalloc}
use Rattle.dlmalloc.specs.Grown.{BeginsTop, IsGrantJoined}
use Rattle.dlmalloc.proofs.Extents.Lookup.{extent, nat_is, the_extent}
use Rattle.dlmalloc.proofs.Segments.Among.{flip}
use Rattle.dlmalloc.proofs.Extents.Disjoint.{within}
use Rattle.dlmalloc.proofs.Bins.Held.{one_size}
use Rattle.dlmalloc.proofs.Bins.Changes.{binned_moved, binned_same}
use Rattle.dlmalloc.proofs.Moves.WithBins.{out_of}
use Rattle.dlmalloc.proofs.Extents.Top.{top_among}
use Rattle.dlmalloc.proofs.Cuts.Chosen.{free_low}

module _ {A : Type 0} (regions : A → List Grant) (word : A → ℕ → ℕ) (follows : A → List Event → A → Type 0) (heap : Dlmalloc A) (grant : Grant) where
  -- with no change of bins
  pub as_joined : {new : Dlmalloc A} → IsAdmitted regions word follows heap grant new → IsGrantJoined regions word follows heap grant new
  as_joined j = record {
    state = j.state;
    sound = j.sound;
    there = j.there;
    room = j.room;
    begins = j.begins;
    regions_same = j.regions_same;
    followed = j.followed;
    used = j.used;
    words = λ k inside was own recorded. j.words k inside (λ boundary. own (inl boundary)) recorded;
    new_words = j.new_words;
  }

-- the bins stay, if no free extent but the top changes
abbrev pub admitted_binned : IndexStays → {A : Type 0} {regions : A → List Grant} {word : A → ℕ → ℕ} {follows : A → List Event → A → Type 0}
    {heap : Dlmalloc A} {grant : Grant} {new : Dlmalloc A} → IsSound regions word heap → IsAdmitted regions word follows heap grant new →
    FreeMoves (state_of word heap) (state_of word new) [] [] → IsSameBins heap new → IsBinned regions word heap → IsBinned regions word new
admitted_binned stays sound j free same = binned_same stays sound j.sound (λ k was is boundary tag tag'. j.words k was boundary tag') same.bins free same.victim

-- ---- what was the top is in no bin yet

-- the top is no other free extent
pub top_not_free : {A : Type 0} {regions : A → List Grant} {word : A → ℕ → ℕ} {heap : Dlmalloc A} → IsSound regions word heap → 0 < heap.size →
    {size : ℕ} → IsFreeAt (state_of word heap) heap.top size → ⊥
top_not_free sound some free = (let no : Free ≡ Top = ap (λ e. e.kind) (the_extent (sym free ∙ top_among sound some)) in cc)

module _ (stays : IndexStays) {A : Type 0} {regions : A → List Grant} {word : A → ℕ → ℕ} {follows : A → List Event → A → Type 0}
    {heap : Dlmalloc A} {grant : Grant} {new : Dlmalloc A} (sound : IsSound regions word heap) (some : 0 < heap.size)
    (j : IsAdmitted regions word follows heap grant new)
    (moves : FreeMoves (state_of word heap) (state_of word new) [] (if nat_le 32 heap.top_size then heap.top ∷ [] else [])) (same : IsSameBins heap new)
    (b : IsBinned regions word heap) where
  abbrev pub little_left : heap.top_size < 32 → IsBinned regions word new
  little_left few =
      let test : nat_le 32 heap.top_size ≡ false = grind (arith, nat_tests) in
      admitted_binned stays sound j (subst (λ b. FreeMoves (state_of word heap) (state_of word new) [] (if b then heap.top ∷ [] else [])) test moves) same b

  -- the victim is not the top
  pub top_no_victim : heap.top ≢ new.victim
  top_no_victim is = go (heap.victim_size == 0) refl
    where
      victim : heap.top ≡ heap.victim
      victim = is ∙ same.victim

      top : extent_at heap.top (extents_in (state_of word heap)) ≡ Some (extent heap.top heap.top_size Top)
      top = top_among sound some

      go : (t : Bool) → (heap.victim_size == 0) ≡ t → ⊥
      go true test = (let low = free_low sound top in let zero = sound.no_victim (grind (arith, nat_tests)) in omega (arith, victim))
      go false test =
          let found = sound.victim (λ none. (let t : (heap.victim_size == 0) ≡ true = (let e = none in grind (arith, nat_tests)) in cc)) in
          let here : extent_at heap.victim (extents_in (state_of word heap)) ≡ Some (extent heap.top heap.top_size Top) = subst (λ a. extent_at a
          (extents_in (state_of word heap)) ≡ Some (extent heap.top heap.top_size Top)) victim top in
          (let no : Free ≡ Top = ap (λ e. e.kind) (the_extent (sym found ∙ here)) in cc)

  abbrev pub top_left : 32 ≤ heap.top_size → IsBinnedBut (heap.top ∷ []) regions word new
  top_left many =
      let test : nat_le 32 heap.top_size ≡ true = grind (arith, nat_tests) in
      binned_moved stays sound j.sound (λ k was is boundary tag tag'. j.words k was boundary tag') same.bins {loose = []} {loose' = heap.top ∷ []}
      (subst (λ b. FreeMoves (state_of word heap) (state_of word new) [] (if b then heap.top ∷ [] else [])) test moves) (record {
        gone = λ k none n free other. none;
        come = λ k is n free other. is;
        still = λ k out which n free other. elim which [ inl victim ↦ absurd (other (victim ∙ sym same.victim)) | inr none ↦ absurd none ];
        from = λ k out which n free other. elim which [ inl victim ↦ absurd (other (victim ∙ same.victim)) | inr loose ↦ absurd (out loose) ];
      }) b

  -- and goes into its bin
  pub joined_binned : {last : Dlmalloc A} → IsRebinned regions word follows new last → last ≡ record new { system = last.system; bins = last.bins } →
      (follows_on : (x y z : A) (a b c : List Event) → follows x a y → follows y b z → a ++ b ≡ c → follows x c z) → ((k : ℕ) →
      grant.base ≤ k → k < grant.base + grant.size → IsInFree (state_of word new) k → ⊥) → IsGrantJoined regions word follows heap grant last
  joined_binned {last} r fields follows_on none_in = record {
    state = λ n. r.state ∙ j.state n;
    sound = r.sound;
    there = subst (λ h. 0 < h.size) (sym fields) j.there;
    room = subst (λ h. grant.size ≤ h.top_size + 80) (sym fields) j.room;
    begins = subst (λ h. BeginsTop heap grant h.top) (sym fields) j.begins;
    regions_same = r.regions_same ∙ j.regions_same;
    followed = follows_on heap.system new.system last.system [] [] [] j.followed r.followed refl;
    used = subst (HasSameUsed (state_of word heap)) (sym r.state) j.used;
    words = λ k inside was own recorded. r.words k (subst (λ rs. IsWordOf rs k) (sym j.regions_same) inside)
        (out_of (state_of word new) k (λ f. own (inr (subst (λ s. IsInFree s k) (sym r.state) f)))) ∙ j.words k inside
        (λ boundary. own (inl (subst (λ s. IsBoundary s k) (sym r.state) boundary))) (λ tag. recorded (subst (λ s. IsInRecord s k) (sym r.state) tag));
    new_words = λ k inside low high not_top not_foot. r.words k (subst (λ rs. IsWordOf rs k) (sym j.regions_same) inside)
        (out_of (state_of word new) k (none_in k low high)) ∙ j.new_words k inside low high (λ is. not_top (is ∙ ap (λ h. h.top + 8) (sym fields)))
        (λ is. not_foot (is ∙ ap (λ h. h.top + h.top_size + 8) (sym fields)));
  }

-- ---- no word of the grant is in a free extent

module _ {A : Type 0} {regions : A → List Grant} {word : A → ℕ → ℕ} {heap : Dlmalloc A} (new : Dlmalloc A) (sound : IsSound regions word heap)
    (some : 0 < heap.size) {grant : Grant} (fresh : IsFreshGrant (regions heap.system) (segments_of word heap) grant)
    (moves : FreeMoves (state_of word heap) (state_of word new) [] (if nat_le 32 heap.top_size then heap.top ∷ [] else [])) (many : 32 ≤ heap.top_size)
    (rest : IsFreeAt (state_of word new) heap.top heap.top_size) where
  -- an extent of the heap is beside the grant
  beside_grant : {one : Extent} → extent_at one.at (extents_in (state_of word heap)) ≡ Some one →
      (one.at + one.size ≤ grant.base) ⊎ (grant.base + grant.size ≤ one.at)
  beside_grant there = within (regions heap.system) (word heap.system) (opened grant) (segments_of word heap) sound.segments
      (flip (opened grant) (segments_of word heap) fresh.apart) there

  pub none_in_grant : (k : ℕ) → grant.base ≤ k → k < grant.base + grant.size → IsInFree (state_of word new) k → ⊥
  none_in_grant k low high f = go (f.at == heap.top) refl
    where
      test : nat_le 32 heap.top_size ≡ true
      test = grind (arith, nat_tests)

      out : (size : ℕ) → (kind : Kind) → extent_at f.at (extents_in (state_of word heap)) ≡ Some (extent f.at size kind) → f.size ≡ size → ⊥
      out size kind there same = (let above = f.low in let below = f.high in elim (beside_grant there) [ inl before ↦ omega arith | inr behind ↦ omega arith ])

      go : (t : Bool) → (f.at == heap.top) ≡ t → ⊥
      go true is =
          let place = nat_is is in
          out heap.top_size Top (subst (λ a. extent_at a (extents_in (state_of word heap)) ≡ Some (extent a heap.top_size Top)) (sym place)
          (top_among sound some)) (one_size (state_of word new) (subst (λ a. IsFreeAt (state_of word new) a f.size) place f.free) rest)
      go false is =
          let m = subst (λ b. FreeMoves (state_of word heap) (state_of word new) [] (if b then heap.top ∷ [] else [])) test moves in
          out f.size Free (m.was f.at f.size f.free (λ came. elim came
          [ inl same ↦ (let no : (f.at == heap.top) ≡ true = (let e = same in grind (arith, nat_tests)) in cc) | inr none ↦ none ])).0 refl

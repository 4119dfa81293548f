-- Chunks go into bins and leave them, and the heap moves.
use Rattle.dlmalloc.proofs.Names.{◌≡◌, ◌≢◌, ℕ, ◌+◌, ◌<◌, ◌≤◌, ◌⊎◌, inl, inr, List, [], ◌∷◌, Some, IsTrue, refl, sym, ◌∙◌, ap, subst, arith, list_any, AllByRecursion, Grant, IsWordOf, Event, Extent, Free, Record, Bins, IsIn, with_chunk, without_chunk, OnlyLinksChange, IndexStays, extent_at, Segment, extents_in, IsFlaggedRun, has_byte_in, segments_of, state_of, IsSound, IsFreeAt, HoldsBut, IsBinnedBut, IsBinned, OnlyFreeChange, IsRebinned, FreeMoves, MovesBesideBins, Dlmalloc}
use Rattle.dlmalloc.specs.Order.{KeepsIndex}
use Rattle.bins.specs.Linked.{IsLinked, IsFreshChunk}
use Rattle.dlmalloc.proofs.Words.Telling.{IsTelling, sound_told, state_told}
use Rattle.dlmalloc.proofs.Bins.Held.{AreAccounted, binned_one, unbinned_one, still_free, holds_moved, looser, tighter}
use Rattle.dlmalloc.proofs.Words.OfLinks.{OthersStay, is_chunk, same_or_beside, free_apart, only_free, kept}

-- ---- links are stored

module _ {A : Type 0} {regions : A → List Grant} {word : A → ℕ → ℕ} (follows : A → List Event → A → Type 0) {heap : Dlmalloc A}
    (sound : IsSound regions word heap) (system : A) (bins : Bins) (same : regions system ≡ regions heap.system)
    (only : OnlyFreeChange (regions heap.system) (state_of word heap) (word heap.system) (word system)) (followed : follows heap.system [] system) where
  -- the words that describe the heap's extents stay
  telling : (one : Extent) → extent_at one.at (extents_in (state_of word heap)) ≡ Some one → (k : ℕ) → IsTelling k one →
      IsWordOf (regions heap.system) k → IsTrue (list_any (has_byte_in k) (segments_of word heap)) → word system k ≡ word heap.system k
  telling one there k tells granted inside = only k granted (λ at size free. out at size (same_or_beside sound free there))
    where
      out : (at size : ℕ) → (one ≡ record {
        at = at;
        size = size;
        kind =
            Free;
      }) ⊎ ((one.at + one.size ≤ at) ⊎ (at + size ≤ one.at)) → (k < at + 16) ⊎ (at + size ≤ k)
      out at size (inl is) =
          let place : one.at ≡ at = ap (λ e. e.at) is in
          let long : one.size ≡ size = ap (λ e. e.size) is in
          elim (tells.3) [
            | inl head ↦ inl (omega arith)
            | inr other ↦ elim other [ inl tail ↦ absurd (let no : Free ≡ Record = ap (λ e. e.kind) (sym is) ∙ tail in cc) | inr end ↦ inr (omega arith) ]
          ]
      out at size (inr (inl before)) = (let below = tells.1 in inl (omega arith))
      out at size (inr (inr behind)) = (let above = tells.0 in inr (omega arith))

  runs : (segments : List Segment) → AllByRecursion (λ segment. IsFlaggedRun (regions heap.system) segment.base segment.size segment.flags →
      IsFlaggedRun (regions system) segment.base segment.size segment.flags) segments
  runs [] = tt
  runs (segment ∷ segments) = ((λ run. subst (λ rs. IsFlaggedRun rs segment.base segment.size segment.flags) (sym same) run), runs segments)

  pub rebinned : IsRebinned regions word follows heap (record heap { system = system; bins = bins })
  rebinned = record {
    sound = sound_told sound system bins (runs (segments_of word heap)) telling;
    state = state_told sound system bins (runs (segments_of word heap)) telling;
    fields = refl;
    words = only;
    regions_same = same;
    followed = followed;
  }

-- ---- one chunk

module _ {A : Type 0} {regions : A → List Grant} {word : A → ℕ → ℕ} {heap : Dlmalloc A} (sound : IsSound regions word heap) {at size : ℕ}
    (free : IsFreeAt (state_of word heap) at size) where
  module _ {loose : List ℕ} (b : IsBinnedBut (at ∷ loose) regions word heap) where
    -- it shares no byte with one of the index
    pub fresh : IsFreshChunk (regions heap.system) (word heap.system) b.index size at
    fresh = record {
      is = is_chunk sound free;
      apart = λ n other is. free_apart regions word heap sound free (b.holds.free other n is) (λ same. b.holds.not_loose other n is (inl (sym same)));
    }

    -- it went into its bin
    abbrev pub now_binned : (system : A) {bins : Bins} → IsLinked (regions system) (word system) bins (with_chunk size at b.index) →
        state_of word (record heap { system = system; bins = bins }) ≡ state_of word heap → at ≢ heap.victim →
        (IsIn at loose → ⊥) → IsBinnedBut loose regions word (record heap { system = system; bins = bins })
    now_binned system linked same other apart = record {
      index = with_chunk size at b.index;
      linked = linked;
      holds = subst (λ s. HoldsBut loose s (with_chunk size at b.index)) (sym same)
          (binned_one loose (state_of word heap) b.index at size b.holds free other apart);
    }

  module _ {loose : List ℕ} (b : IsBinnedBut loose regions word heap) where
    -- it is in its bin
    pub is_binned : at ≢ heap.victim → (IsIn at loose → ⊥) → IsIn at (b.index size)
    is_binned other apart = b.holds.all at size free other apart

    -- it left it
    abbrev pub now_loose : (system : A) {bins : Bins} → IsLinked (regions system) (word system) bins (without_chunk size at b.index) →
        state_of word (record heap { system = system; bins = bins }) ≡ state_of word heap →
        IsBinnedBut (at ∷ loose) regions word (record heap { system = system; bins = bins })
    now_loose system linked same = record {
      index = without_chunk size at b.index;
      linked = linked;
      holds = subst (λ s. HoldsBut (at ∷ loose) s (without_chunk size at b.index)) (sym same)
          (unbinned_one loose (state_of word heap) b.index at size b.holds b.linked.chunks.once free);
    }

    -- if its links are stored, or those to it, chunks went into bins or left them
    pub relinked : {follows : A → List Event → A → Type 0} (system : A) (bins : Bins) → regions system ≡ regions heap.system →
        OnlyLinksChange (regions heap.system) b.index size at (word heap.system) (word system) → follows heap.system [] system →
        IsRebinned regions word follows heap (record heap { system = system; bins = bins })
    relinked {follows} system bins same links followed =
        let only = only_free (state_of word heap) at (word heap.system) (word system) b.linked.chunks b.holds.free free (is_chunk sound free).long links in
        rebinned follows sound system bins same only followed

    -- the victim is in none
    abbrev pub victim_loose : at ≡ heap.victim → IsBinnedBut (at ∷ loose) regions word heap
    victim_loose is = record {
      index = b.index;
      linked = b.linked;
      holds =
          looser loose (state_of word heap) b.index at b.holds (λ n there. b.holds.no_victim at n there is);
    }

-- an address at which no chunk is free needs to be in no bin, and may be named so
abbrev pub none_loose : {A : Type 0} {regions : A → List Grant} {word : A → ℕ → ℕ} {heap : Dlmalloc A} (at : ℕ) (loose : List ℕ) →
    IsBinnedBut loose regions word heap → ((n : ℕ) → IsFreeAt (state_of word heap) at n → ⊥) → IsBinnedBut (at ∷ loose) regions word heap
none_loose {word} {heap} at loose b none =
    record { index = b.index; linked = b.linked; holds = looser loose (state_of word heap) b.index at b.holds (λ n is. none n (b.holds.free at n is)) }

abbrev pub none_binned : {A : Type 0} {regions : A → List Grant} {word : A → ℕ → ℕ} {heap : Dlmalloc A} {at : ℕ} {loose : List ℕ} → IsBinnedBut
    (at ∷ loose) regions word heap → ((n : ℕ) → IsFreeAt (state_of word heap) at n → at ≡ heap.victim) → IsBinnedBut loose regions word heap
none_binned {word} {heap} {at} {loose} b none = record {
  index = b.index;
  linked = b.linked;
  holds =
      tighter loose (state_of word heap) b.index at b.holds none;
}

-- the address that is in no bin has another name
abbrev pub renamed : {A : Type 0} {regions : A → List Grant} {word : A → ℕ → ℕ} {heap : Dlmalloc A} {at other : ℕ} → at ≡ other →
    IsBinnedBut (at ∷ []) regions word heap → IsBinnedBut (other ∷ []) regions word heap
renamed {word} {heap} same b = record { index = b.index; linked = b.linked; holds = subst (λ k. HoldsBut (k ∷ []) (state_of word heap) b.index) same b.holds }

-- nothing is done
pub not_rebinned : {A : Type 0} {regions : A → List Grant} {word : A → ℕ → ℕ} (follows : A → List Event → A → Type 0) {heap : Dlmalloc A} →
    IsSound regions word heap → follows heap.system [] heap.system → IsRebinned regions word follows heap heap
not_rebinned follows sound followed = record {
  sound = sound;
  state = refl;
  fields = refl;
  words = λ k granted out. refl;
  regions_same = refl;
  followed = followed;
}

-- ---- the heap moves

abbrev pub binned_moved : IndexStays → {A : Type 0} {regions : A → List Grant} {word : A → ℕ → ℕ} {old new : Dlmalloc A} →
    IsSound regions word old → IsSound regions word new → OthersStay regions word old new → new.bins ≡ old.bins →
    {loose loose' less more : List ℕ} → FreeMoves (state_of word old) (state_of word new) less more →
    AreAccounted (state_of word old) (state_of word new) loose loose' less more → IsBinnedBut loose regions word old → IsBinnedBut loose' regions word new
binned_moved stays {regions} {word} {old} {new} sound sound' others same moves are b = record {
  index = b.index;
  linked = subst (λ bins. IsLinked (regions new.system) (word new.system) bins b.index) (sym same)
      (stays (regions old.system) (regions new.system) (word old.system) (word new.system) old.bins b.index b.linked
      (kept regions word old new sound sound' others b.index b.holds.free (λ at size is. (still_free b.holds moves are at size is).0)));
  holds = holds_moved b.holds moves are;
}

-- the bins stay, if no free extent but the top changes, and the victim stays
abbrev pub binned_same : IndexStays → {A : Type 0} {regions : A → List Grant} {word : A → ℕ → ℕ} {old new : Dlmalloc A} →
    IsSound regions word old → IsSound regions word new → OthersStay regions word old new → new.bins ≡ old.bins →
    FreeMoves (state_of word old) (state_of word new) [] [] → new.victim ≡ old.victim → IsBinned regions word old → IsBinned regions word new
binned_same stays sound sound' others same moves victim b = binned_moved stays sound sound' others same {loose = []} {loose' = []} moves (record {
  gone = λ k none n free other. none;
  come = λ k none n free other. none;
  still = λ k out which n free other. elim which [ inl is ↦ absurd (other (is ∙ sym victim)) | inr none ↦ none ];
  from = λ k out which n free other. elim which [ inl is ↦ absurd (other (is ∙ victim)) | inr none ↦ none ];
}) b

-- so they do if the heap moved with no region more
abbrev pub binned_beside : IndexStays → {A : Type 0} {regions : A → List Grant} {word : A → ℕ → ℕ} {follows : A → List Event → A → Type 0}
    {old new : Dlmalloc A} → IsSound regions word old → MovesBesideBins regions word follows old [] [] new → new.victim ≡ old.victim →
    IsBinned regions word old → IsBinned regions word new
binned_beside stays sound m =
    binned_same stays sound m.moved.sound (λ k was is boundary tag tag'. m.moved.words k was boundary) m.bins m.free

-- the countdown and the trim check do not matter
abbrev pub same_bins : {A : Type 0} {regions : A → List Grant} {word : A → ℕ → ℕ} {heap : Dlmalloc A} (countdown : ℕ) →
    IsBinned regions word heap → IsBinned regions word (record heap { countdown = countdown })
same_bins countdown b = record {
  index = b.index;
  linked = b.linked;
  holds =
      record { all = b.holds.all; free = b.holds.free; no_victim = b.holds.no_victim; not_loose = b.holds.not_loose };
}

-- the bins do not depend on the settings
pub same_settings : {A : Type 0} (regions : A → List Grant) (word : A → ℕ → ℕ) (heap : Dlmalloc A) (granularity rate countdown : ℕ) →
    KeepsIndex regions word heap (record heap { granularity = granularity; rate = rate; countdown = countdown })
same_settings regions word heap granularity rate countdown b = (
  record {
    index = b.index;
    linked = b.linked;
    holds =
        record { all = b.holds.all; free = b.holds.free; no_victim = b.holds.no_victim; not_loose = b.holds.not_loose };
  },
  λ n. refl,
)

abbrev pub same_check : {A : Type 0} {regions : A → List Grant} {word : A → ℕ → ℕ} {heap : Dlmalloc A} (check : ℕ) →
    IsBinned regions word heap → IsBinned regions word (record heap { trim_check = check })
same_check check b = record {
  index = b.index;
  linked = b.linked;
  holds =
      record { all = b.holds.all; free = b.holds.free; no_victim = b.holds.no_victim; not_loose = b.holds.not_loose };
}

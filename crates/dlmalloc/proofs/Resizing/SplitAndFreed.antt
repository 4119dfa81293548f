-- A chunk in use is split, and one of the two is freed.
use Rattle.dlmalloc.proofs.Names.{◌≡◌, ◌≢◌, ℕ, ◌+◌, ◌-◌, inl, inr, List, Some, refl, sym, ◌∙◌, ap, subst, arith, Grant, Event, IsWordOf, Extent, Used, extent_at, extents_in, HasOneMore, IsBoundary, IsInFree, IsOwn, OnlyOwnChange, freed, exchanged, halves, tail_freed, CanSplit, HasSameOthers, HasOneMoved, KeepsOthers, state_of, IsSound, IsTurned, Dlmalloc, IsSplit}
use Rattle.dlmalloc.proofs.Extents.Lookup.{extent}
use Rattle.dlmalloc.proofs.Laws.{used_apart}
use Rattle.dlmalloc.proofs.Frees.Behind.{next_boundary}
use Rattle.dlmalloc.proofs.Blocks.WordsKept.{blocks_law, keeps_on}

module _ {A : Type 0} {regions : A → List Grant} {word : A → ℕ → ℕ} {follows : A → List Event → A → Type 0} {heap middle new : Dlmalloc A}
    (sound : IsSound regions word heap) {at size n : ℕ} (can : CanSplit (state_of word heap) at size n)
    (split : IsSplit regions word follows heap at size n middle) (moved : IsTurned regions word follows middle new) where
  -- a word that is granted before is granted after the split
  still : (k : ℕ) → IsWordOf (regions heap.system) k → IsWordOf (regions middle.system) k
  still k is = subst (λ rs. IsWordOf rs k) (sym split.moves.moved.regions_same) is

  -- what is in no free extent is in none after the split
  no_free : (k : ℕ) → (IsInFree (state_of word heap) k → ⊥) → IsInFree (state_of word middle) k → ⊥
  no_free k was f = was (record { at = f.at; size = f.size; free = (split.moves.free.was f.at f.size f.free (λ none. none)).0; low = f.low; high = f.high })

  -- no other extent in use begins in the chunk
  inside : {used : Extent} → used.at ≢ at → extent_at used.at (extents_in (state_of word heap)) ≡ Some used → used.at ≢ at + n
  inside {used} other found same =
      elim (used_apart regions word heap sound used (extent at size Used) found can.chunk other) [
        | inl before ↦ (let e : used.at ≡ at + n = same in let l = can.bytes.least in omega arith)
        | inr behind ↦ (let e : used.at ≡ at + n = same in let r = can.room in omega arith)
      ]

  -- ---- the second was freed

  module _ (state : state_of word new ≡ freed (state_of word middle) (at + n)) (less : HasOneMore (state_of word new) (state_of word middle) (at + n)) where
    pub tail_state : state_of word new ≡ tail_freed (state_of word heap) at n
    tail_state = state ∙ ap (λ s. freed s (at + n)) split.state

    pub tail_first : extent_at at (extents_in (state_of word new)) ≡ Some (extent at n Used)
    tail_first = less.only (extent at n Used) refl split.first (λ same. absurd (let e : at ≡ at + n = same in omega arith))

    pub tail_others : HasSameOthers (state_of word heap) (state_of word new) at at
    tail_others = record {
      kept = λ used is other again found.
          let beside : used.at ≢ at + n = inside other found in
          less.only used is (split.others.kept used is other beside found) beside;
      only = λ used is other again found. split.others.only used is other (less.new used is found) (less.kept used is found);
    }

    pub tail_words : OnlyOwnChange (regions heap.system) (state_of word heap) (state_of word new) (word heap.system) (word new.system)
    tail_words k is was own =
        moved.words k (still k is) (no_free k was) own ∙ split.words k is
        (λ e. own (inl (subst (IsBoundary (state_of word new)) (sym e) (record { extent = extent at n Used; there = tail_first; is = inl refl }))))
        (λ e. own (inl (subst (IsBoundary (state_of word new)) (sym e) (next_boundary moved.sound tail_first))))

  -- ---- the first was freed

  module _ (state : state_of word new ≡ freed (state_of word middle) at) (less : HasOneMore (state_of word new) (state_of word middle) at) where
    pub lead_state : state_of word new ≡ freed (exchanged (state_of word heap) at (halves n)) at
    lead_state = state ∙ ap (λ s. freed s at) split.state

    pub lead_second : extent_at (at + n) (extents_in (state_of word new)) ≡ Some (extent (at + n) (size - n) Used)
    lead_second = less.only (extent (at + n) (size - n) Used) refl split.second (λ same. absurd (let e : at + n ≡ at = same in omega arith))

    pub lead_others : HasOneMoved (state_of word heap) (state_of word new) at (at + n)
    lead_others = record {
      kept = λ used is other found. less.only used is (split.others.kept used is other (inside other found) found) other;
      only = λ used is beside found. split.others.only used is (less.new used is found) beside (less.kept used is found);
      apart = λ used is other found. inside other found;
      gone = λ used is beside found. less.new used is found;
    }

    pub lead_kept : KeepsOthers (state_of word heap) at (word heap.system) (word new.system)
    lead_kept blocks others =
        keeps_on (blocks_law sound split.moves.moved.sound (λ k inside was own. split.moves.moved.words k inside (λ boundary. own (inl boundary))) blocks
        (λ used there is. (let o = others used is there in (o.1, then_there used is o.0 o.1)))) (blocks_law split.moves.moved.sound moved.sound moved.words blocks
        (λ used there is. (let o = others used is there in (then_there used is o.0 o.1, less.only used is (then_there used is o.0 o.1) o.0))))
      where
        then_there : (used : Extent) → used.kind ≡ Used → used.at ≢ at → extent_at used.at (extents_in (state_of word heap)) ≡ Some used →
            extent_at used.at (extents_in (state_of word middle)) ≡ Some used
        then_there used is other found = split.others.kept used is other (inside other found) found

    pub lead_words : (k : ℕ) → IsWordOf (regions heap.system) k → k ≢ at + 8 → (IsInFree (state_of word heap) k → ⊥) →
        (IsOwn (state_of word new) k → ⊥) → word new.system k ≡ word heap.system k
    lead_words k is other was own =
        moved.words k (still k is) (no_free k was) own ∙ split.words k is other (λ e. own
        (inl (subst (IsBoundary (state_of word new)) (sym e) (record { extent = extent (at + n) (size - n) Used; there = lead_second; is = inl refl }))))

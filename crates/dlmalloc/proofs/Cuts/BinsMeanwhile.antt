-- What is in no bin while a free chunk is cut.
use Rattle.dlmalloc.proofs.Names.{◌≡◌, ◌≢◌, ℕ, ◌+◌, ◌<◌, ◌≤◌, ◌⊎◌, inl, inr, Bool, true, false, ◌==◌, ◌&&◌, nat_le, nat_lt, if◌then◌else◌, List, [], ◌∷◌, refl, sym, ◌∙◌, ap, subst, arith, nat_tests, Grant, Used, Free, Event, IsIn, IndexStays, HeapState, victim_after, taken, grown_into, state_of, IsSound, IsFreeAt, IsBinnedBut, IsBinned, FreeMoves, IsMoved, Dlmalloc, KeepsOrder, AreInOrder, IsChunkCut, IsPartJoined}
use Rattle.dlmalloc.proofs.Extents.Lookup.{extent, nat_is}
use Rattle.dlmalloc.proofs.Cuts.Chosen.{free_low}
use Rattle.dlmalloc.proofs.Bins.Held.{AreAccounted}
use Rattle.dlmalloc.proofs.Bins.Changes.{binned_moved}
use Rattle.dlmalloc.proofs.Bins.Order.{order_same}

-- The chunk at an address gave way, and left `more` free, or nothing.
module _ {A : Type 0} {regions : A → List Grant} {word : A → ℕ → ℕ} {old : Dlmalloc A} (new : Dlmalloc A)
    (sound : IsSound regions word old) {at : ℕ} {more : List ℕ} (moves : FreeMoves (state_of word old) (state_of word new) (at ∷ []) more) where
  -- it was the victim, and its rest is, if it has one
  pub victim_cut : at ≡ old.victim → (IsIn new.victim more) ⊎ (new.victim ≡ 0) →
      ((k : ℕ) → IsIn k more → k ≡ new.victim) → AreAccounted (state_of word old) (state_of word new) [] [] (at ∷ []) more
  victim_cut was now only = record {
    gone = λ k is n free other. elim is [ inl same ↦ absurd (other (same ∙ was)) | inr none ↦ none ];
    come = λ k is n free other. absurd (other (only k is));
    still = λ k out which n free other. elim which [ inl victim ↦ absurd (out (inl (victim ∙ sym was))) | inr none ↦ none ];
    from = λ k out which n free other. elim which [
      | inl victim ↦ elim now [
        | inl there ↦ absurd (out (subst (λ a. IsIn a more) (sym victim) there))
        | inr zero ↦ absurd (let low = free_low sound free in omega arith)
      ]
      | inr none ↦ none
    ];
  }

  -- it was in no bin, and its rest is the victim: the old victim is in no bin
  pub rest_victim : {rest : ℕ} → more ≡ rest ∷ [] → new.victim ≡ rest →
      AreAccounted (state_of word old) (state_of word new) (at ∷ []) (old.victim ∷ []) (at ∷ []) more
  rest_victim is now = record {
    gone = λ k is n free other. is;
    come = λ k there n free other. absurd (elim (subst (IsIn k) is there) [ inl same ↦ other (same ∙ sym now) | inr none ↦ none ]);
    still = λ k out which n free other. elim which [ inl victim ↦ inl victim | inr loose ↦ absurd (out loose) ];
    from = λ k out which n free other. elim which [
      | inl victim ↦ absurd (out (subst (IsIn k) (sym is) (inl (victim ∙ now))))
      | inr loose ↦ elim loose [ inl victim ↦ absurd (other victim) | inr none ↦ absurd none ]
    ];
  }

  -- the victim stays, and the rest is in no bin, if there is one
  pub victim_stays : new.victim ≡ old.victim → AreAccounted (state_of word old) (state_of word new) (at ∷ []) more (at ∷ []) more
  victim_stays same = record {
    gone = λ k is n free other. is;
    come = λ k is n free other. is;
    still = λ k out which n free other. elim which [ inl victim ↦ absurd (other (victim ∙ sym same)) | inr loose ↦ absurd (out loose) ];
    from = λ k out which n free other. elim which [ inl victim ↦ absurd (other (victim ∙ same)) | inr loose ↦ absurd (out loose) ];
  }

  -- what came is not the old victim, if that is another chunk
  pub rest_other : (rest : ℕ) {size : ℕ} → IsIn rest more → IsFreeAt (state_of word old) old.victim size → at ≢ old.victim → rest ≢ old.victim
  rest_other rest {size} there free other same =
      (moves.stays old.victim size free (λ is. elim is [ inl victim ↦ other (sym victim) | inr none ↦ none ])).1 (subst (λ a. IsIn a more) same there)

  -- and that is free still
  pub victim_free : {size : ℕ} → IsFreeAt (state_of word old) old.victim size → at ≢ old.victim → IsFreeAt (state_of word new) old.victim size
  victim_free {size} free other = (moves.stays old.victim size free (λ is. elim is [ inl victim ↦ other (sym victim) | inr none ↦ none ])).0

-- ---- the bins of a heap in which a chunk gave way

-- The free chunk at an address gave way. A rest at another address stays free, if there is one.
module _ (stays : IndexStays) {A : Type 0} {regions : A → List Grant} {word : A → ℕ → ℕ} {follows : A → List Event → A → Type 0}
    {old new : Dlmalloc A} (sound : IsSound regions word old) (moved : IsMoved regions word follows old new) (bins : new.bins ≡ old.bins)
    (at rest : ℕ) where
  abbrev on : {loose loose' less more : List ℕ} → FreeMoves (state_of word old) (state_of word new) less more →
      AreAccounted (state_of word old) (state_of word new) loose loose' less more → IsBinnedBut loose regions word old → IsBinnedBut loose' regions word new
  on = binned_moved stays sound moved.sound (λ k was is boundary tag tag'. moved.words k was boundary) bins

  -- the rest is the victim
  abbrev pub victim_rest : FreeMoves (state_of word old) (state_of word new) (at ∷ []) (rest ∷ []) → at ≡ old.victim → new.victim ≡ rest →
      IsBinned regions word old → IsBinned regions word new
  victim_rest moves was now = on moves
      (victim_cut new sound moves was (inl (inl now)) (λ k there. elim there [ inl same ↦ same ∙ sym now | inr none ↦ absurd none ]))

  abbrev pub victim_gone : FreeMoves (state_of word old) (state_of word new) (at ∷ []) [] → at ≡ old.victim →
      new.victim ≡ 0 → IsBinned regions word old → IsBinned regions word new
  victim_gone moves was now = on moves (victim_cut new sound moves was (inr now) (λ k none. absurd none))

  -- the victim stays
  abbrev pub binned_gone : FreeMoves (state_of word old) (state_of word new) (at ∷ []) [] → new.victim ≡ old.victim →
      IsBinnedBut (at ∷ []) regions word old → IsBinned regions word new
  binned_gone moves same = on moves (victim_stays new sound moves same)

  abbrev pub binned_rest : FreeMoves (state_of word old) (state_of word new) (at ∷ []) (rest ∷ []) → new.victim ≡ old.victim →
      IsBinnedBut (at ∷ []) regions word old → IsBinnedBut (rest ∷ []) regions word new
  binned_rest moves same = on moves (victim_stays new sound moves same)

  pub rest_no_victim : FreeMoves (state_of word old) (state_of word new) (at ∷ []) (rest ∷ []) → at ≢ old.victim →
      new.victim ≡ old.victim → 0 < rest → rest ≢ new.victim
  rest_no_victim moves other same some is = go (old.victim_size == 0) refl
    where
      go : (t : Bool) → (old.victim_size == 0) ≡ t → ⊥
      go true test = (let zero = sound.no_victim (nat_is test) in let sum : rest ≡ 0 = is ∙ (same ∙ zero) in omega arith)
      go false test = rest_other new sound moves rest (inl refl)
          (sound.victim (λ none. (let t : (old.victim_size == 0) ≡ true = (let e = none in grind (arith, nat_tests)) in cc))) other (is ∙ same)

  -- the rest became the victim
  abbrev pub small_rest : FreeMoves (state_of word old) (state_of word new) (at ∷ []) (rest ∷ []) → new.victim ≡ rest →
      IsBinnedBut (at ∷ []) regions word old → IsBinnedBut (old.victim ∷ []) regions word new
  small_rest moves now = on moves (rest_victim new sound moves refl now)

-- ---- the two ways of a cut

-- if a rest stays free, and if none does
module _ {old new : HeapState} {at : ℕ} (rest n size : ℕ) (moves : FreeMoves old new (at ∷ []) (if nat_le (n + 32) size then rest ∷ [] else [])) where
  pub moves_rest : n + 32 ≤ size → FreeMoves old new (at ∷ []) (rest ∷ [])
  moves_rest room = (let test : nat_le (n + 32) size ≡ true = grind (arith, nat_tests) in
      subst (λ b. FreeMoves old new (at ∷ []) (if b then rest ∷ [] else [])) test moves)

  pub moves_whole : size < n + 32 → FreeMoves old new (at ∷ []) []
  moves_whole little = (let test : nat_le (n + 32) size ≡ false = grind (arith, nat_tests) in
      subst (λ b. FreeMoves old new (at ∷ []) (if b then rest ∷ [] else [])) test moves)

-- the victim after a chunk was taken, by what is asked of the chunk
victim_of : (heap : HeapState) (at size n : ℕ) (was rest small : Bool) → (at == heap.victim) ≡ was → nat_le (n + 32) size ≡ rest → nat_lt n 256 ≡ small →
    victim_after heap n (extent at size Free) ≡ (if was then (if rest then at + n else 0) else if rest && small then at + n else heap.victim)
victim_of heap at size n was rest small first second third =
    λ i. if first i then (if second i then at + n else 0) else if second i && third i then at + n else heap.victim

-- ---- a chunk is taken

module _ (stays : IndexStays) {A : Type 0} {regions : A → List Grant} {word : A → ℕ → ℕ} {follows : A → List Event → A → Type 0}
    {old new : Dlmalloc A} (sound : IsSound regions word old) {at size n : ℕ} (cut : IsChunkCut regions word follows old at size n new) where
  pub victim_is : (was rest small : Bool) → (at == old.victim) ≡ was → nat_le (n + 32) size ≡ rest → nat_lt n 256 ≡ small →
      new.victim ≡ (if was then (if rest then at + n else 0) else if rest && small then at + n else old.victim)
  victim_is was rest small first second third = ap (λ s. s.victim) cut.taken.state ∙ victim_of (state_of word old) at size n was rest small first second third

  -- of the victim
  pub victim_taken : at ≡ old.victim → KeepsOrder regions word old new
  victim_taken is b = go (nat_le (n + 32) size) refl
    where
      mine : (at == old.victim) ≡ true
      mine = (let e = is in grind (arith, nat_tests))

      go : (t : Bool) → nat_le (n + 32) size ≡ t → (after : IsBinned regions word new) × AreInOrder b.index after.index
      go true test = (
        victim_rest stays sound cut.moves.moved cut.moves.bins at (at + n) (moves_rest (at + n) n size cut.moves.free (grind (arith, nat_tests))) is
            (victim_is true true (nat_lt n 256) mine test refl) b,
        order_same b.index,
      )
      go false test = (
        victim_gone stays sound cut.moves.moved cut.moves.bins at (at + n) (moves_whole (at + n) n size cut.moves.free (grind (arith, nat_tests))) is
            (victim_is true false (nat_lt n 256) mine test refl) b,
        order_same b.index,
      )

  -- the old victim is free still, unless there was none
  pub old_victim_free : at ≢ old.victim → old.victim_size ≢ 0 → IsFreeAt (state_of word new) old.victim old.victim_size
  old_victim_free other some = victim_free new sound cut.moves.free (sound.victim some) other

  pub old_victim_none : old.victim_size ≡ 0 → (bytes : ℕ) → IsFreeAt (state_of word new) old.victim bytes → ⊥
  old_victim_none none bytes free = (let low = free_low cut.moves.moved.sound free in let zero = sound.no_victim none in omega arith)

  module _ (other : at ≢ old.victim) where
    pub apart : (at == old.victim) ≡ false
    apart = (let o = other in grind (arith, nat_tests))

    -- of another, with no rest
    abbrev pub whole_taken : IsBinnedBut (at ∷ []) regions word old → size < n + 32 → IsBinned regions word new
    whole_taken loose little =
        let test : nat_le (n + 32) size ≡ false = grind (arith, nat_tests) in
        binned_gone stays sound cut.moves.moved cut.moves.bins at (at + n) (moves_whole (at + n) n size cut.moves.free little)
        (victim_is false false (nat_lt n 256) apart test refl) loose

    module _ (room : n + 32 ≤ size) where
      abbrev parts : FreeMoves (state_of word old) (state_of word new) (at ∷ []) ((at + n) ∷ [])
      parts = moves_rest (at + n) n size cut.moves.free room

      rests : nat_le (n + 32) size ≡ true
      rests = grind (arith, nat_tests)

      pub small_victim : n < 256 → new.victim ≡ at + n
      small_victim small = victim_is false true true apart rests (grind (arith, nat_tests))

      pub large_victim : 256 ≤ n → new.victim ≡ old.victim
      large_victim many = victim_is false true false apart rests (grind (arith, nat_tests))

      -- with a rest that is not the victim
      abbrev pub large_taken : 256 ≤ n → IsBinnedBut (at ∷ []) regions word old → IsBinnedBut ((at + n) ∷ []) regions word new
      large_taken many = binned_rest stays sound cut.moves.moved cut.moves.bins at (at + n) parts (large_victim many)

      -- with a rest that is
      abbrev pub small_taken : n < 256 → IsBinnedBut (at ∷ []) regions word old → IsBinnedBut (old.victim ∷ []) regions word new
      small_taken small = small_rest stays sound cut.moves.moved cut.moves.bins at (at + n) parts (small_victim small)

      pub large_other : 256 ≤ n → at + n ≢ new.victim
      large_other many = rest_no_victim stays sound cut.moves.moved cut.moves.bins at (at + n) parts other (large_victim many) (omega arith)

      pub small_other : n < 256 → old.victim_size ≢ 0 → old.victim ≢ new.victim
      small_other small some same = rest_other new sound parts (at + n) (inl refl) (sound.victim some) other (sym (small_victim small) ∙ sym same)

      -- what came was no free chunk
      pub rest_came : (m : ℕ) → IsFreeAt (state_of word old) (at + n) m → 0 < n → ⊥
      rest_came m free some = (parts.stays (at + n) m free (λ is. elim is [ inl same ↦ (let e = same in omega arith) | inr none ↦ none ])).1 (inl refl)

-- ---- a chunk takes the free one after it, or bytes of it

module _ (stays : IndexStays) {A : Type 0} {regions : A → List Grant} {word : A → ℕ → ℕ} {follows : A → List Event → A → Type 0}
    {old new : Dlmalloc A} (sound : IsSound regions word old) {at size free n : ℕ}
    (joined : IsPartJoined regions word follows old at size free n new) where
  victim_grown : new.victim ≡ (grown_into (state_of word old) (extent at size Used) (extent (at + size) free Free) n).victim
  victim_grown = ap (λ s. s.victim) joined.state

  -- of the victim
  pub into_victim : at + size ≡ old.victim → (b : IsBinned regions word old) → (after : IsBinned regions word new) × ((k : ℕ) → after.index k ≡ b.index k)
  into_victim is b = go (nat_le (n + 32) (size + free)) refl
    where
      mine : (at + size == old.victim) ≡ true
      mine = (let e = is in grind (arith, nat_tests))

      go : (t : Bool) → nat_le (n + 32) (size + free) ≡ t → (after : IsBinned regions word new) × ((k : ℕ) → after.index k ≡ b.index k)
      go true test = (
        victim_rest stays sound joined.moves.moved joined.moves.bins (at + size) (at + n)
            (moves_rest (at + n) n (size + free) joined.moves.free (grind (arith, nat_tests))) is
            (victim_grown ∙ rw (mine, test) refl) b,
        λ k. refl,
      )
      go false test = (
        victim_gone stays sound joined.moves.moved joined.moves.bins (at + size) (at + n)
            (moves_whole (at + n) n (size + free) joined.moves.free (grind (arith, nat_tests))) is
            (victim_grown ∙ rw (mine, test) refl) b,
        λ k. refl,
      )

  module _ (other : at + size ≢ old.victim) where
    pub same_victim : new.victim ≡ old.victim
    same_victim = (let test : (at + size == old.victim) ≡ false = (let o = other in grind (arith, nat_tests)) in victim_grown ∙ rw test refl)

    abbrev pub into_whole : IsBinnedBut ((at + size) ∷ []) regions word old → size + free < n + 32 → IsBinned regions word new
    into_whole loose little =
        binned_gone stays sound joined.moves.moved joined.moves.bins (at + size) (at + n) (moves_whole (at + n) n (size + free) joined.moves.free little) same_victim loose

    abbrev pub into_part : IsBinnedBut ((at + size) ∷ []) regions word old → n + 32 ≤ size + free → IsBinnedBut ((at + n) ∷ []) regions word new
    into_part loose room =
        binned_rest stays sound joined.moves.moved joined.moves.bins (at + size) (at + n) (moves_rest (at + n) n (size + free) joined.moves.free room) same_victim loose

    pub part_other : n + 32 ≤ size + free → 0 < n → at + n ≢ new.victim
    part_other room some = rest_no_victim stays sound joined.moves.moved joined.moves.bins (at + size) (at + n)
        (moves_rest (at + n) n (size + free) joined.moves.free room) other same_victim (omega arith)

    -- what came was no free chunk
    pub part_came : n + 32 ≤ size + free → size < n → {m : ℕ} → IsFreeAt (state_of word old) (at + n) m → ⊥
    part_came room more {m} is_free = ((moves_rest (at + n) n (size + free) joined.moves.free room).stays (at + n) m is_free
        (λ is. elim is [ inl same ↦ (let e = same in omega arith) | inr none ↦ none ])).1 (inl refl)

-- The free chunks beside one in use, which leave their bins before it joins them.
use Rattle.dlmalloc.proofs.Names.{◌≡◌, ◌≢◌, ℕ, ◌+◌, ◌-◌, ◌<◌, ◌≤◌, ◌⊎◌, inl, inr, Bool, true, false, ◌==◌, if◌then◌else◌, List, [], ◌∷◌, ◌++◌, Some, refl, sym, ◌∙◌, ap, subst, arith, dec_lt, nat_tests, Grant, IsWordOf, Extent, Kind, Used, Free, Top, is_free, IsIn, extent_at, Tiles, extents_in, segments_of, state_of, IsSound, IsFreeAt, FreeMoves, IsVictimAfter, OnlyFreeChange, Dlmalloc}
use Rattle.dlmalloc.proofs.Extents.Lookup.{extent, nat_is, nat_isnt, found_here, found_later, found_more, the_extent, end_of, the_one}
use Rattle.dlmalloc.proofs.Extents.Tiling.{tiles_split}
use Rattle.dlmalloc.proofs.Extents.OneMoreUsed.{none_outside}
use Rattle.dlmalloc.proofs.Segments.Among.{among_all}
use Rattle.dlmalloc.proofs.Frees.StateAfter.{IsBeside}
use Rattle.dlmalloc.proofs.Frees.FreeBeside.{IsFrom, IsTo, AllAre, Right, first_there}
use Rattle.dlmalloc.proofs.Extents.Top.{top_among}
use Rattle.dlmalloc.proofs.Cuts.Chosen.{free_low}
use Rattle.dlmalloc.proofs.Bins.Held.{AreAccounted}
use Rattle.dlmalloc.proofs.Words.OfLinks.{stands, same_or_beside}
use Rattle.dlmalloc.proofs.Frees.Behind.{run_one}
use Rattle.dlmalloc.proofs.Frees.OfChunk.{right}
use Rattle.dlmalloc.proofs.Frees.WhatCallsWant.{left_one, from_at}

-- the words that describe a chunk in use and what is beside it stay, if only those in free chunks change
pub told_stays : {A : Type 0} {regions : A → List Grant} (word : A → ℕ → ℕ) (heap : Dlmalloc A) → IsSound regions word heap → (at size : ℕ) →
    extent_at at (extents_in (state_of word heap)) ≡ Some (extent at size Used) → (granted : List Grant) (new : ℕ → ℕ) → OnlyFreeChange granted
    (state_of word heap) (word heap.system) new → (k : ℕ) → at ≤ k → k ≤ at + size + 8 → IsWordOf granted k → new k ≡ word heap.system k
told_stays word heap sound at size there granted new only k low high inside = only k inside (λ f n free. out f n free (same_or_beside sound free there))
  where
    out : (f n : ℕ) → IsFreeAt (state_of word heap) f n → (extent at size Used ≡ extent f n
        Free) ⊎ ((at + size ≤ f) ⊎ (f + n ≤ at)) → (k < f + 16) ⊎ (f + n ≤ k)
    out f n free (inl same) = absurd (let no : Used ≡ Free = ap (λ e. e.kind) same in cc)
    out f n free (inr (inl before)) = inl (omega arith)
    out f n free (inr (inr behind)) = inr (omega arith)

-- the one extent that is joined, if there is one
whole_beside : (words : ℕ → ℕ) (before : Kind) (from : ℕ) (extents : List Extent) (to : ℕ) → IsBeside extents → AllAre Free extents →
    Tiles words before from extents to → from < to → extent_at from extents ≡ Some (extent from (to - from) Free)
whole_beside words before from [] to beside free h some = absurd (omega arith)
whole_beside words before from (one ∷ []) to beside free h some =
    let place : one.at ≡ from = h.0 in
    let long : one.size ≡ to - from = (let end : from + one.size ≡ to = h.2 in omega arith) in
    let here : extent_at from (one ∷ []) ≡ Some one = subst (λ a. extent_at a (one ∷ []) ≡ Some one) place (found_here one []) in
    let kind : one.kind ≡ Free = free from one here in
    here ∙ (λ i. Some (extent (place i) (long i) (kind i)))
whole_beside words before from (one ∷ next ∷ extents) to beside free h some = absurd beside

module _ {A : Type 0} {regions : A → List Grant} {word : A → ℕ → ℕ} {heap : Dlmalloc A} (sound : IsSound regions word heap) {at size : ℕ}
    (there : extent_at at (extents_in (state_of word heap)) ≡ Some (extent at size Used)) {from : ℕ}
    (from_is : IsFrom (word heap.system) at from) where
  abbrev words : ℕ → ℕ
  words = word heap.system

  -- the chunk itself is not free
  pub not_free : {n : ℕ} → IsFreeAt (state_of word heap) at n → ⊥
  not_free free = (let no : Used ≡ Free = ap (λ e. e.kind) (the_extent (sym there ∙ free)) in cc)

  pub left_free : from < at → IsFreeAt (state_of word heap) from (at - from)
  left_free some =
      let one = run_one sound there in let left = left_one sound there from_is in
      let here = whole_beside words Used from left.lefts at left.beside left.free left.lefts_stand some in
      let first : extent_at from one.first ≡ Some (extent from (at - from) Free) =
      ap (extent_at from) left.is ∙ (found_later from left.front left.lefts
      (none_outside words Used one.segment.base left.front from from (inr (omega arith)) left.front_stand) ∙ here) in
      let here = ap (extent_at from) one.extents ∙ found_more from one.first ((extent at size Used ∷ []) ++ one.last) first in
      among_all (regions heap.system) words sound.segments sound.apart one.front one.segment one.back one.is from here

  pub left_none : at ≤ from → (n : ℕ) → IsFreeAt (state_of word heap) from n → ⊥
  left_none low n free = (let same : from ≡ at = (let le = from_at sound there from_is in omega arith) in
      not_free (subst (λ a. IsFreeAt (state_of word heap) a n) same free))

  module _ {to : ℕ} (to_is : IsTo (word heap.system) heap.top (at + size) to) where
    by_top : {b : Bool} → (at + size == heap.top) ≡ b → to ≡ (if b then at + size else end_of words (at + size))
    by_top {b} is = to_is ∙ ap (λ b. if b then at + size else end_of words (at + size)) is

    -- at the top nothing is free after it
    top_behind : at + size ≡ heap.top → 0 < heap.size → (n : ℕ) → IsFreeAt (state_of word heap) (at + size) n → ⊥
    top_behind is some n free =
        let top = top_among sound some in
        let here : extent_at heap.top (extents_in (state_of word heap)) ≡ Some
        (extent (at + size) n Free) = subst (λ a. extent_at a (extents_in (state_of word heap)) ≡ Some (extent (at + size) n Free)) is free in
        (let no : Free ≡ Top = ap (λ e. e.kind) (the_extent (sym here ∙ top)) in cc)

    module _ (goes_on : at + size ≢ heap.top) where
      abbrev r : Right words (segments_of word heap) at size to Free
      r = right sound there from_is to_is goes_on

      -- what is found after the chunk in its run is found in the heap
      behind : (k : ℕ) {one : Extent} → at + size ≤ k → extent_at k (r.rights ++ r.next ∷ []) ≡ Some one →
          extent_at k (extents_in (state_of word heap)) ≡ Some one
      behind k {one} low found =
          let test : (at == k) ≡ false = nat_isnt (inl (let long = r.run.here.1.size.1 in omega arith)) in
          let here : extent_at k r.run.segment.extents ≡ Some one = ap (extent_at k) r.run.extents
          ∙ (found_later k r.run.first ((extent at size Used ∷ (r.rights ++ r.next ∷ [])) ++ r.run.last)
          (none_outside words Used r.run.segment.base r.run.first at k (inr (omega arith)) r.run.first_stand)
          ∙ found_more k (extent at size Used ∷ (r.rights ++ r.next ∷ [])) r.run.last {extent = one} (rw test found)) in
          among_all (regions heap.system) words sound.segments sound.apart r.run.front r.run.segment r.run.back r.run.is k here

      behind_free : at + size < to → IsFreeAt (state_of word heap) (at + size) (to - (at + size))
      behind_free more =
          let s = tiles_split words Used (at + size) r.rights (r.next ∷ []) (to + r.next.size) r.run.here.2 in
          let ends : s.middle ≡ to = sym s.second.0 ∙ r.place in
          behind (at + size) (omega arith) (found_more (at + size) r.rights (r.next ∷ [])
          (whole_beside words Used (at + size) r.rights to r.beside r.are (subst (λ m. Tiles words Used (at + size) r.rights m) ends s.first) more))

      behind_none : to ≤ at + size → (n : ℕ) → IsFreeAt (state_of word heap) (at + size) n → ⊥
      behind_none less n free =
          let f = first_there words Used (at + size) r.rights r.next (to + r.next.size) r.run.here.2 in
          let same : f.0 ≡ extent (at + size) n Free = the_extent (sym (behind (at + size) (omega arith) f.1) ∙ free) in
          let s = tiles_split words Used (at + size) r.rights (r.next ∷ []) (to + r.next.size) r.run.here.2 in
          let ends : s.middle ≡ to = sym s.second.0 ∙ r.place in
          let next : extent_at (at + size) (r.next ∷ []) ≡ Some f.0 =
          sym (found_later (at + size) r.rights (r.next ∷ []) (none_outside words Used (at + size) r.rights s.middle
          (at + size) (inr (omega arith)) s.first)) ∙ f.1 in
          let free : is_free r.next.kind ≡ true = ap (λ e. is_free e.kind) (the_one (at + size) r.next next ∙ same) in
          (let no = sym r.stays ∙ free in cc)

    pub right_free : 0 < heap.size → at + size < to → IsFreeAt (state_of word heap) (at + size) (to - (at + size))
    right_free some more = go (at + size == heap.top) refl
      where
        go : (b : Bool) → (at + size == heap.top) ≡ b → IsFreeAt (state_of word heap) (at + size) (to - (at + size))
        go true is = absurd (let t = by_top is in omega arith)
        go false apart = behind_free (grind (arith, nat_tests)) more

    pub right_none : 0 < heap.size → to ≤ at + size → (n : ℕ) → IsFreeAt (state_of word heap) (at + size) n → ⊥
    right_none some less = go (at + size == heap.top) refl
      where
        go : (b : Bool) → (at + size == heap.top) ≡ b → (n : ℕ) → IsFreeAt (state_of word heap) (at + size) n → ⊥
        go true is = top_behind (nat_is is) some
        go false apart = behind_none (grind (arith, nat_tests)) less

    -- a free extent that begins in the range is one of the two
    pub one_of_two : 0 < heap.size → (k n : ℕ) → IsFreeAt (state_of word heap) k n → from ≤ k → k < to → (IsIn k (from ∷ (at + size) ∷ []) → ⊥) → ⊥
    one_of_two some k n free low high out = right_of_it
      where
        long : 32 ≤ n
        long = (stands sound free).1.size.1

        behind_left : at ≤ k
        behind_left = elim (dec_lt from at) [
          | yes more ↦ elim (same_or_beside sound (left_free more) free) [
            | inl same ↦ absurd (out (inl (ap (λ e. e.at) same)))
            | inr beside ↦ elim beside [ inl before ↦ absurd (omega (arith, long)) | inr after ↦ omega arith ]
          ]
          | no none ↦ omega arith
        ]

        behind_chunk : at + size ≤ k
        behind_chunk = elim (same_or_beside sound free there) [
          | inl same ↦ absurd (let no : Used ≡ Free = ap (λ e. e.kind) same in cc)
          | inr beside ↦ elim beside [ inl before ↦ before | inr after ↦ absurd (omega (arith, behind_left, long)) ]
        ]

        right_of_it : ⊥
        right_of_it = elim (same_or_beside sound (right_free some (omega (arith, behind_chunk))) free) [
          | inl same ↦ out (inr (inl (ap (λ e. e.at) same)))
          | inr beside ↦ elim beside [ inl before ↦ omega (arith, behind_chunk, long) | inr after ↦ omega (arith, behind_chunk) ]
        ]

    -- what is in no bin once they are joined is the joined one
    pub accounted : 0 < heap.size → (new : Dlmalloc A) → FreeMoves (state_of word heap) (state_of word new) (from ∷ (at + size) ∷ []) (from ∷ []) →
        IsVictimAfter from to heap.victim new.victim →
        AreAccounted (state_of word heap) (state_of word new) ((at + size) ∷ from ∷ []) (from ∷ []) (from ∷ (at + size) ∷ []) (from ∷ [])
    accounted some new moves victim = record {
      gone = λ k is n free other. turn from (at + size) k is;
      come = λ k is n free other. is;
      still = λ k out which n free other. absurd (elim which [
        | inl was ↦ lost k was out (moves_back k n free out) other
        | inr loose ↦ out (turn (at + size) from k loose)
      ]);
      from = λ k out which n free other. absurd (elim which [ inl now ↦ gained k n now out free other | inr loose ↦ out loose ]);
    }
      where
        turn : (a b k : ℕ) → IsIn k (a ∷ b ∷ []) → IsIn k (b ∷ a ∷ [])
        turn a b k (inl is) = inr (inl is)
        turn a b k (inr (inl is)) = inl is
        turn a b k (inr (inr none)) = absurd none

        moves_back : (k n : ℕ) → IsFreeAt (state_of word new) k n → (IsIn k (from ∷ (at + size) ∷ []) → ⊥) → IsFreeAt (state_of word heap) k n
        moves_back k n free out = (moves.was k n free (λ came. out (elim came [ inl is ↦ inl is | inr none ↦ absurd none ]))).0

        lost : (k : ℕ) {n : ℕ} → k ≡ heap.victim → (IsIn k (from ∷ (at + size) ∷ []) → ⊥) → IsFreeAt (state_of word heap) k n → k ≢ new.victim → ⊥
        lost k {n} was out free other = elim victim [
          | inl same ↦ other (was ∙ sym same)
          | inr moved ↦ (let low = moved.0 in let high = moved.1 in one_of_two some k n free (omega arith) (omega arith) out)
        ]

        gained : (k n : ℕ) → k ≡ new.victim → (IsIn k (from ∷ []) → ⊥) → IsFreeAt (state_of word heap) k n → k ≢ heap.victim → ⊥
        gained k n now out free other = elim victim [
          | inl same ↦ other (now ∙ same)
          | inr moved ↦ elim (moved.2) [
            | inl none ↦ (let low = free_low sound free in let zero : k ≡ 0 = now ∙ none in omega arith)
            | inr begins ↦ out (inl (now ∙ begins))
          ]
        ]

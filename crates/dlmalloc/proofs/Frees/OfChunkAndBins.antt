-- A chunk is freed, and the bins with it.
use Rattle.dlmalloc.proofs.Names.{◌≡◌, ℕ, ◌+◌, ◌-◌, ◌<◌, ◌≤◌, inl, inr, Bool, true, false, ◌==◌, if◌then◌else◌, List, [], ◌∷◌, Some, sym, ◌∙◌, ap, subst, arith, dec_lt, Grant, IsWordOf, Event, Used, pinuse_of, free_of, size_of, IsIn, IndexStays, extent_at, extents_in, segments_of, state_of, IsSound, IsFreeAt, IsBinnedBut, IsRebinned, IsVictimAfter, FreeMoves, IsMoved, Dlmalloc}
use Rattle.dlmalloc.proofs.Extents.Lookup.{extent}
use Rattle.dlmalloc.proofs.Extents.Disjoint.{stands_there}
use Rattle.dlmalloc.proofs.Frees.FreeBeside.{IsFrom, IsTo}
use Rattle.dlmalloc.proofs.Frees.WhatCallsWant.{head_there, foot_there, behind_there, from_at}
use Rattle.dlmalloc.proofs.Segments.HeadTop.{some_segment}
use Rattle.dlmalloc.proofs.Bins.Held.{one_size}
use Rattle.dlmalloc.proofs.Frees.NeighboursUnbinned.{told_stays, left_none, left_free, accounted}
use Rattle.dlmalloc.proofs.Bins.Changes.{binned_moved}

module _ {A : Type 0} {regions : A → List Grant} {word : A → ℕ → ℕ} {heap : Dlmalloc A}
    (sound : IsSound regions word heap) {at size : ℕ} (there : extent_at at (extents_in (state_of word heap)) ≡ Some (extent at size Used)) {from to : ℕ}
    (from_is : IsFrom (word heap.system) at from) (to_is : IsTo (word heap.system) heap.top (at + size) to) where
  used_long : 0 < size
  used_long = (let s = (stands_there (regions heap.system) (word heap.system) (segments_of word heap) sound.segments there).1.size.1 in omega arith)

  -- the two begin at addresses of their own
  pub two : IsIn (at + size) (from ∷ []) → ⊥
  two is = elim is [
    | inl same ↦ (let low = from_at sound there from_is in let long = used_long in omega arith)
    | inr none ↦ none
  ]

  -- and what they are joined to was no free chunk
  pub joined_other : IsFreeAt (state_of word heap) from (to - from) → ⊥
  joined_other free = elim (dec_lt from at) [
    | yes before ↦
        let same = one_size (state_of word heap) free (left_free sound there from_is before) in
        let long = used_long in let end = to_above in
        omega arith
    | no here ↦ left_none sound there from_is (omega arith) (to - from) free
  ]
    where
      above : (b c : Bool) (more : ℕ) → at + size ≤ (if b then at + size else if c then at + size + more else at + size)
      above true c more = omega arith
      above false true more = omega arith
      above false false more = omega arith

      to_above : at + size ≤ to
      to_above = subst (λ t. at + size ≤ t) (sym to_is) (above (at + size == heap.top)
          (free_of (word heap.system (at + size + 8))) (size_of (word heap.system (at + size + 8))))

  -- the chunks beside it left their bins
  module _ {follows : A → List Event → A → Type 0} {middle : Dlmalloc A} (left : IsRebinned regions word follows heap middle) where
    pub still_there : extent_at at (extents_in (state_of word middle)) ≡ Some (extent at size Used)
    still_there = ap (λ s. extent_at at (extents_in s)) left.state ∙ there

    top_same : middle.top ≡ heap.top
    top_same = ap (λ h. h.top) left.fields

    same : (k : ℕ) → at ≤ k → k ≤ at + size + 8 → IsWordOf (regions heap.system) k → word middle.system k ≡ word heap.system k
    same = told_stays word heap sound at size there (regions heap.system) (word middle.system) left.words

    head_same : word middle.system (at + 8) ≡ word heap.system (at + 8)
    head_same = same (at + 8) (omega arith) (omega arith) (head_there sound there).granted

    foot_same : word middle.system at ≡ word heap.system at
    foot_same = same at (omega arith) (omega arith) (foot_there sound there).granted

    behind_same : word middle.system (at + size + 8) ≡ word heap.system (at + size + 8)
    behind_same = same (at + size + 8) (omega arith) (omega arith) (behind_there sound there).granted

    pub from_still : IsFrom (word middle.system) at from
    from_still = from_is ∙ (λ i. if pinuse_of ((sym head_same) i) then at else at - (sym foot_same) i)

    pub to_still : IsTo (word middle.system) middle.top (at + size) to
    to_still = to_is ∙ (λ i. if at + size == (sym top_same) i then at + size else if free_of ((sym behind_same) i)
        then at + size + size_of ((sym behind_same) i) else at + size)

    -- they were joined to it
    module _ (stays : IndexStays) (loose : IsBinnedBut ((at + size) ∷ from ∷ []) regions word middle) {joined : Dlmalloc A}
        (moved : IsMoved regions word follows middle joined)
        (moves : FreeMoves (state_of word middle) (state_of word joined) (from ∷ (at + size) ∷ []) (from ∷ []))
        (victim : IsVictimAfter from to middle.victim joined.victim) (bins : joined.bins ≡ middle.bins) where
      abbrev pub joined_loose : IsBinnedBut (from ∷ []) regions word joined
      joined_loose = binned_moved stays left.sound moved.sound (λ k was is boundary tag tag'. moved.words k was boundary) bins moves
          (accounted left.sound still_there from_still to_still (some_segment word middle at still_there) joined moves victim) loose

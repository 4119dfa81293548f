-- A chunk in use gets another size where it stands.
use Rattle.dlmalloc.proofs.Names.{◌≡◌, ◌≢◌, ℕ, ◌+◌, ◌<◌, ◌≤◌, true, false, not, nat_le, List, ◌∷◌, None, Some, refl, sym, ◌∙◌, ap, subst, arith, nat_tests, Grant, Extent, Kind, Used, Free, Victim, Top, Record, Foot, size_of, free_of, head_of, size_of-head_of, pinuse_of-head_of, cinuse_of-head_of, extent_at, is_used, told_size, MayStand, Tiles, HeapState, extents_in, in_place, tail_freed, joined, has_room, grown_into, state_of, IsSound, Dlmalloc}
use Rattle.dlmalloc.proofs.Extents.Lookup.{extent}
use Rattle.dlmalloc.proofs.Cuts.FreeExtent.{told_whole}
use Rattle.dlmalloc.proofs.Extents.RunReplaced.{behind}
use Rattle.dlmalloc.proofs.Resizing.Enlarged.{one, next}
use Rattle.dlmalloc.proofs.Frees.Behind.{next_there, place}
use Rattle.dlmalloc.proofs.Frees.WhatCallsWant.{next_top, no_top}

-- ---- what resizing in place makes of a state

module _ (heap : HeapState) {at size : ℕ} (n : ℕ) (there : extent_at at (extents_in heap) ≡ Some (extent at size Used)) where
  pub shrinks : n + 32 ≤ size → in_place heap at n ≡ Some (tail_freed heap at n)
  shrinks room =
      let fits : nat_le n size ≡ true = grind (arith, nat_tests) in
      let rest : nat_le (n + 32) size ≡ true = grind (arith, nat_tests) in
      rw (there, fits, rest) refl

  pub stays : n ≤ size → size < n + 32 → in_place heap at n ≡ Some heap
  stays holds few =
      let fits : nat_le n size ≡ true = grind (arith, nat_tests) in
      let rest : nat_le (n + 32) size ≡ false = grind (arith, nat_tests) in
      rw (there, fits, rest) refl

  module _ (more : size < n) {after : Extent} (behind : extent_at (at + size) (extents_in heap) ≡ Some after) where
    pub grows : has_room n (joined (extent at size Used) after) ≡ true → in_place heap at n ≡ Some (grown_into heap (extent at size Used) after n)
    grows room =
        let less : nat_le n size ≡ false = grind (arith, nat_tests) in
        rw (there, less, behind, room) refl

    pub has_no_room : has_room n (joined (extent at size Used) after) ≡ false → in_place heap at n ≡ None
    has_no_room room =
        let less : nat_le n size ≡ false = grind (arith, nat_tests) in
        rw (there, less, behind, room) refl

-- ---- what stands after a chunk in use

module _ {A : Type 0} {regions : A → List Grant} {word : A → ℕ → ℕ} {heap : Dlmalloc A} (sound : IsSound regions word heap) {at size : ℕ}
    (there : extent_at at (extents_in (state_of word heap)) ≡ Some (extent at size Used)) where
  abbrev words : ℕ → ℕ
  words = word heap.system

  abbrev after : Extent
  after = (next sound there).next

  -- its head has its size
  pub chunk_told : {told : ℕ} → told ≡ size_of (words (at + 8)) → extent_at at (extents_in (state_of word heap)) ≡ Some (extent at told Used)
  chunk_told {told} is =
      let stands = (one sound there).here.1 in
      let sizes : told ≡ size = is ∙ (ap size_of stands.head ∙ size_of-head_of size _ true (let w = stands.size.0 in omega arith)) in
      there ∙ (λ i. Some (extent at (sym sizes i) Used))

  after_there : extent_at (at + size) (extents_in (state_of word heap)) ≡ Some after
  after_there = ap (λ a. extent_at a (extents_in (state_of word heap))) (sym (place sound there)) ∙ next_there sound there

  pub top_behind : at + size ≡ heap.top → extent_at (at + size) (extents_in (state_of word heap)) ≡ Some (extent (at + size) heap.top_size Top)
  top_behind touch = after_there ∙ ap Some (next_top sound there touch ∙ ap (λ a. extent a heap.top_size Top) (sym touch))

  stand : Tiles words Used (at + size) (after ∷ (next sound there).rest) ((one sound there).segment.base + (one sound there).segment.size)
  stand = behind (regions heap.system) sound.segments (one sound there) (next sound there)

  head : words (at + size + 8) ≡ head_of (told_size after.kind after.size) true (is_used after.kind)
  head = ap (λ a. words (a + 8)) (sym stand.0) ∙ stand.1.head

  free_told : free_of (words (at + size + 8)) ≡ not (is_used after.kind)
  free_told = ap free_of head ∙ rw (
    pinuse_of-head_of (told_size after.kind after.size) true (is_used after.kind)
        (told_whole after.kind after.size stand.1.size),
    cinuse_of-head_of (told_size after.kind after.size) true
        (is_used after.kind) (told_whole after.kind after.size stand.1.size),
  ) refl

  module _ (no_touch : at + size ≢ heap.top) where
    -- it is a free chunk
    pub free_behind : free_of (words (at + size + 8)) ≡ true → {told : ℕ} → told ≡ size_of (words (at + size + 8)) →
        extent_at (at + size) (extents_in (state_of word heap)) ≡ Some (extent (at + size) told Free)
    free_behind free {told} is = go after.kind refl stand.1.kind
      where
        go : (kind : Kind) → after.kind ≡ kind → MayStand Used kind → extent_at (at + size)
            (extents_in (state_of word heap)) ≡ Some (extent (at + size) told Free)
        go Used kind may = absurd (let no : true ≡ false = sym free ∙ (free_told ∙ ap (λ k. not (is_used k)) kind) in cc)
        go Free kind may =
            let size_told : size_of (words (at + size + 8)) ≡ told_size after.kind after.size = ap size_of head
            ∙ size_of-head_of (told_size after.kind after.size) true (is_used after.kind) (told_whole after.kind after.size stand.1.size) in
            let sizes : told ≡ after.size = is ∙ (size_told ∙ ap (λ k. told_size k after.size) kind) in
            after_there ∙ (λ i. Some (extent (stand.0 i) (sym sizes i) (kind i)))
        go Victim kind may = absurd may
        go Top kind may = absurd (no_top sound there no_touch kind)
        go Record kind may = absurd (let no : true ≡ false = sym free ∙ (free_told ∙ ap (λ k. not (is_used k)) kind) in cc)
        go Foot kind may = absurd (let no : Used ≡ Top = may in cc)

    -- it is in use, or a record: nothing of it can be taken
    pub used_behind : (n : ℕ) → size < n → free_of (words (at + size + 8)) ≡ false → in_place (state_of word heap) at n ≡ None
    used_behind n more used = has_no_room (state_of word heap) n there more after_there (go after.kind refl stand.1.kind)
      where
        of_kind : (kind : Kind) → after.kind ≡ kind → has_room n (joined (extent at size Used) (extent after.at after.size kind)) ≡ false →
            has_room n (joined (extent at size Used) after) ≡ false
        of_kind kind is none = subst (λ k. has_room n (joined (extent at size Used) (extent after.at after.size k)) ≡ false) (sym is) none

        go : (kind : Kind) → after.kind ≡ kind → MayStand Used kind → has_room n (joined (extent at size Used) after) ≡ false
        go Used kind may = of_kind Used kind refl
        go Free kind may = absurd (let no : false ≡ true = sym used ∙ (free_told ∙ ap (λ k. not (is_used k)) kind) in cc)
        go Victim kind may = absurd may
        go Top kind may = absurd (no_top sound there no_touch kind)
        go Record kind may = of_kind Record kind refl
        go Foot kind may = absurd (let no : Used ≡ Top = may in cc)

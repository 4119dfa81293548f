-- A chunk in use takes bytes of the top after it.
use Rattle.dlmalloc.proofs.Names.{◌≡◌, ℕ, ◌+◌, ◌-◌, ◌≤◌, inr, true, List, [], ◌∷◌, ◌++◌, Some, refl, sym, ◌∙◌, ap, subst, arith, Grant, IsStored, AreStored, HasHead, Extent, Used, Free, Top, Record, pinuse_of, head_of, extent_at, last_kind, IsMove, IsRunOf, segments_of, state_of, IsSound, Dlmalloc, FreeMoves, CanTakeOfTop}
use Rattle.dlmalloc.proofs.Extents.Lookup.{extent, found_here, found_later}
use Rattle.dlmalloc.proofs.Extents.OneMoreUsed.{none_outside}
use Rattle.dlmalloc.proofs.Cuts.FreeExtent.{stored_over}
use Rattle.dlmalloc.proofs.Resizing.EnlargedWords.{grown_top}
use Rattle.dlmalloc.proofs.Resizing.TwoExtents.{no_kind, no_other, found_second}
use Rattle.dlmalloc.proofs.Resizing.Enlarged.{IsEnlarged, next, two, high, head_there, enlarged}
use Rattle.dlmalloc.proofs.Moves.OfFreeExtents.{free_moves}
use Rattle.dlmalloc.proofs.Moves.OfHeaps.{IsStep, found_again}
use Rattle.dlmalloc.proofs.Extents.RunReplaced.{step_top}
use Rattle.dlmalloc.proofs.Segments.HeadTold.{head_is}
use Rattle.dlmalloc.proofs.Extents.Top.{is_top}
use Rattle.dlmalloc.proofs.Frees.WhatCallsWant.{next_top}

module _ {A : Type 0} {regions : A → List Grant} {word : A → ℕ → ℕ} {heap : Dlmalloc A} (sound : IsSound regions word heap) {at size n : ℕ}
    (can : CanTakeOfTop word heap at size n) where
  abbrev words : ℕ → ℕ
  words = word heap.system

  abbrev chunk : Extent
  chunk = extent at size Used

  abbrev top : Extent
  top = extent (at + size) heap.top_size Top

  next_is : (next sound can.chunk).next ≡ top
  next_is = next_top sound can.chunk can.next ∙ ap (λ a. extent a heap.top_size Top) (sym can.next)

  abbrev both : IsRunOf words (segments_of word heap) at (at + size + heap.top_size) (chunk ∷ top ∷ [])
  both = two sound can.chunk next_is

  least : 32 ≤ n
  least = omega (arith, both.here.1.size.1)

  rest_room : n + 16 ≤ size + heap.top_size
  rest_room = omega (arith, both.here.1.size.0, both.here.2.1.size.0)

  pub top_first_head : HasHead (regions heap.system) at
  top_first_head =
      head_there sound can.chunk next_is at (omega arith) (omega (arith, high sound can.chunk next_is, rest_room)) (omega (arith, both.here.1.whole))

  pub top_rest_head : HasHead (regions heap.system) (at + n)
  top_rest_head =
      head_there sound can.chunk next_is (at + n) (omega arith) (omega (arith, high sound can.chunk next_is, rest_room)) (omega (arith, both.here.1.whole))

  head_segment : both.front ≡ []
  head_segment = (is_top sound both.front both.segment both.back both.is {at = (at + size)} {size = heap.top_size} (ap (extent_at (at + size)) both.extents
      ∙ (found_later (at + size) both.first (chunk ∷ top ∷ both.last) (none_outside words Used both.segment.base both.first at (at + size)
      (inr (omega arith)) both.first_stand) ∙ found_second at size top both.last (omega (arith, both.here.1.size.1))))).0

  module _ {middle system : A} (same_middle : regions middle ≡ regions heap.system) (same_system : regions system ≡ regions middle)
      {value rest : ℕ} (rest_is : rest ≡ size + heap.top_size - n)
      (stored_first : AreStored (regions heap.system) words ((at + 8, head_of n (pinuse_of (words (at + 8))) true) ∷ (at + n + 8, value) ∷ []) (word middle))
      (stored_rest : IsStored (regions middle) (word middle) (at + n + 8) (rest + 1) (word system)) where
    stored : AreStored (regions heap.system) words ((at + 8, head_of n (pinuse_of (words (at + 8))) true) ∷ (at + n + 8, rest + 1) ∷ []) (word system)
    stored = stored_over (head_of n (pinuse_of (words (at + 8))) true) value top_first_head.granted stored_first
        (subst (λ rs. IsStored rs (word middle) (at + n + 8) (rest + 1) (word system)) same_middle stored_rest)

    abbrev after : Dlmalloc A
    after = record heap { system = system; top = at + n; top_size = rest }

    abbrev parts : List Extent
    parts = extent at n Used ∷ extent (at + n) rest Top ∷ []

    where_top : extent_at (at + n) (both.first ++ (parts ++ both.last)) ≡ Some (extent (at + n) rest Top)
    where_top =
        found_later (at + n) both.first (parts ++ both.last)
        (none_outside words Used both.segment.base both.first at (at + n) (inr (omega arith)) both.first_stand)
        ∙ found_second at n (extent (at + n) rest Top) both.last (omega (arith, least))

    move : IsMove (regions heap.system) words (word system) (last_kind Used both.first) at (at + size + heap.top_size)
        (at + size + heap.top_size) (chunk ∷ top ∷ []) parts
    move = grown_top (regions heap.system) (word system) both.here.1 n both.here.2.1 can.whole least rest_room rest_is stored

    abbrev step : IsStep regions word heap after (chunk ∷ top ∷ []) parts
    step =
        let head = head_is word heap both.front both.segment both.back head_segment both.is sound.told in
        step_top after sound (same_system ∙ same_middle) both move refl (λ k tail found is. absurd (no_kind chunk top Record (λ is. cc)
        (λ is. cc) k found is)) refl head_segment (record { some = head.some; base = head.base; size = head.size; flags = head.flags; top = where_top })

    -- the top keeps the rest
    pub into_top : IsEnlarged regions word heap chunk top n n after
    into_top = enlarged sound can.chunk next_is (same_system ∙ same_middle) parts step refl (λ i. extent at n Used ∷ extent (at + n) (sym rest_is i) Top ∷ [])
        (record {
          held = found_here (extent at n Used) (extent (at + n) rest Top ∷ []);
          kept = λ used is other found. absurd (no_other chunk top (λ is. cc) is other found);
          only = λ used is other found. absurd (no_other (extent at n Used) (extent (at + n) rest Top) (λ is. cc) is other found);
        })
        (record {
          none = sound.no_victim;
          named = λ some.
              found_again sound step heap.victim (λ found. absurd (no_kind chunk top Free (λ is. cc) (λ is. cc) heap.victim found refl)) (sound.victim some);
          left = refl;
        })

    -- no free extent but the top changes
    pub into_top_free : FreeMoves (state_of word heap) (state_of word after) [] []
    into_top_free = free_moves sound step [] [] (λ k bytes found. no_kind chunk top Free (λ is. cc) (λ is. cc) k found refl) (λ k bytes found. no_kind
        (extent at n Used) (extent (at + n) rest Top) Free (λ is. cc) (λ is. cc) k found refl) (λ k none. absurd none) (λ k none. absurd none)

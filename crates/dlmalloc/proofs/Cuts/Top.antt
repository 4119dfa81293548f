-- The top of a heap is cut.
use Rattle.dlmalloc.proofs.Names.{◌≡◌, ◌≢◌, ℕ, ◌+◌, ◌-◌, ◌%◌, ◌<◌, ◌≤◌, inl, inr, true, false, ◌==◌, List, [], ◌∷◌, ◌++◌, Some, refl, sym, ◌∙◌, ap, subst, arith, Grant, IsStored, AreStored, HasHead, Extent, Used, Free, Top, Record, Foot, head_of, extent_at, extents_in, cut, IsBoundary, IsRunOf, segments_of, state_of, IsSound, Dlmalloc, FreeMoves}
use Rattle.dlmalloc.proofs.Extents.Lookup.{extent, nat_isnt, nat_same, found_later, found_here, found_either, the_one}
use Rattle.dlmalloc.proofs.Extents.OneMoreUsed.{none_outside}
use Rattle.dlmalloc.proofs.Cuts.ChunkPlace.{head_at}
use Rattle.dlmalloc.proofs.Cuts.FreeExtent.{cut_top, stored_then}
use Rattle.dlmalloc.proofs.Moves.OfHeaps.{IsStep, read, found_new, found_again, keeps_words, stays_sound, has_more}
use Rattle.dlmalloc.proofs.Extents.RunReplaced.{run_of, step_top}
use Rattle.dlmalloc.proofs.Segments.HeadTold.{head_is}
use Rattle.dlmalloc.proofs.Cuts.StateAfter.{replaced_run}
use Rattle.dlmalloc.proofs.Moves.OfFreeExtents.{free_moves}
use Rattle.dlmalloc.proofs.Cuts.FreeChunk.{IsTake}
use Rattle.dlmalloc.proofs.Extents.Top.{is_top, top_among, foot_among}

module _ {A : Type 0} {regions : A → List Grant} {word : A → ℕ → ℕ} {heap : Dlmalloc A} (sound : IsSound regions word heap) (some : 0 < heap.size)
    (n : ℕ) (multiple : n % 16 ≡ 0) (least : 32 ≤ n) (fits : n < heap.top_size) where
  abbrev chunk : Extent
  chunk = extent heap.top heap.top_size Top

  abbrev run : IsRunOf (word heap.system) (segments_of word heap) heap.top (heap.top + heap.top_size) (chunk ∷ [])
  run = run_of (regions heap.system) (word heap.system) (segments_of word heap) sound.segments (top_among sound some)

  head_segment : run.front ≡ []
  head_segment =
      (is_top sound run.front run.segment run.back run.is (ap (extent_at heap.top) run.extents ∙ (found_later heap.top run.first (chunk ∷ run.last)
      (none_outside (word heap.system) Used run.segment.base run.first heap.top heap.top (inr (omega arith)) run.first_stand) ∙ found_here chunk run.last))).0

  room : n + 16 ≤ heap.top_size
  room = omega (arith, run.here.1.size.0)

  pub top_head : HasHead (regions heap.system) heap.top
  top_head = head_at sound (top_among sound some) refl heap.top (omega arith) (omega (arith, room)) (omega (arith, run.here.1.whole))

  pub rest_head : HasHead (regions heap.system) (heap.top + n)
  rest_head = head_at sound (top_among sound some) refl (heap.top + n) (omega arith) (omega (arith, room)) (omega (arith, run.here.1.whole))

  module _ (system : A) (same : regions system ≡ regions heap.system)
      (stored : AreStored (regions heap.system) (word heap.system) ((heap.top + 8, head_of n true true) ∷ (
        heap.top + n + 8,
        heap.top_size - n + 1,
      ) ∷ []) (word system)) where
    abbrev after : Dlmalloc A
    after = record heap { system = system; top = heap.top + n; top_size = heap.top_size - n }

    abbrev halves : List Extent
    halves = extent heap.top n Used ∷ extent (heap.top + n) (heap.top_size - n) Top ∷ []

    top_one : (k : ℕ) {tail : Extent} → extent_at k (chunk ∷ []) ≡ Some tail → Top ≡ tail.kind
    top_one k found = ap (λ e. e.kind) (the_one k chunk found)

    where_top : extent_at (heap.top + n) (run.first ++ (halves ++ run.last)) ≡ Some (extent (heap.top + n) (heap.top_size - n) Top)
    where_top =
        let first : (heap.top == heap.top + n) ≡ false = nat_isnt (inl (omega arith)) in
        let second : (heap.top + n == heap.top + n) ≡ true = nat_same (heap.top + n) in
        found_later (heap.top + n) run.first (halves ++ run.last) (none_outside (word heap.system) Used run.segment.base run.first heap.top (heap.top + n)
        (inr (omega arith)) run.first_stand) ∙ rw (first, second) refl

    abbrev cut_step : IsStep regions word heap after (chunk ∷ []) halves
    cut_step =
        let head = head_is word heap run.front run.segment run.back head_segment run.is sound.told in
        step_top after sound same run (cut_top n run.here.1 multiple least room stored) refl (λ k tail found is. absurd (let no : Top ≡ Record = top_one k
        found ∙ is in cc)) refl head_segment (record { some = head.some; base = head.base; size = head.size; flags = head.flags; top = where_top })

    -- the top is cut, and the victim stays
    pub top_taken : IsTake regions word heap chunk n after
    top_taken = record {
      state = (
          let segments_are = read sound cut_step ∙ sym (replaced_run (regions heap.system) sound.segments sound.apart (cut n) run) in
          λ i. record (state_of word heap) { segments = segments_are i });
      more = has_more sound cut_step (extent heap.top n Used) (record { front = []; back = []; fewer = refl; further = refl });
      sound = stays_sound sound cut_step same refl refl refl refl sound.no_victim
          (λ more. found_again sound cut_step heap.victim (λ found. absurd (let no : Top ≡ Free = top_one heap.victim found in cc)) (sound.victim more));
      words = keeps_words sound cut_step;
    }

    -- no free extent but the top changes
    pub top_free : FreeMoves (state_of word heap) (state_of word after) [] []
    top_free = free_moves sound cut_step [] [] (λ k bytes found. (let no : Top ≡ Free = top_one k found in cc))
        (λ k bytes found. elim (found_either k (extent heap.top n Used ∷ []) (extent (heap.top + n) (heap.top_size - n) Top ∷ []) found) [
          | inl first ↦ (let no : Used ≡ Free = ap (λ e. e.kind) (the_one k (extent heap.top n Used) first) in cc)
          | inr later ↦ (let no : Top ≡ Free = ap (λ e. e.kind) (the_one k (extent (heap.top + n) (heap.top_size - n) Top) later.1) in cc)
        ]) (λ k none. absurd none) (λ k none. absurd none)

    -- all others are found as before
    pub others_still : (one : Extent) → one.at ≢ heap.top → extent_at one.at (extents_in (state_of word heap)) ≡ Some one →
        extent_at one.at (extents_in (state_of word after)) ≡ Some one
    others_still one other there = found_again sound cut_step one.at (λ found. absurd (other (ap (λ e. e.at) (sym (the_one one.at chunk found))))) there

    -- the heads that the top and its foot had are still boundaries
    pub head_boundary : IsBoundary (state_of word after) (heap.top + 8)
    head_boundary = record {
      extent = extent heap.top n Used;
      there = found_new sound cut_step heap.top (extent heap.top n Used) (let here = nat_same heap.top in rw here refl);
      is = inl refl;
    }

    pub foot_boundary : IsBoundary (state_of word after) (heap.top + heap.top_size + 8)
    foot_boundary = record {
      extent = extent (heap.top + heap.top_size) 80 Foot;
      there = found_again sound cut_step (heap.top + heap.top_size)
          (λ found. absurd (let no : Top ≡ Foot = top_one (heap.top + heap.top_size) found in cc)) (foot_among sound some);
      is = inl refl;
    }

  -- the stores of two calls, as one
  pub stores : (middle system : A) → regions middle ≡ regions heap.system → IsStored (regions heap.system) (word heap.system) (heap.top + 8)
      (head_of n true true) (word middle) → IsStored (regions middle) (word middle) (heap.top + n + 8) (heap.top_size - n + 1) (word system) → AreStored
      (regions heap.system) (word heap.system) ((heap.top + 8, head_of n true true) ∷ (heap.top + n + 8, heap.top_size - n + 1) ∷ []) (word system)
  stores middle system same first second =
      stored_then top_head.granted first (subst (λ rs. AreStored rs (word middle) ((heap.top + n + 8, heap.top_size - n + 1) ∷ []) (word system)) same
      (record { here = ((λ apart. second.here), tt); elsewhere = λ k word apart. second.elsewhere k word apart.0 }))

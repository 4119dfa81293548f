-- A chunk of a heap is freed, after which no top stands.
use Rattle.dlmalloc.proofs.Names.{◌≡◌, ◌≢◌, ℕ, ◌+◌, ◌-◌, ◌%◌, ◌^◌, ◌<◌, ◌≤◌, ◌⊎◌, inr, true, false, ◌==◌, if◌then◌else◌, List, [], ◌∷◌, Some, refl, sym, ◌∙◌, ap, subst, arith, unwrap_or, option_map, nat_tests, Grant, AreStored, HasHead, HasFoot, Extent, Used, Free, Top, Record, is_free, pinuse_of, head_of, without_pinuse, extents_in, Tiles, last_kind, IsMove, IsRunOf, segments_of, state_of, IsSound, Dlmalloc}
use Rattle.dlmalloc_chunks.specs.Tiling.{extent_at}
use Rattle.dlmalloc.proofs.Extents.Lookup.{extent, end_of, the_extent}
use Rattle.dlmalloc.specs.Binned.{IsJoint}
use Rattle.dlmalloc.proofs.Extents.Tiling.{sized}
use Rattle.dlmalloc.proofs.Frees.Joined.{join}
use Rattle.dlmalloc.proofs.Extents.RunReplaced.{run_part, step_beside}
use Rattle.dlmalloc.proofs.Frees.FreeBeside.{IsFrom, IsTo, Left, left_at, Right, RightChunk, right_of}
use Rattle.dlmalloc.proofs.Frees.Behind.{run_one, no_top}
use Rattle.dlmalloc.proofs.Frees.JoinedNeighbours.{IsFree, IsJoined, freed_as}
use Rattle.dlmalloc.proofs.Frees.JoinedNeighbours as joined
use Rattle.dlmalloc.proofs.Extents.Top.{the_top, top_among}
use Rattle.dlmalloc.proofs.Extents.Victim.{has_in}
use Rattle.dlmalloc.proofs.Moves.OfHeaps.{IsStep, segments_now, apart_now, found_again, some_there}

module _ {A : Type 0} {regions : A → List Grant} {word : A → ℕ → ℕ} {heap : Dlmalloc A} (sound : IsSound regions word heap) {at size : ℕ}
    (there : extent_at at (extents_in (state_of word heap)) ≡ Some (extent at size Used)) {from : ℕ} (from_is : IsFrom (word heap.system) at from)
    {to : ℕ} (to_is : IsTo (word heap.system) heap.top (at + size) to) (goes_on : at + size ≢ heap.top) where
  abbrev words : ℕ → ℕ
  words = word heap.system

  pub beside : RightChunk words (segments_of word heap) at size to
  beside =
      let test : (at + size == heap.top) ≡ false = (let on = goes_on in grind (arith, nat_tests)) in
      subst (λ t. RightChunk words (segments_of word heap) at size t) (sym (to_is ∙ ap (λ b. if b then at + size else end_of words (at + size)) test))
      (right_of (regions heap.system) sound.segments (run_one sound there) (no_top sound there goes_on))

  abbrev pub right : Right words (segments_of word heap) at size to Free
  right = beside.right

  abbrev left : Left words right.run.segment.base right.run.first at from
  left = left_at right.run from_is

  abbrev run : IsRunOf words (segments_of word heap) from (joined.end sound right left) (joined.less sound right left)
  run = joined.run sound right left

  abbrev joint : Extent
  joint = extent from (to - from) Free

  pub room : from + 32 ≤ to
  room = joined.room sound right left

  to_whole : to % 16 ≡ 0
  to_whole = joined.to_whole sound right left

  -- so it does not end at the top
  pub below_top : to ≢ heap.top
  below_top is =
      let top = the_top sound run.front run.segment run.back run.is (ap (λ k. extent_at k run.segment.extents) right.place
      ∙ joined.next_there sound right left) (right.place ∙ is) in
      let free : is_free right.next.kind ≡ true = ap (λ e. is_free e.kind) top in
      let no = sym right.stays ∙ free in cc

  high_end : joined.end sound right left < 2 ^ 64
  high_end = omega (arith, joined.high sound right left, (run_part (regions heap.system) sound.segments run).high)

  past_end : to + 16 ≤ joined.end sound right left
  past_end = omega (arith, (sized right.next.kind right.next.size right.stands.size).1)

  pub end_small : to < 2 ^ 64
  end_small = omega (arith, high_end)

  sum : from + (to - from) ≡ to
  sum = omega (arith, room)

  pub end_head : HasHead (regions heap.system) (from + (to - from))
  end_head = subst (HasHead (regions heap.system)) (sym sum) (record {
    aligned = omega (arith, to_whole);
    small = omega (arith, high_end, past_end);
    granted = joined.word_there sound right left (to + 8) (omega (arith, room)) (omega (arith, past_end)) (omega (arith, to_whole));
  })

  pub end_foot : HasFoot (regions heap.system) (from + (to - from))
  end_foot = subst (HasFoot (regions heap.system)) (sym sum) (record {
    aligned = omega (arith, to_whole);
    small = omega (arith, high_end, past_end);
    granted = joined.word_there sound right left to (omega (arith, room)) (omega (arith, past_end)) (omega (arith, to_whole));
  })

  pub whole_size : (to - from) % 8 ≡ 0
  whole_size = omega (arith, to_whole, joined.from_whole sound right left, room)

  pub end_told : to ≢ at + size → pinuse_of (words (from + (to - from) + 8)) ≡ false
  end_told past = ap (λ a. pinuse_of (words (a + 8))) sum ∙ beside.told past

  -- ---- the words are stored

  module _ (system : A) (same : regions system ≡ regions heap.system)
      (stored : AreStored (regions heap.system) words ((from + (to - from) + 8, without_pinuse (words (from + (to - from) + 8))) ∷
      (from + 8, head_of (to - from) true false) ∷ (from + (to - from), to - from) ∷ []) (word system)) where
    abbrev less : List Extent
    less = joined.less sound right left

    abbrev more : List Extent
    more = joined.more sound right left

    abbrev end : ℕ
    end = joined.end sound right left

    move : IsMove (regions heap.system) words (word system) (last_kind Used run.first) from end end less more
    move = subst (λ k. IsMove (regions heap.system) words (word system) k from end end less more) (sym left.used)
        (join (regions heap.system) (word system) from less (joined.from_whole sound right left) beside room
        (subst (λ k. Tiles words k from less end) left.used run.here) stored
        (λ k above below m. joined.word_there sound right left k (omega (arith, room)) below m))

    abbrev after : ℕ → ℕ → Dlmalloc A
    after = joined.after sound right left system heap.top heap.top_size

    abbrev step : (victim victim_size : ℕ) → IsStep regions word heap (after victim victim_size) less more
    step victim victim_size = step_beside (after victim victim_size) sound same run move (sym (joined.last_less sound right left))
        (joined.stays sound right left {other = Record} (λ is. cc) (λ is. cc) (λ is. cc)) refl
        (record { base = refl; size = refl; flags = refl; top = refl; top_size = refl })
        (joined.stays sound right left {other = Top} (λ is. cc) (λ is. cc) (λ is. cc))

    is_joined : IsJoined sound right left system heap.top heap.top_size
    is_joined = record { same = same; step = step; now = λ victim victim_size. refl }

    joint_is : (victim victim_size : ℕ) → IsJoint (state_of word (after victim victim_size)) heap.top from (to - from)
    joint_is victim victim_size =
        let here = joined.joint_there sound right left is_joined victim victim_size in
        inr (
          λ is.
              let top = found_again sound (step victim victim_size) heap.top
              (λ found. joined.stays sound right left {other = Top} (λ is. cc) (λ is. cc) (λ is. cc) heap.top (extent heap.top heap.top_size Top) found refl)
              (top_among sound (some_there sound (step victim victim_size))) in
              let there : extent_at heap.top (extents_in (state_of word (after victim victim_size))) ≡ Some joint =
              subst (λ a. extent_at a (extents_in (state_of word (after victim victim_size))) ≡ Some joint) is here in
              (let no : Free ≡ Top = ap (λ e. e.kind) (the_extent (sym there ∙ top)) in cc),
          here,
        )

    -- the victim was one of those that are joined
    pub as_victim : from ≤ heap.victim → heap.victim < to → IsFree regions word heap at size from to (after from (to - from))
    as_victim reached within =
        let here = joined.joint_there sound right left is_joined from (to - from) in
        freed_as sound right left is_joined (to - from) (λ some. here) (λ none. absurd (omega (arith, room))) (sym (ap (λ o. unwrap_or
        (option_map (λ e. e.at) o) 0) (has_in (regions system) (word system) (segments_of word (after from (to - from))) (segments_now sound
        (step from (to - from))) (apart_now sound (step from (to - from))) heap.victim here refl reached (omega (arith, room))))) (joint_is from (to - from))

    -- it stays
    pub as_other : (heap.victim < from) ⊎ (to ≤ heap.victim) → IsFree regions word heap at size from to (after heap.victim heap.victim_size)
    as_other out = joined.as_other sound right left is_joined (λ some. out) (joint_is heap.victim heap.victim_size)

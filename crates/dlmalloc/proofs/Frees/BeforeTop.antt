-- A chunk before the top is freed.
use Rattle.dlmalloc.proofs.Names.{◌≡◌, ◌≢◌, ℕ, ◌+◌, ◌-◌, ◌^◌, ◌<◌, ◌≤◌, ◌⊎◌, inl, inr, List, [], ◌∷◌, ◌++◌, Some, refl, sym, ◌∙◌, ap, subst, arith, unwrap_or, option_map, Grant, IsStored, Extent, Used, Free, Top, Record, is_free, is_used, ends_segment, extents_in, MayStand, HasChunk, Tiles, last_kind, IsMove, IsRunOf, segments_of, state_of, IsSound, Dlmalloc}
use Rattle.dlmalloc_chunks.specs.Tiling.{extent_at}
use Rattle.dlmalloc.specs.Binned.{IsJoint}
use Rattle.dlmalloc.proofs.Extents.Lookup.{extent, the_extent}
use Rattle.dlmalloc.proofs.Extents.Disjoint.{beside}
use Rattle.dlmalloc.proofs.Extents.FromWords.{only_foot}
use Rattle.dlmalloc.proofs.Extents.Tiling.{sized}
use Rattle.dlmalloc.proofs.Extents.Top.{is_top, top_among}
use Rattle.dlmalloc.proofs.Extents.RunReplaced.{HasNext, has_next, with_next, behind, run_part, step_top}
use Rattle.dlmalloc.proofs.Segments.HeadTold.{head_is}
use Rattle.dlmalloc.proofs.Segments.HeadTop.{some_segment}
use Rattle.dlmalloc.proofs.Frees.Behind.{run_one, next, in_segment, next_top}
use Rattle.dlmalloc.proofs.Frees.Joined.{join_top}
use Rattle.dlmalloc.proofs.Frees.FreeBeside.{IsFrom, IsTo, Left, Right, one_is}
use Rattle.dlmalloc.proofs.Cuts.FoundByTest.{none_has}
use Rattle.dlmalloc.proofs.Frees.WhatCallsWant.{left_one, from_low, touches}
use Rattle.dlmalloc.proofs.Frees.JoinedNeighbours.{IsFree, IsJoined, freed_as}
use Rattle.dlmalloc.proofs.Frees.JoinedNeighbours as joined
use Rattle.dlmalloc.proofs.Moves.OfHeaps.{IsStep, stays_sound}

module _ {A : Type 0} {regions : A → List Grant} {word : A → ℕ → ℕ} {heap : Dlmalloc A} (sound : IsSound regions word heap) {at size : ℕ}
    (there : extent_at at (extents_in (state_of word heap)) ≡ Some (extent at size Used)) {from : ℕ} (from_is : IsFrom (word heap.system) at from)
    {to : ℕ} (to_is : IsTo (word heap.system) heap.top (at + size) to) (is : to ≡ heap.top) where
  abbrev words : ℕ → ℕ
  words = word heap.system

  abbrev one : IsRunOf words (segments_of word heap) at (at + size) (extent at size Used ∷ [])
  one = run_one sound there

  abbrev top : Extent
  top = (next sound there).next

  ends : at + size ≡ to
  ends = touches sound there from_is to_is is ∙ sym is

  top_is : top ≡ extent heap.top heap.top_size Top
  top_is = next_top sound there (ends ∙ is)

  pub kind : top.kind ≡ Top
  kind = ap (λ e. e.kind) top_is

  top_size : top.size ≡ heap.top_size
  top_size = ap (λ e. e.size) top_is

  abbrev two : IsRunOf words (segments_of word heap) at (at + size + top.size) (extent at size Used ∷ top ∷ [])
  two = with_next (regions heap.system) sound.segments one (next sound there)

  pub foot : HasNext two.last
  foot = has_next (regions heap.system) sound.segments two (ap ends_segment kind)

  pub foot_stand : Tiles words top.kind (at + size + top.size) (foot.next ∷ foot.rest) (one.segment.base + one.segment.size)
  foot_stand = behind (regions heap.system) sound.segments two foot

  -- the top is what is free after it, and its foot is after that
  abbrev right : Right words (segments_of word heap) at size (at + size + top.size) Top
  right = record {
    rights = top ∷ [];
    next = foot.next;
    run = with_next (regions heap.system) sound.segments two foot;
    place = foot_stand.0;
    stays = ap is_free (only_foot foot.next.kind (subst (λ k. MayStand k foot.next.kind) kind foot_stand.1.kind));
    beside = ap is_free kind;
    joint = kind;
    joins = inr refl;
    are = one_is top kind;
    none = (let unused = ap is_used kind in rw unused refl);
    stands = foot_stand.1;
    reach = omega arith;
  }

  abbrev left : Left words right.run.segment.base right.run.first at from
  left = left_one sound there from_is

  abbrev run : IsRunOf words (segments_of word heap) from (joined.end sound right left) (joined.less sound right left)
  run = joined.run sound right left

  reach : from + 32 ≤ at + size + top.size
  reach = joined.room sound right left

  -- the top that it becomes
  abbrev new_size : ℕ
  new_size = heap.top_size + (to - from)

  sum : from + new_size ≡ at + size + top.size
  sum = omega (arith, joined.reach sound right left, top_size, ends)

  pub small_top : from + new_size < 2 ^ 64
  small_top = omega (arith, sum, joined.high sound right left, (run_part (regions heap.system) sound.segments one).high)

  pub from_some : 4096 ≤ from
  from_some = omega (arith, from_low sound there from_is, (run_part (regions heap.system) sound.segments one).low)

  size_is : at + size + top.size - from ≡ new_size
  size_is = omega (arith, sum)

  none_before : run.front ≡ []
  none_before = (is_top sound one.front one.segment one.back one.is {at = top.at} {size = top.size} (in_segment sound there
      ∙ (λ i. Some (extent top.at top.size (kind i))))).0

  module _ (system : A) (same : regions system ≡ regions heap.system)
      (stored : IsStored (regions heap.system) words (from + 8) (new_size + 1) (word system)) where
    abbrev less : List Extent
    less = joined.less sound right left

    abbrev more : List Extent
    more = joined.more sound right left

    abbrev end : ℕ
    end = joined.end sound right left

    move : IsMove (regions heap.system) words (word system) (last_kind Used run.first) from end end less more
    move = subst (λ k. IsMove (regions heap.system) words (word system) k from end end less more) (sym left.used)
        (join_top (regions heap.system) (word system) from less (joined.from_whole sound right left)
        (omega (arith, joined.from_whole sound right left, joined.to_whole sound right left, reach)) (omega (arith, reach)) foot_stand.0
        (subst (λ k. HasChunk words k foot.next) kind foot_stand.1) (subst (λ k. Tiles words k from less end) left.used run.here)
        (subst (λ n. IsStored (regions heap.system) words (from + 8) (n + 1) (word system)) (sym size_is) stored)
        (joined.word_there sound right left (at + size + top.size + 8) (omega (arith, reach))
        (omega (arith, (sized foot.next.kind foot.next.size foot_stand.1.size).1))
        (omega (arith, joined.to_whole sound right left))))

    abbrev after : ℕ → ℕ → Dlmalloc A
    after = joined.after sound right left system from new_size

    abbrev step : (victim victim_size : ℕ) → IsStep regions word heap (after victim victim_size) less more
    step victim victim_size =
        let head = head_is word heap run.front run.segment run.back none_before run.is sound.told in
        let top : extent_at from (run.first ++ (more ++ run.last)) ≡ Some (extent from new_size Top) =
        joined.where_joint sound right left ∙ (λ i. Some (extent from (size_is i) Top)) in
        step_top (after victim victim_size) sound same run move (sym (joined.last_less sound right left))
        (joined.stays sound right left {other = Record} (λ is. cc) (λ is. cc) (λ is. cc)) refl none_before
        (record { some = head.some; base = head.base; size = head.size; flags = head.flags; top = top })

    is_joined : IsJoined sound right left system from new_size
    is_joined = record { same = same; step = step; now = λ victim victim_size. refl }

    top_there : (victim victim_size : ℕ) → extent_at from (extents_in (state_of word (after victim victim_size))) ≡ Some
        (extent from (at + size + top.size - from) Top)
    top_there victim victim_size = joined.joint_there sound right left is_joined victim victim_size

    joint_is : (victim victim_size : ℕ) → IsJoint (state_of word (after victim victim_size)) from from (to - from)
    joint_is victim victim_size =
        inl (refl, λ bytes free. (let no : Top ≡ Free = ap (λ e. e.kind) (the_extent (sym (top_there victim victim_size) ∙ free)) in cc))

    -- the victim went into it
    pub top_victim : from ≤ heap.victim → heap.victim < to → IsFree regions word heap at size from to (after 0 0)
    top_victim reached within = freed_as sound right left is_joined 0 (λ some. absurd (some refl)) (λ none. refl) (sym (ap (λ o. unwrap_or
        (option_map (λ e. e.at) o) 0) (none_has (stays_sound sound (step 0 0) same refl refl refl refl (λ none. refl) (λ some. absurd (some refl)))
        (top_there 0 0) refl heap.victim reached (omega (arith, ends, reach))))) (joint_is 0 0)

    -- it stays
    pub top_other : (heap.victim < from) ⊎ (to ≤ heap.victim) → IsFree regions word heap at size from to (after heap.victim heap.victim_size)
    top_other out = joined.as_other sound right left is_joined past (joint_is heap.victim heap.victim_size)
      where
        past : heap.victim_size ≢ 0 → (heap.victim < from) ⊎ (at + size + top.size ≤ heap.victim)
        past some =
            let top = top_among sound (some_segment word heap at there) in
            elim (beside (regions heap.system) words (segments_of word heap) sound.segments sound.apart (sound.victim some) top (λ same.
            (let victim = subst (λ a. extent_at a (extents_in (state_of word heap)) ≡ Some (extent a heap.victim_size Free)) same (sound.victim some) in
            let no : Free ≡ Top = ap (λ e. e.kind) (the_extent (sym victim ∙ top)) in cc))) [
              | inl before ↦ elim out [ inl first ↦ inl first | inr later ↦ absurd (omega (arith, is)) ]
              | inr behind ↦ inr (omega (arith, is, ends, top_size))
            ]

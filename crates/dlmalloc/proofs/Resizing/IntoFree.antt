-- A chunk in use takes bytes of a free chunk after it, or all of them.
use Rattle.dlmalloc.proofs.Names.{◌≡◌, ◌≢◌, ℕ, ◌+◌, ◌-◌, ◌%◌, ◌^◌, ◌<◌, ◌≤◌, inl, inr, Bool, true, false, ◌==◌, nat_le, if◌then◌else◌, List, [], ◌∷◌, ◌++◌, None, Some, refl, sym, ◌∙◌, ap, subst, arith, nat_tests, Grant, Event, AreStored, HasHead, HasFoot, Extent, Used, Free, Top, Record, pinuse_of, head_of, with_pinuse, extent_at, Tiles, last_kind, extents_in, CanTakeFree, IsMove, IsRunOf, grown_into, segments_of, state_of, IsSound, Dlmalloc, IsFreeAt, IsPartJoined}
use Rattle.dlmalloc.proofs.Extents.Lookup.{extent, the_extent, nat_isnt, found_here, found_either, the_one}
use Rattle.dlmalloc.proofs.Extents.Tiling.{sized, tiles_le}
use Rattle.dlmalloc.proofs.Resizing.TwoExtents.{differ, no_kind, no_other, only_second, found_second, second_there}
use Rattle.dlmalloc.proofs.Resizing.EnlargedWords.{grown_split, grown_whole}
use Rattle.dlmalloc.proofs.Resizing.Enlarged.{IsVictimLeft, changed, next, two, low, end_small, head_there, enlarged}
use Rattle.dlmalloc.proofs.Segments.Among.{with_extents}
use Rattle.dlmalloc.proofs.Cuts.FreeExtent.{behind_free}
use Rattle.dlmalloc.proofs.Moves.OfFreeExtents.{free_moves}
use Rattle.dlmalloc.proofs.Moves.OfHeaps.{IsStep, found_new, found_again}
use Rattle.dlmalloc.proofs.Extents.RunReplaced.{step_beside, HasNext, has_next, with_next, behind, run_word}
use Rattle.dlmalloc.proofs.Frees.Behind.{next_there, place}

module _ {A : Type 0} {regions : A → List Grant} {word : A → ℕ → ℕ} {heap : Dlmalloc A} (sound : IsSound regions word heap) {at size length n : ℕ}
    (can : CanTakeFree (state_of word heap) at size length n) where
  abbrev words : ℕ → ℕ
  words = word heap.system

  abbrev chunk : Extent
  chunk = extent at size Used

  abbrev free : Extent
  free = extent (at + size) length Free

  next_is : (next sound can.chunk).next ≡ free
  next_is = the_extent (sym (next_there sound can.chunk) ∙ (ap (λ a. extent_at a (extents_in (state_of word heap))) (place sound can.chunk) ∙ can.next))

  abbrev both : IsRunOf words (segments_of word heap) at (at + size + length) (chunk ∷ free ∷ [])
  both = two sound can.chunk next_is

  least : 32 ≤ n
  least = omega (arith, both.here.1.size.1)

  -- what stands after the free one
  abbrev third : HasNext both.last
  third = has_next (regions heap.system) sound.segments both refl

  stands_third : Tiles words Free (at + size + length) (third.next ∷ third.rest) (both.segment.base + both.segment.size)
  stands_third = behind (regions heap.system) sound.segments both third

  below : at + size + length + third.next.size ≤ both.segment.base + both.segment.size
  below = tiles_le words third.next.kind (at + size + length + third.next.size) third.rest (both.segment.base + both.segment.size) stands_third.2

  end_room : at + size + length + 16 ≤ both.segment.base + both.segment.size
  end_room = let long = (sized third.next.kind third.next.size stands_third.1.size).1 in omega (arith, below)

  pub free_end_small : at + size + length + 16 < 2 ^ 64
  free_end_small = omega (arith, end_room, end_small sound can.chunk next_is)

  pub free_at_whole : at % 16 ≡ 0
  free_at_whole = both.here.1.whole

  pub free_sizes_whole : (size + length) % 16 ≡ 0
  free_sizes_whole = omega (arith, both.here.1.size.0, both.here.2.1.size.0)

  pub free_head_there : (k : ℕ) → at ≤ k → k ≤ at + size + length → k % 8 ≡ 0 → HasHead (regions heap.system) k
  free_head_there k above under m = head_there sound can.chunk next_is k above (omega (arith, end_room)) m

  pub free_foot_there : (k : ℕ) → at ≤ k → k ≤ at + size + length → k % 8 ≡ 0 → HasFoot (regions heap.system) k
  free_foot_there k above under m = record {
    aligned = m;
    small = omega (arith, free_end_small);
    granted = run_word (regions heap.system) sound.segments both k (omega (arith, low sound can.chunk next_is)) (omega (arith, end_room)) m;
  }

  -- the victim is neither of the two, if the free one is not the victim
  not_victim : at + size ≢ heap.victim → {bytes : ℕ} → extent_at heap.victim (chunk ∷ free ∷ []) ≡ Some (extent heap.victim bytes Free) → ⊥
  not_victim isnt {bytes} found = elim (only_second at size free heap.victim bytes found) [ inl is ↦ isnt (sym is) | inr none ↦ none ]

  module _ {system : A} (same : regions system ≡ regions heap.system) (follows : A → List Event → A → Type 0) (followed : follows heap.system [] system) where
    abbrev after : ℕ → ℕ → Dlmalloc A
    after victim victim_size = changed heap system heap.top heap.top_size victim victim_size

    -- ---- a rest stays free

    module _ (rest_room : n + 32 ≤ size + length)
        (stored : AreStored (regions heap.system) words ((
          at + 8,
          head_of n (pinuse_of (words (at + 8)))
              true,
        ) ∷ (at + n + 8, head_of (size + length - n) true false) ∷ (
          at + n + (size + length - n),
          size + length - n,
        ) ∷ []) (word system)) where
      abbrev rest : Extent
      rest = extent (at + n) (size + length - n) Free

      abbrev parts : List Extent
      parts = extent at n Used ∷ rest ∷ []

      abbrev part_step : (victim victim_size : ℕ) → IsStep regions word heap (after victim victim_size) (chunk ∷ free ∷ []) parts
      part_step victim victim_size = step_beside (after victim victim_size) sound same both
          (grown_split (regions heap.system) (word system) both.here.1 n both.here.2.1 can.whole least rest_room stored) refl (λ k tail found is. absurd
          (no_kind chunk free Record (λ is. cc) (λ is. cc) k found is)) refl (record { base = refl; size = refl; flags = refl; top = refl; top_size = refl })
          (λ k tail found is. absurd (no_kind chunk free Top (λ is. cc) (λ is. cc) k found is))

      has_rest : nat_le (n + 32) (size + length) ≡ true
      has_rest = grind (arith, nat_tests)

      rest_there : (victim victim_size : ℕ) → IsFreeAt (state_of word (after victim victim_size)) (at + n) (size + length - n)
      rest_there victim victim_size = found_new sound (part_step victim victim_size) (at + n) rest (found_second at n rest [] (omega (arith, least)))

      part : {victim victim_size : ℕ} → IsVictimLeft word (after victim victim_size) (grown_into (state_of word heap) chunk free n).victim →
          IsPartJoined regions word follows heap at size length n (after victim victim_size)
      part {victim} {victim_size} left =
          let step = part_step victim victim_size in
          let taken = enlarged sound can.chunk next_is {n = n} {whole = n} same parts step refl (rw has_rest refl) (record {
            held = found_here (extent at n Used) (rest ∷ []);
            kept = λ used is other found. absurd (no_other chunk free (λ is. cc) is other found);
            only = λ used is other found. absurd (no_other (extent at n Used) rest (λ is. cc) is other found);
          }) left in
          record {
            state = taken.state;
            held = (n, taken.held, omega arith, omega arith);
            others = taken.others;
            rest = λ room. rest_there victim victim_size;
            moves = record {
              free = rw has_rest (free_moves sound step ((at + size) ∷ []) ((at + n) ∷ []) (only_second at size free) (only_second at n rest)
                  (λ k is. inr (second_there at size free [] (omega (arith, both.here.1.size.1)) k is))
                  (λ k is. inr (second_there at n rest [] (omega (arith, least)) k is)));
              moved = record { sound = taken.sound; words = taken.words; regions_same = same; followed = followed };
              bins = refl;
            };
          }

      -- it was the victim, and its rest is
      pub into_victim : at + size ≡ heap.victim → IsPartJoined regions word follows heap at size length n (after (at + n) (size + length - n))
      into_victim is =
          let test : (at + size == heap.victim) ≡ true = (let e = is in grind (arith, nat_tests)) in
          part (record { none = λ none. absurd (omega arith); named = λ some. rest_there (at + n) (size + length - n); left = rw (test, has_rest) refl })

      -- another is, and stays
      pub into_binned : at + size ≢ heap.victim → IsPartJoined regions word follows heap at size length n (after heap.victim heap.victim_size)
      into_binned isnt =
          let test : (at + size == heap.victim) ≡ false = differ (at + size) heap.victim isnt in
          part (record {
            none = sound.no_victim;
            named = λ some. found_again sound (part_step heap.victim heap.victim_size) heap.victim (λ here. absurd (not_victim isnt here)) (sound.victim some);
            left = rw test refl;
          })

    -- ---- nothing of it stays free

    module _ (no_room : size + length < n + 32)
        (stored : AreStored (regions heap.system) words ((
          at + 8,
          head_of (size + length) (pinuse_of (words (at + 8)))
              true,
        ) ∷ (
          at + (size + length) + 8,
          with_pinuse (if size + length == 0 then head_of (size + length)
              (pinuse_of (words (at + 8))) true else words (at + (size + length) + 8)),
        ) ∷ []) (word system)) where
      abbrev last : Extent
      last = third.next

      abbrev three : List Extent
      three = chunk ∷ free ∷ last ∷ []

      abbrev all : List Extent
      all = extent at (size + length) Used ∷ last ∷ []

      move : IsMove (regions heap.system) words (word system) (last_kind Used both.first) at
          (at + size + length + last.size) (at + size + length + last.size) three all
      move =
          let some : (size + length == 0) ≡ false = nat_isnt (inr (omega (arith, least))) in
          let place = stands_third.0 in
          grown_whole (regions heap.system) (word system) both.here.1 length last both.here.2.1 stands_third.1 stands_third.0
          (subst (λ t. AreStored (regions heap.system) words ((at + 8, head_of (size + length) (pinuse_of (words (at + 8))) true)
          ∷ (
            at + (size + length) + 8,
            with_pinuse (if t then head_of (size + length) (pinuse_of (words (at + 8))) true
                else words (at + (size + length) + 8)),
          ) ∷ []) (word system)) some stored)
          (λ k above under m. run_word (regions heap.system) sound.segments both k
          (omega (arith, low sound can.chunk next_is)) (omega (arith, below)) m)

      -- what is found among the three, and is neither of the two that are one now, still is
      still : (k : ℕ) {tail : Extent} → (extent_at k (chunk ∷ free ∷ []) ≡ Some tail → ⊥) → extent_at k three ≡ Some tail → extent_at k all ≡ Some tail
      still k {tail} neither found =
          elim (found_either k (chunk ∷ free ∷ []) (last ∷ []) found) [
            | inl first ↦ absurd (neither first)
            | inr later ↦ go (at == k) refl later.0 later.1
          ]
        where
          go : (b : Bool) → (at == k) ≡ b → extent_at k (chunk ∷ free ∷ []) ≡ None → extent_at k (last ∷ []) ≡ Some tail → extent_at k all ≡ Some tail
          go true here none found = absurd (let no : Some chunk ≡ None = subst
              (λ b. (if b then Some chunk else extent_at k (free ∷ [])) ≡ None) here none in cc)
          go false apart none found = rw apart found

      -- what is found now was
      was : (used : Extent) → used.at ≢ at → extent_at used.at all ≡ Some used → extent_at used.at three ≡ Some used
      was used other found =
          let first : (at == used.at) ≡ false = differ at used.at (λ e. other (sym e)) in
          let later : extent_at used.at (last ∷ []) ≡ Some used =
          subst (λ b. (if b then Some (extent at (size + length) Used) else extent_at used.at (last ∷ [])) ≡ Some used) first found in
          let place : used.at ≡ at + size + length = ap (λ e. e.at) (sym (the_one used.at last later)) ∙ stands_third.0 in
          let second : (at + size == used.at) ≡ false = nat_isnt (inl (omega (arith, both.here.2.1.size.1))) in
          rw (first, second) later

      no_last : last.kind ≢ Free
      no_last is =
          elim (behind_free last.kind stands_third.1.kind) [ inl used ↦ (let no = sym used ∙ is in cc) | inr tail ↦ (let no = sym tail ∙ is in cc) ]

      abbrev whole_step : (victim victim_size : ℕ) → IsStep regions word heap (after victim victim_size) three all
      whole_step victim victim_size = step_beside (after victim victim_size) sound same (with_next (regions heap.system) sound.segments both third) move refl
          (λ k tail found is. still k (λ here. no_kind chunk free Record (λ is. cc) (λ is. cc) k here is) found) refl
          (record { base = refl; size = refl; flags = refl; top = refl; top_size = refl })
          (λ k tail found is. still k (λ here. no_kind chunk free Top (λ is. cc) (λ is. cc) k here is) found)

      no_rest : nat_le (n + 32) (size + length) ≡ false
      no_rest = grind (arith, nat_tests)

      whole : {victim victim_size : ℕ} → IsVictimLeft word (after victim victim_size) (grown_into (state_of word heap) chunk free n).victim →
          IsPartJoined regions word follows heap at size length n (after victim victim_size)
      whole {victim} {victim_size} left =
          let step = whole_step victim victim_size in
          let taken = enlarged sound can.chunk next_is {n = n} {whole = size + length} same (extent at (size + length) Used ∷ []) step
          (ap (λ es. both.front ++ with_extents both.segment (both.first ++ (extent at (size + length) Used ∷ es)) ∷ both.back) (sym third.is))
          (rw no_rest refl) (record {
            held = found_here (extent at (size + length) Used) (last ∷ []);
            kept = λ used is other found. still used.at (λ here. no_other chunk free (λ is. cc) is other here) found;
            only = λ used is other found. was used other found;
          }) left in
          record {
            state = taken.state;
            held = (size + length, taken.held, can.room, no_room);
            others = taken.others;
            rest = λ room. absurd (omega arith);
            moves = record {
              free = rw no_rest (free_moves sound step ((at + size) ∷ []) [] (λ k bytes found. elim (found_either k (chunk ∷ free ∷ []) (last ∷ []) found) [
                | inl first ↦ only_second at size free k bytes first
                | inr later ↦ absurd (no_last (ap (λ e. e.kind) (the_one k last later.1)))
              ]) (λ k bytes found. no_kind (extent at (size + length) Used) last Free (λ is. cc) no_last k found refl)
                  (λ k is. inr (second_there at size free (last ∷ []) (omega (arith, both.here.1.size.1)) k is)) (λ k none. absurd none));
              moved = record { sound = taken.sound; words = taken.words; regions_same = same; followed = followed };
              bins = refl;
            };
          }

      -- it was the victim, and there is none now
      pub whole_victim : at + size ≡ heap.victim → IsPartJoined regions word follows heap at size length n (after 0 0)
      whole_victim is =
          let test : (at + size == heap.victim) ≡ true = (let e = is in grind (arith, nat_tests)) in
          whole (record { none = λ none. refl; named = λ some. absurd (some refl); left = rw (test, no_rest) refl })

      -- it was not, and the victim stays
      pub whole_binned : at + size ≢ heap.victim → IsPartJoined regions word follows heap at size length n (after heap.victim heap.victim_size)
      whole_binned isnt =
          let test : (at + size == heap.victim) ≡ false = differ (at + size) heap.victim isnt in
          whole (record {
            none = sound.no_victim;
            named = λ some. found_again sound (whole_step heap.victim heap.victim_size) heap.victim (still heap.victim (not_victim isnt)) (sound.victim some);
            left = rw test refl;
          })

  -- the stores of two calls, as one
  pub free_stores : {middle system : A} {value : ℕ} → regions middle ≡ regions heap.system → AreStored (regions heap.system) words
      ((at + 8, head_of n (pinuse_of (words (at + 8))) true) ∷ (at + n + 8, value) ∷ []) (word middle) → AreStored (regions middle) (word middle)
      ((at + n + 8, head_of (size + length - n) true false) ∷ (at + n + (size + length - n), size + length - n) ∷ []) (word system) →
      AreStored (regions heap.system) words ((at + 8, head_of n (pinuse_of (words (at + 8))) true) ∷ (at + n + 8, head_of (size + length - n) true false)
      ∷ (at + n + (size + length - n), size + length - n) ∷ []) (word system)
  free_stores {middle} {system} same first second =
      let last = subst (λ rs. AreStored rs (word middle)
      ((at + n + 8, head_of (size + length - n) true false) ∷ (at + n + (size + length - n), size + length - n) ∷ []) (word system)) same second in
      record {
        here = (
          (λ apart. last.elsewhere (at + 8) (free_head_there at (omega arith) (omega arith)
              (omega (arith, free_at_whole))).granted apart ∙ first.here.0 (apart.0, tt)),
          last.here,
        );
        elsewhere = λ k is apart. last.elsewhere k is apart.1 ∙ first.elsewhere k is (apart.0, (apart.1.0, tt));
      }

-- A free chunk of a heap is taken.
use Rattle.dlmalloc.proofs.Names.{◌≡◌, ◌≢◌, ℕ, ◌+◌, ◌-◌, ◌%◌, ◌<◌, ◌≤◌, ◌⊎◌, inl, inr, Bool, true, false, ◌==◌, nat_le, nat_lt, if◌then◌else◌, List, [], ◌∷◌, ◌++◌, Some, refl, sym, ◌∙◌, ap, subst, arith, unwrap_or, nat_tests, Grant, IsStored, AreStored, Extent, Used, Free, Top, Record, head_of, with_pinuse, extent_at, HasChunk, last_kind, extents_in, cut, victim_after, taken, OnlyBoundariesChange, HasOneMore, IsMove, IsRunOf, HasMore, used_of, segments_of, state_of, IsSound, Dlmalloc, IsIn, IsFreeAt, FreeMoves}
use Rattle.dlmalloc.proofs.Extents.Lookup.{extent, nat_same, nat_isnt, found_here, found_either, the_one}
use Rattle.dlmalloc.proofs.Cuts.ChunkPlace.{head_at}
use Rattle.dlmalloc.proofs.Cuts.FreeExtent.{stored_then, cut_split, cut_whole, behind_free}
use Rattle.dlmalloc.proofs.Moves.OfFreeExtents.{free_moves}
use Rattle.dlmalloc.proofs.Extents.Tiling.{tiles_le}
use Rattle.dlmalloc.proofs.Segments.Among.{with_extents}
use Rattle.dlmalloc.proofs.Moves.OfHeaps.{IsStep, read, found_new, found_again, keeps_words, stays_sound, has_more}
use Rattle.dlmalloc.proofs.Extents.RunReplaced.{run_of, step_beside, HasNext, has_next, with_next, behind, run_word}
use Rattle.dlmalloc.proofs.Cuts.StateAfter.{replaced_run}

-- n bytes of an extent were taken
pub record IsTake {A : Type 0} (regions : A → List Grant) (word : A → ℕ → ℕ) (old : Dlmalloc A) (chunk : Extent) (n : ℕ) (new : Dlmalloc A) : Type 0 where
  pub state : state_of word new ≡ taken (state_of word old) chunk n
  pub more : HasOneMore (state_of word old) (state_of word new) chunk.at
  pub sound : IsSound regions word new
  pub words : OnlyBoundariesChange (regions old.system) (state_of word new) (word old.system) (word new.system)

-- so they were, of a free extent that is not the top
pub record IsFreeTake {A : Type 0} (regions : A → List Grant) (word : A → ℕ → ℕ) (old : Dlmalloc A) (chunk : Extent) (n : ℕ) (new : Dlmalloc A) : Type 0 where
  pub take : IsTake regions word old chunk n new
  pub free : FreeMoves (state_of word old) (state_of word new) (chunk.at ∷ []) (if nat_le (n + 32) chunk.size then (chunk.at + n) ∷ [] else [])
  pub rest : n + 32 ≤ chunk.size → IsFreeAt (state_of word new) (chunk.at + n) (chunk.size - n)

module _ {A : Type 0} {regions : A → List Grant} {word : A → ℕ → ℕ} {heap : Dlmalloc A} (sound : IsSound regions word heap) {at size : ℕ} (n : ℕ)
    (there : extent_at at (extents_in (state_of word heap)) ≡ Some (extent at size Free)) where
  abbrev chunk : Extent
  chunk = extent at size Free

  abbrev pub run : IsRunOf (word heap.system) (segments_of word heap) at (at + size) (chunk ∷ [])
  run = run_of (regions heap.system) (word heap.system) (segments_of word heap) sound.segments there

  pub stands : HasChunk (word heap.system) (last_kind Used run.first) chunk
  stands = run.here.1

  module _ (system : A) (same : regions system ≡ regions heap.system) where
    abbrev after : ℕ → ℕ → Dlmalloc A
    after victim victim_size = record heap { system = system; victim = victim; victim_size = victim_size }

    abbrev Took : ℕ → ℕ → Type 0
    Took victim victim_size = IsFreeTake regions word heap chunk n (after victim victim_size)

    -- which victim the heap has then
    record IsLeft (victim victim_size : ℕ) : Type 0 where
      named : victim_size ≢ 0 → extent_at victim (extents_in (state_of word (after victim victim_size))) ≡ Some (extent victim victim_size Free)
      none : victim_size ≡ 0 → victim ≡ 0
      is : victim ≡ victim_after (state_of word heap) n chunk

    -- what a step leaves, in which the chunk is cut so
    take : {less more : List Extent} (new : List Extent) {victim victim_size : ℕ} (step : IsStep regions word heap (after victim victim_size) less more) →
        step.front ++ step.now ∷ step.back ≡ run.front ++ with_extents run.segment (run.first ++ (new ++ run.last)) ∷ run.back → cut n chunk ≡ new →
        {k : ℕ} → HasMore less more (extent at k Used) → IsLeft victim victim_size → FreeMoves (state_of word heap) (state_of word (after victim victim_size))
        (at ∷ []) (if nat_le (n + 32) size then (at + n) ∷ [] else []) →
        (n + 32 ≤ size → IsFreeAt (state_of word (after victim victim_size)) (at + n) (size - n)) → Took victim victim_size
    take new step now is {k} h left free rest = record {
      take = record {
        state = (
            let segments_are = read sound step ∙ (now ∙ (ap (λ es. run.front ++ with_extents run.segment (run.first ++ (es ++ run.last)) ∷ run.back)
            (sym is) ∙ sym (replaced_run (regions heap.system) sound.segments sound.apart (cut n) run))) in
            λ i. record (state_of word heap) { segments = segments_are i; victim = left.is i });
        more = has_more sound step (extent at k Used) h;
        sound = stays_sound sound step same refl refl refl refl left.none left.named;
        words = keeps_words sound step;
      };
      free = free;
      rest = rest;
    }

    -- ---- a rest stays free

    module _ (multiple : n % 16 ≡ 0) (least : 32 ≤ n) (room : n + 32 ≤ size)
        (stored : AreStored (regions heap.system) (word heap.system) ((at + 8, head_of n true true) ∷ (
          at + n + 8,
          head_of (size - n) true false,
        ) ∷ (at + n + (size - n), size - n) ∷ []) (word system)) where
      abbrev halves : List Extent
      halves = extent at n Used ∷ extent (at + n) (size - n) Free ∷ []

      free_one : (k : ℕ) {tail : Extent} → extent_at k (chunk ∷ []) ≡ Some tail → Free ≡ tail.kind
      free_one k found = ap (λ e. e.kind) (the_one k chunk found)

      abbrev split_step : (victim victim_size : ℕ) → IsStep regions word heap (after victim victim_size) (chunk ∷ []) halves
      split_step victim victim_size = step_beside (after victim victim_size) sound same run (cut_split (regions heap.system)
          (word system) stands n multiple least room stored) refl (λ k tail found is. absurd (let no : Free ≡ Record = free_one k found ∙ is in cc)) refl
          (record { base = refl; size = refl; flags = refl; top = refl; top_size = refl })
          (λ k tail found is. absurd (let no : Free ≡ Top = free_one k found ∙ is in cc))

      has_rest : nat_le (n + 32) size ≡ true
      has_rest = grind (arith, nat_tests)

      split : (victim victim_size : ℕ) → IsLeft victim victim_size → Took victim victim_size
      split victim victim_size left = take halves (split_step victim victim_size) refl (rw has_rest refl)
          (record { front = []; back = []; fewer = refl; further = refl }) left
          (subst (λ b. FreeMoves (state_of word heap) (state_of word (after victim victim_size)) (at ∷ []) (if b then (at + n) ∷ [] else []))
          (sym has_rest) split_free) (λ more. found_new sound (split_step victim victim_size) (at + n) (extent (at + n) (size - n) Free) rest_there)
        where
          rest_there : extent_at (at + n) halves ≡ Some (extent (at + n) (size - n) Free)
          rest_there =
              let first : (at == at + n) ≡ false = nat_isnt (inl (omega arith)) in
              let second : (at + n == at + n) ≡ true = nat_same (at + n) in
              rw (first, second) refl

          in_rest : (k bytes : ℕ) → extent_at k halves ≡ Some (extent k bytes Free) → IsIn k ((at + n) ∷ [])
          in_rest k bytes found = elim (found_either k (extent at n Used ∷ []) (extent (at + n) (size - n) Free ∷ []) found) [
            | inl first ↦ absurd (let no : Used ≡ Free = ap (λ e. e.kind) (the_one k (extent at n Used) first) in cc)
            | inr later ↦ inl (sym (ap (λ e. e.at) (the_one k (extent (at + n) (size - n) Free) later.1)))
          ]

          split_free : FreeMoves (state_of word heap) (state_of word (after victim victim_size)) (at ∷ []) ((at + n) ∷ [])
          split_free = free_moves sound (split_step victim victim_size) (at ∷ []) ((at + n) ∷ [])
              (λ k bytes found. inl (sym (ap (λ e. e.at) (the_one k chunk found)))) in_rest (λ k is. elim is
              [ inl same ↦ inr (chunk, subst (λ a. extent_at a (chunk ∷ []) ≡ Some chunk) (sym same) (found_here chunk [])) | inr none ↦ absurd none ])
              (λ k is. elim is [
                | inl same ↦ inr (
                  extent (at + n) (size - n) Free,
                  subst (λ a.
                      extent_at a halves ≡ Some (extent (at + n) (size - n) Free)) (sym same) rest_there,
                )
                | inr none ↦ absurd
                    none
              ])

      -- the rest is the victim
      pub split_victim : (at ≡ heap.victim) ⊎ (n < 256) → Took (at + n) (size - n)
      split_victim why = split (at + n) (size - n) (record {
        named = λ more.
            let first : (at == at + n) ≡ false = nat_isnt (inl (omega arith)) in
            let second : (at + n == at + n) ≡ true = nat_same (at + n) in
            found_new sound (split_step (at + n) (size - n)) (at + n) (extent (at + n) (size - n) Free) (rw (first, second) refl);
        none = λ none. absurd (omega arith);
        is = left why;
      })
        where
          left : (at ≡ heap.victim) ⊎ (n < 256) → at + n ≡ victim_after (state_of word heap) n chunk
          left (inl is) = let test : (at == heap.victim) ≡ true = (let e = is in grind (arith, nat_tests)) in rw (test, has_rest) refl
          left (inr few) = small (at == heap.victim) refl (let f = few in grind (arith, nat_tests))
            where
              small : (b : Bool) → (at == heap.victim) ≡ b → nat_lt n 256 ≡ true → at + n ≡ victim_after (state_of word heap) n chunk
              small true test less = rw (test, has_rest) refl
              small false test less = rw (test, has_rest, less) refl

      -- another is, and stays
      pub split_other : at ≢ heap.victim → 256 ≤ n → Took heap.victim heap.victim_size
      split_other isnt many =
          let test : (at == heap.victim) ≡ false = (let e = isnt in grind (arith, nat_tests)) in
          let large : nat_lt n 256 ≡ false = (let m = many in grind (arith, nat_tests)) in
          split heap.victim heap.victim_size (record {
            named = λ more. found_again sound (split_step heap.victim heap.victim_size) heap.victim
                (λ here. absurd (isnt (ap (λ e. e.at) (the_one heap.victim chunk here)))) (sound.victim more);
            none = sound.no_victim;
            is = rw (test, has_rest, large) refl;
          })

    -- ---- nothing stays free

    module _ (small : size < n + 32)
        (stored : AreStored (regions heap.system) (word heap.system) ((at + 8, head_of size true true) ∷ (
          at + size + 8,
          with_pinuse (if size == 0 then head_of size true true else word heap.system (at + size + 8)),
        ) ∷ [])
        (word system)) where
      abbrev next : HasNext run.last
      next = has_next (regions heap.system) sound.segments run refl

      abbrev both : List Extent
      both = chunk ∷ next.next ∷ []

      abbrev all : List Extent
      all = extent at size Used ∷ next.next ∷ []

      move_two : IsMove (regions heap.system) (word heap.system) (word system) (last_kind Used run.first) at
          (at + size + next.next.size) (at + size + next.next.size) both all
      move_two =
          let b = behind (regions heap.system) sound.segments run next in
          let long = stands.size.1 in
          let some : (size == 0) ≡ false = nat_isnt (inr (omega arith)) in
          let low = tiles_le (word heap.system) Used run.segment.base run.first at run.first_stand in
          let place = b.0 in
          let high = tiles_le (word heap.system) next.next.kind (at + size + next.next.size) next.rest (run.segment.base + run.segment.size) b.2 in
          cut_whole (regions heap.system) (word system) stands b.1 b.0 (subst (λ t. AreStored (regions heap.system) (word heap.system)
          ((at + 8, head_of size true true) ∷ (at + size + 8, with_pinuse (if t then head_of size true true else word heap.system (at + size + 8))) ∷ [])
          (word system)) some stored) (λ k above below m. run_word (regions heap.system) sound.segments run k (omega arith) (omega arith) m)

      -- what begins elsewhere is found as before
      beside : (k : ℕ) → at ≢ k → (tail : Extent) → extent_at k both ≡ Some tail → extent_at k all ≡ Some tail
      beside k apart tail found =
          let test : (at == k) ≡ false = (let e = apart in grind (arith, nat_tests)) in
          rw test (subst (λ b. (if b then Some chunk else extent_at k (next.next ∷ [])) ≡ Some tail) test found)

      -- and so is what is no free extent
      still : (k : ℕ) {tail : Extent} → extent_at k both ≡ Some tail → (Free ≡ tail.kind → ⊥) → extent_at k all ≡ Some tail
      still k {tail} found other = go (at == k) refl
        where
          go : (b : Bool) → (at == k) ≡ b → extent_at k all ≡ Some tail
          go true here = absurd (other (ap (λ o. (unwrap_or o chunk).kind)
              (subst (λ b. (if b then Some chunk else extent_at k (next.next ∷ [])) ≡ Some tail) here found)))
          go false apart = beside k (λ is. absurd (let t : (at == k) ≡ true = (let e = is in grind (arith, nat_tests)) in cc)) tail found

      abbrev whole_step : (victim victim_size : ℕ) → IsStep regions word heap (after victim victim_size) both all
      whole_step victim victim_size = step_beside (after victim victim_size) sound same (with_next (regions heap.system) sound.segments run next) move_two refl
          (λ k tail found is. still k found (λ free. (let no : Free ≡ Record = free ∙ is in cc))) refl
          (record { base = refl; size = refl; flags = refl; top = refl; top_size = refl })
          (λ k tail found is. still k found (λ free. (let no : Free ≡ Top = free ∙ is in cc)))

      no_rest : nat_le (n + 32) size ≡ false
      no_rest = grind (arith, nat_tests)

      whole : (victim victim_size : ℕ) → IsLeft victim victim_size → Took victim victim_size
      whole victim victim_size left = take (extent at size Used ∷ []) (whole_step victim victim_size) (ap (λ es. run.front
          ++ with_extents run.segment (run.first ++ (extent at size Used ∷ es)) ∷ run.back) (sym next.is)) (rw no_rest refl)
          (record { front = []; back = used_of (next.next ∷ []); fewer = refl; further = refl }) left (subst (λ b. FreeMoves (state_of word heap)
          (state_of word (after victim victim_size)) (at ∷ []) (if b then (at + n) ∷ [] else [])) (sym no_rest) whole_free) (λ more. absurd (omega arith))
        where
          next_kind : (next.next.kind ≡ Used) ⊎ (next.next.kind ≡ Record)
          next_kind = behind_free next.next.kind (behind (regions heap.system) sound.segments run next).1.kind

          next_used : (bytes k : ℕ) → next.next ≡ extent k bytes Free → ⊥
          next_used bytes k is =
              let kind : next.next.kind ≡ Free = ap (λ e. e.kind) is in
              elim next_kind [ inl used ↦ (let no : Used ≡ Free = sym used ∙ kind in cc) | inr tail ↦ (let no : Record ≡ Free = sym tail ∙ kind in cc) ]

          in_both : (k bytes : ℕ) → extent_at k both ≡ Some (extent k bytes Free) → IsIn k (at ∷ [])
          in_both k bytes found = elim (found_either k (chunk ∷ []) (next.next ∷ []) found) [
            | inl first ↦ inl (sym (ap (λ e. e.at) (the_one k chunk first)))
            | inr later ↦ absurd (next_used bytes k (the_one k next.next later.1))
          ]

          in_all : (k bytes : ℕ) → extent_at k all ≡ Some (extent k bytes Free) → IsIn k []
          in_all k bytes found = elim (found_either k (extent at size Used ∷ []) (next.next ∷ []) found) [
            | inl first ↦ (let no : Used ≡ Free = ap (λ e. e.kind) (the_one k (extent at size Used) first) in cc)
            | inr later ↦ next_used bytes k (the_one k next.next later.1)
          ]

          whole_free : FreeMoves (state_of word heap) (state_of word (after victim victim_size)) (at ∷ []) []
          whole_free = free_moves sound (whole_step victim victim_size) (at ∷ []) [] in_both in_all
              (λ k is. elim is [
                | inl same ↦ inr (
                  chunk,
                  subst (λ a. extent_at a both ≡ Some chunk) (sym same)
                      (found_here chunk (next.next ∷ [])),
                )
                | inr none ↦ absurd none
              ])
              (λ k is. absurd is)

      -- it was the victim, and there is none now
      pub whole_victim : at ≡ heap.victim → Took 0 0
      whole_victim is =
          let test : (at == heap.victim) ≡ true = (let e = is in grind (arith, nat_tests)) in
          whole 0 0 (record { named = λ more. absurd (more refl); none = λ none. refl; is = rw (test, no_rest) refl })

      -- it was not, and the victim stays
      pub whole_other : at ≢ heap.victim → Took heap.victim heap.victim_size
      whole_other isnt =
          let test : (at == heap.victim) ≡ false = (let e = isnt in grind (arith, nat_tests)) in
          whole heap.victim heap.victim_size (record {
            named = λ more. found_again sound (whole_step heap.victim heap.victim_size) heap.victim
                (beside heap.victim isnt (extent heap.victim heap.victim_size Free)) (sound.victim more);
            none = sound.no_victim;
            is = rw (test, no_rest) refl;
          })

  -- ---- what the calls on the chunk want

  pub at_whole : at % 16 ≡ 0
  at_whole = stands.whole

  pub size_whole : size % 16 ≡ 0
  size_whole = stands.size.0

  -- the stores of two calls, as one
  pub stores : (middle system : A) → regions middle ≡ regions heap.system → n ≤ size →
      IsStored (regions heap.system) (word heap.system) (at + 8) (head_of n true true) (word middle) → AreStored (regions middle) (word middle)
      ((at + n + 8, head_of (size - n) true false) ∷ (at + n + (size - n), size - n) ∷ []) (word system) → AreStored (regions heap.system) (word
      heap.system) ((at + 8, head_of n true true) ∷ (at + n + 8, head_of (size - n) true false) ∷ (at + n + (size - n), size - n) ∷ []) (word system)
  stores middle system same fits first second =
      stored_then (head_at sound there refl at (omega arith) (omega arith) (omega (arith, at_whole))).granted first (subst (λ rs. AreStored rs (word middle)
      ((at + n + 8, head_of (size - n) true false) ∷ (at + n + (size - n), size - n) ∷ []) (word system)) same second)

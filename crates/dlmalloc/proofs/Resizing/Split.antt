-- A chunk in use is split into two.
use Rattle.dlmalloc.proofs.Names.{◌≡◌, ◌≢◌, ℕ, ◌+◌, ◌-◌, ◌%◌, ◌^◌, ◌<◌, ◌≤◌, inl, inr, true, List, [], ◌∷◌, Some, refl, sym, ◌∙◌, ap, subst, arith, Grant, Event, IsStored, AreStored, HasHead, Extent, Kind, Used, Free, Top, Record, pinuse_of, head_of, pinuse_of-head_of, extent_at, is_used, HasChunk, halves, CanSplit, IsMove, IsRunOf, segments_of, state_of, IsSound, Dlmalloc, IsSplit}
use Rattle.dlmalloc.proofs.Extents.Lookup.{extent, found_here, the_one}
use Rattle.dlmalloc.proofs.Cuts.FreeExtent.{stored_over}
use Rattle.dlmalloc.proofs.Extents.Tiling.{tiles_le, plain_chunk}
use Rattle.dlmalloc.proofs.Moves.OfFreeExtents.{free_moves}
use Rattle.dlmalloc.proofs.Moves.OfHeaps.{IsStep, read, found_new, found_again, found_before, keeps_words, stays_sound}
use Rattle.dlmalloc.proofs.Extents.RunReplaced.{run_of, step_beside, run_part, run_word}
use Rattle.dlmalloc.proofs.Cuts.StateAfter.{replaced_run}
use Rattle.dlmalloc.proofs.Resizing.TwoExtents.{in_two, no_kind, found_second}

-- the move: the two heads are stored
pub split_used : {regions : List Grant} {old new : ℕ → ℕ} {before : Kind} (at size n : ℕ) →
    HasChunk old before (extent at size Used) → n % 16 ≡ 0 → 32 ≤ n → n + 32 ≤ size →
    AreStored regions old ((at + 8, head_of n (pinuse_of (old (at + 8))) true) ∷ (at + n + 8, head_of (size - n) true true) ∷ []) new →
    IsMove regions old new before at (at + size) (at + size) (extent at size Used ∷ []) (extent at n Used ∷ extent (at + n) (size - n) Used ∷ [])
split_used {old} {before} at size n stands whole least room stored =
    let place = stands.whole in let units = stands.size.0 in
    let told : pinuse_of (old (at + 8)) ≡ is_used before = ap pinuse_of stands.head ∙ pinuse_of-head_of size (is_used before) true (omega arith) in
    record {
      less_stand = (refl, stands, refl);
      more_stand = (
        refl,
        plain_chunk place (whole, least) stands.kind (stored.here.0 ((λ is. omega arith), tt) ∙ ap (λ b. head_of n b true) told) (λ free. cc) (λ is. cc),
        (
          refl,
          plain_chunk (omega arith) (omega arith, omega arith) (inl refl) (stored.here.1.0 tt) (λ free. cc) (λ is. cc),
          omega arith,
        ),
      );
      kept = λ k word more. stored.elsewhere k word (more.0, (more.1.0, tt));
    }

module _ {A : Type 0} {regions : A → List Grant} {word : A → ℕ → ℕ} {heap : Dlmalloc A} (sound : IsSound regions word heap) {at size n : ℕ}
    (can : CanSplit (state_of word heap) at size n) where
  abbrev chunk : Extent
  chunk = extent at size Used

  abbrev run : IsRunOf (word heap.system) (segments_of word heap) at (at + size) (chunk ∷ [])
  run = run_of (regions heap.system) (word heap.system) (segments_of word heap) sound.segments can.chunk

  high : at + size ≤ run.segment.base + run.segment.size
  high = tiles_le (word heap.system) Used (at + size) run.last (run.segment.base + run.segment.size) run.last_stand

  pub end_small : at + size < 2 ^ 64
  end_small = omega (arith, high, (run_part (regions heap.system) sound.segments run).high)

  head_there : (k : ℕ) → at ≤ k → k + 16 ≤ at + size → k % 8 ≡ 0 → HasHead (regions heap.system) k
  head_there k above below m = record {
    aligned = m;
    small = omega (arith, end_small);
    granted = run_word (regions heap.system) sound.segments run (k + 8)
        (omega (arith, tiles_le (word heap.system) Used run.segment.base run.first at run.first_stand)) (omega (arith, high)) (omega arith);
  }

  pub first_head : HasHead (regions heap.system) at
  first_head = head_there at (omega arith) (omega arith) (omega (arith, run.here.1.whole))

  pub second_head : HasHead (regions heap.system) (at + n)
  second_head = head_there (at + n) (omega arith) (omega arith) (omega (arith, run.here.1.whole))

  pub rest_whole : (size - n) % 8 ≡ 0
  rest_whole = omega (arith, run.here.1.size.0)

  module _ {middle system : A} (same_middle : regions middle ≡ regions heap.system) (same_system : regions system ≡ regions middle) {value : ℕ}
      (first : AreStored (regions heap.system) (word heap.system) ((
        at + 8,
        head_of n (pinuse_of (word heap.system (at + 8))) true,
      ) ∷ (at + n + 8, value) ∷ []) (word middle))
      (second : IsStored (regions middle) (word middle) (at + n + 8) (head_of (size - n) true true) (word system)) where
    same : regions system ≡ regions heap.system
    same = same_system ∙ same_middle

    -- the stores of two calls, as one
    stores : AreStored (regions heap.system) (word heap.system) ((at + 8, head_of n (pinuse_of (word heap.system (at + 8))) true)
        ∷ (at + n + 8, head_of (size - n) true true) ∷ []) (word system)
    stores = stored_over (head_of n (pinuse_of (word heap.system (at + 8))) true) value first_head.granted first
        (subst (λ rs. IsStored rs (word middle) (at + n + 8) (head_of (size - n) true true) (word system)) same_middle second)

    abbrev after : Dlmalloc A
    after = record heap { system = system }

    abbrev both : List Extent
    both = extent at n Used ∷ extent (at + n) (size - n) Used ∷ []

    used_one : (k : ℕ) {one : Extent} → extent_at k (chunk ∷ []) ≡ Some one → Used ≡ one.kind
    used_one k there = ap (λ e. e.kind) (the_one k chunk there)

    place_one : (k : ℕ) {one : Extent} → extent_at k (chunk ∷ []) ≡ Some one → at ≡ one.at
    place_one k there = ap (λ e. e.at) (the_one k chunk there)

    abbrev step : IsStep regions word heap after (chunk ∷ []) both
    step = step_beside after sound same run (split_used at size n run.here.1 can.bytes.whole can.bytes.least can.room stores) refl
        (λ k tail found is. absurd (let no : Used ≡ Record = used_one k found ∙ is in cc)) refl
        (record { base = refl; size = refl; flags = refl; top = refl; top_size = refl })
        (λ k tail found is. absurd (let no : Used ≡ Top = used_one k found ∙ is in cc))

    neither : (used : Extent) → used.at ≢ at → used.at ≢ at + n → extent_at used.at both ≡ Some used → ⊥
    neither used other_at other_end here =
        elim (in_two (extent at n Used) (extent (at + n) (size - n) Used) used.at here) [
          | inl first ↦ other_at (sym (ap (λ e. e.at) first))
          | inr second ↦ other_end (sym (ap (λ e. e.at) second))
        ]

    pub is_split : {follows : A → List Event → A → Type 0} → follows heap.system [] system → IsSplit regions word follows heap at size n after
    is_split followed = record {
      state = (
          let segments_are = read sound step ∙ sym (replaced_run (regions heap.system) sound.segments sound.apart (halves n) run) in
          λ i. record (state_of word heap) { segments = segments_are i });
      first = found_new sound step at (extent at n Used) (found_here (extent at n Used) (extent (at + n) (size - n) Used ∷ []));
      second = found_new sound step (at + n) (extent (at + n) (size - n) Used) (found_second at n (extent (at + n) (size - n) Used) [] (omega arith));
      others = record {
        kept = λ used is other_at other_end there. found_again sound step used.at (λ here. absurd (other_at (sym (place_one used.at here)))) there;
        only = λ used is other_at other_end there. found_before sound step used.at (λ here. absurd (neither used other_at other_end here)) there;
      };
      words = λ k inside first second. stores.elsewhere k inside (first, (second, tt));
      moves = record {
        free = free_moves sound step [] [] (λ k bytes found. (let no : Used ≡ Free = used_one k found in cc))
            (λ k bytes found. no_kind (extent at n Used) (extent (at + n) (size - n) Used) Free (λ is. cc) (λ is. cc) k found refl)
            (λ k none. absurd none) (λ k none. absurd none);
        moved = record {
          sound = stays_sound sound step same refl refl refl refl sound.no_victim
              (λ more. found_again sound step heap.victim (λ here. absurd (let no : Used ≡ Free = used_one heap.victim here in cc)) (sound.victim more));
          words = keeps_words sound step;
          regions_same = same;
          followed = followed;
        };
        bins = refl;
      };
    }

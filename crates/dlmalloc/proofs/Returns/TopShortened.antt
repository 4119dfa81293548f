-- The end of the head segment goes back to the system: the heap stays sound, and its top is shorter.
use Rattle.dlmalloc.proofs.Names.{◌≡◌, ◌≢◌, ℕ, ◌+◌, ◌-◌, ◌%◌, ◌<◌, ◌≤◌, ◌⊎◌, inl, inr, List, [], ◌∷◌, ◌++◌, map, Some, IsTrue, refl, sym, ◌∙◌, ap, subst, arith, append_assoc, AllByRecursion, map-append, Grant, Event, Released, IsWordOf, IsWhole, IsRun, without_run, Extent, Used, Free, Top, Foot, extent_at, Tiles, last_kind, Segment, extents_in, trim_threshold, cut_top, IsShortened, KeepsBlocks, OnlyBoundariesChange, HasSameUsed, IsRunOf, AreChunks, IsFlaggedRun, IsSegment, AreSegments, IsApartFrom, AreApart, segments_of, state_of, IsSound, Dlmalloc}
use Rattle.heap_memory.specs.Regions.{are_whole}
use Rattle.heap_memory.specs.RunLaws.{run_aligned}
use Rattle.dlmalloc.specs.Trimmed.{shrunk, shortened}
use Rattle.dlmalloc.proofs.Extents.Lookup.{extent, nat_same, found_later}
use Rattle.dlmalloc.proofs.Segments.HeadTold.{IsHead}
use Rattle.dlmalloc.proofs.Segments.Among.{extents_all, back_apart}
use Rattle.dlmalloc.proofs.Segments.Exchange.{Exchange, exchanged_read, exchanged_used, exchanged_sound, none_exchanged, kind_was}
use Rattle.dlmalloc.proofs.Extents.Top.{head_tags}
use Rattle.dlmalloc.proofs.Segments.WordsKept.{KeepsIts, IsOutside, parts_stay, records_stay, apart_stay}
use Rattle.dlmalloc.proofs.Segments.HeadTop.{top_of, top_run, top_part, top_segment, top_last, top_low, top_whole, top_sizes, ends, end_whole, top_stands, head_with, head_first, behind_parts, head_beside, behind_apart, behind_told, head_chunks, head_extents, extents_all_are, none_from_top}
use Rattle.dlmalloc.proofs.Blocks.WordsKept.{blocks_law_still}
use Rattle.dlmalloc.proofs.Segments.RegionsLess.{given_run, run_shortened, segments_beside}

-- chunks stay as they are
map_shrunk : (less : ℕ) (chunks : List Extent) → AreChunks chunks → map (shrunk less) chunks ≡ chunks
map_shrunk less [] are = refl
map_shrunk less (chunk ∷ chunks) are = λ i. same are.0 i ∷ map_shrunk less chunks are.1 i
  where
    same : (chunk.kind ≡ Used) ⊎ (chunk.kind ≡ Free) → shrunk less chunk ≡ chunk
    same (inl is) = rw is refl
    same (inr is) = rw is refl

module _ {A : Type 0} {regions : A → List Grant} {word : A → ℕ → ℕ} {heap : Dlmalloc A} (sound : IsSound regions word heap) (some : 0 < heap.size) where
  abbrev run : IsRunOf (word heap.system) (segments_of word heap) heap.top (heap.top + heap.top_size) (extent heap.top heap.top_size Top ∷ [])
  run = top_run sound some

  was : IsHead heap run.segment
  was = top_segment sound some

  closes : heap.top + heap.top_size + 80 ≡ heap.base + heap.size
  closes = ends sound some

  low : heap.base ≤ heap.top
  low = top_low sound some

  head_run : IsFlaggedRun (regions heap.system) heap.base heap.size heap.flags
  head_run = subst (λ f. IsFlaggedRun (regions heap.system) heap.base heap.size f) (sym was.flags)
      (subst (λ n. IsFlaggedRun (regions heap.system) heap.base n run.segment.flags) (sym was.size)
      (subst (λ b. IsFlaggedRun (regions heap.system) b run.segment.size run.segment.flags) (sym was.base)
      (top_part sound some).run))

  -- its bytes can be given back
  pub head_given : IsRun (regions heap.system) heap.base (heap.base + heap.size)
  head_given = given_run head_run some

  module _ (less : ℕ) (units : less % 16 ≡ 0) (room : less + 80 < heap.top_size) where
    pub within : less ≤ heap.size
    within = omega (arith, closes, low)

    -- what is left is some bytes, in units of 16
    pub rest_some : 0 < heap.size - less
    rest_some = omega (arith, closes, low)

    pub rest_whole : IsTrue (are_whole (regions heap.system)) → (heap.size - less) % 16 ≡ 0
    rest_whole tests = omega (arith, run_aligned heap.base (heap.base + heap.size) (regions heap.system) head_given tests, end_whole sound some, within)

    -- ---- when they are given back

    module _ (all : AllByRecursion IsWhole (regions heap.system)) (system : A)
        (gone : regions system ≡ without_run (heap.base + (heap.size - less)) (heap.base + heap.size) (regions heap.system)) where
      rest_run : IsFlaggedRun (regions system) heap.base (heap.size - less) heap.flags
      rest_run = subst (λ rs. IsFlaggedRun rs heap.base (heap.size - less) heap.flags) (sym gone) (run_shortened head_run less within all)

      -- a word of what is left
      pub still_word : (k : ℕ) → heap.base ≤ k → k < heap.base + (heap.size - less) → k % 8 ≡ 0 → IsWordOf (regions system) k
      still_word k above below m = record { granted = rest_run.covered k above below; aligned = m }

      pub top_still : IsWordOf (regions system) (heap.top + 8)
      top_still = still_word (heap.top + 8) (omega (arith, low)) (omega (arith, closes)) (omega (arith, top_whole sound some))

      pub foot_still : IsWordOf (regions system) (heap.base + (heap.size - less) - 72)
      foot_still = still_word (heap.base + (heap.size - less) - 72) (omega (arith, closes, low))
          (omega (arith, closes, low)) (omega (arith, end_whole sound some, within, closes, low))

      module _ (head : word system (heap.top + 8) ≡ heap.base + (heap.size - less) - 80 - heap.top + 1)
          (foot : word system (heap.base + (heap.size - less) - 72) ≡ 80)
          (kept : (k : ℕ) → IsWordOf (regions system) k → k ≢ heap.top + 8 → k ≢ heap.base + (heap.size - less) - 72 → word system k ≡ word heap.system k) where
        abbrev pub after : Dlmalloc A
        after = record heap { system = system; size = heap.size - less; top_size = heap.base + (heap.size - less) - 80 - heap.top; trim_check = trim_threshold }

        abbrev length_now : ℕ
        length_now = heap.top_size - less

        length_is : length_now ≡ heap.base + (heap.size - less) - 80 - heap.top
        length_is = omega (arith, closes, low)

        abbrev more : List Extent
        more = top_of heap.top length_now

        abbrev now : Segment
        now = record { base = run.segment.base; size = run.segment.size - less; flags = run.segment.flags; extents = run.first ++ more }

        now_end : heap.top + length_now + 80 ≡ run.segment.base + (run.segment.size - less)
        now_end = omega (arith, (top_last sound some).1, was.base, was.size, closes, low)

        now_run : IsFlaggedRun (regions system) run.segment.base (run.segment.size - less) run.segment.flags
        now_run = subst (λ f. IsFlaggedRun (regions system) run.segment.base (run.segment.size - less) f) was.flags (subst (λ n. IsFlaggedRun (regions system)
            run.segment.base (n - less) heap.flags) was.size (subst (λ b. IsFlaggedRun (regions system) b (heap.size - less) heap.flags) was.base rest_run))

        -- words of other segments stay
        outside_kept : (k : ℕ) → IsWordOf (regions system) k → IsOutside run.segment k → IsOutside run.segment k → word system k ≡ word heap.system k
        outside_kept k inside first second = kept k inside (λ is. elim first [
          | inl below ↦ omega (arith, was.base, low)
          | inr above ↦ omega (arith, (top_last sound some).1)
        ]) (λ is. elim first [
          | inl below ↦ omega (arith, was.base, closes, low)
          | inr above ↦ omega (arith, was.base, was.size, closes, low)
        ])

        more_stand : Tiles (word system) (last_kind Used run.first) heap.top more (run.segment.base + (run.segment.size - less))
        more_stand =
            let place : heap.top + length_now + 8 ≡ heap.base + (heap.size - less) - 72 = omega (arith, closes, low) in
            subst (λ end. Tiles (word system) (last_kind Used run.first) heap.top more end) now_end
            (top_stands (word system) heap.top length_now run.here.1.kind (top_whole sound some) (omega (arith, (top_sizes sound some).0)) (omega arith)
            (head ∙ ap (λ n. n + 1) (sym length_is)) (ap (word system) place ∙ foot))

        is_now : IsSegment (regions system) (word system) now
        is_now = head_with sound some (word system) more now_run (omega (arith, (top_part sound some).high)) (omega (arith, now_end, was.base, low))
            (λ k above below m. kept k (still_word k (omega (arith, was.base)) (omega (arith, closes)) m) (λ is. omega arith)
            (λ is. omega (arith, closes, low)))
            more_stand refl

        back_parts : AreSegments (regions system) (word heap.system) run.back
        back_parts = subst (λ rs. AreSegments rs (word heap.system) run.back) (sym gone)
            (segments_beside head_run less within (word heap.system) run.segment run.back (sym was.base) (sym was.size) (behind_parts sound some)
            (head_beside sound some))

        back_keeps : AllByRecursion (KeepsIts (word heap.system) (word system)) run.back
        back_keeps = apart_stay (regions system) (word heap.system) (word system) run.segment run.segment run.back back_parts
            (head_beside sound some) (back_apart [] run.segment run.back (head_beside sound some, behind_apart sound some)) outside_kept

        apart_now : AreApart (now ∷ run.back)
        apart_now = (shorter run.back (head_beside sound some), behind_apart sound some)
          where
            shorter : (others : List Segment) → AllByRecursion (IsApartFrom run.segment) others → AllByRecursion (IsApartFrom now) others
            shorter [] all = tt
            shorter (other ∷ others) all = (elim (all.0) [ inl before ↦ inl (omega arith) | inr behind ↦ inr behind ], shorter others all.1)

        where_top : extent_at heap.top now.extents ≡ Some (extent heap.top after.top_size Top)
        where_top = found_later heap.top run.first more (none_from_top sound some heap.top (omega arith))
            ∙ (let here = nat_same heap.top in rw here refl ∙ (λ i. Some (extent heap.top (length_is i) Top)))

        abbrev it : Exchange regions word heap after
        it = record {
          now = now ∷ run.back;
          parts = (is_now, parts_stay (regions system) (word heap.system) (word system) run.back back_parts back_keeps);
          apart = apart_now;
          told = (
            rest_some,
            was.base,
            ap (λ n. n - less) was.size,
            was.flags,
            where_top,
            records_stay (regions system) (word heap.system)
                (word system) run.back back_parts back_keeps heap.next (behind_told sound some),
          );
          some = rest_some;
          granularity = refl;
          ahead = [];
          first = run.first;
          less = top_of heap.top heap.top_size;
          more = more;
          last = extents_all run.back;
          were = extents_all_are sound some;
          are = append_assoc run.first more (extents_all run.back);
        }

        shortened_used : HasSameUsed (state_of word heap) (state_of word after)
        shortened_used = exchanged_used sound it ((λ is. cc), ((λ is. cc), tt)) tt ((λ is. cc), ((λ is. cc), tt))

        shortened_sound : IsSound regions word after
        shortened_sound = exchanged_sound sound it ((λ is. cc), ((λ is. cc), tt)) refl refl

        shortened_state : state_of word after ≡ cut_top less (state_of word heap)
        shortened_state =
            (λ i. record (state_of word heap) { segments = segments_now i; trim_check = trim_threshold })
            ∙ ap (λ ss. cut_top less (record (state_of word heap) { segments = ss })) (sym (head_first sound some))
          where
            shrunk_are : map (shrunk less) run.segment.extents ≡ run.first ++ more
            shrunk_are =
                let place : heap.top + heap.top_size - less ≡ heap.top + length_now = omega arith in
                ap (map (shrunk less)) (head_extents sound some) ∙ (map-append (shrunk less) run.first (top_of heap.top heap.top_size)
                ∙ (λ i. map_shrunk less run.first (head_chunks sound some) i ++ (extent heap.top length_now Top ∷ extent (place i) 80 Foot ∷ [])))

            segments_now : segments_of word after ≡ shortened less run.segment ∷ run.back
            segments_now = exchanged_read sound it ∙ (λ i.
                (record { base = run.segment.base; size = run.segment.size - less; flags = run.segment.flags; extents = (sym shrunk_are) i }) ∷ run.back)

        shortened_words : (k : ℕ) → IsWordOf (regions system) k → k ≢ after.top + 8 → k ≢ after.top + after.top_size + 8 → word system k ≡ word heap.system k
        shortened_words k inside at_top at_foot = kept k inside at_top (λ is. at_foot (omega (arith, closes, low)))

        -- the heads of the top and of its foot are at boundaries
        shortened_boundaries : OnlyBoundariesChange (regions system) (state_of word after) (word heap.system) (word system)
        shortened_boundaries k inside boundary = let tags = head_tags shortened_sound rest_some k boundary in shortened_words k inside tags.0 tags.1

        shortened_kept : KeepsBlocks (extents_in (state_of word heap)) (word heap.system) (word system)
        shortened_kept = blocks_law_still regions word after sound shortened_sound (λ k inside was own recorded. shortened_boundaries k inside
            (λ boundary. own (inl boundary))) (extents_in (state_of word heap)) (λ block there used. (there, shortened_used.still block used there))

        pub is_shortened : {follows : A → List Event → A → Type 0} →
            follows heap.system (Released heap.base heap.size (heap.size - less) ∷ []) system → IsShortened regions word follows heap less after
        is_shortened followed = record {
          state = shortened_state;
          stays = record {
            sound = shortened_sound;
            used = shortened_used;
            kept = shortened_kept;
            free = none_exchanged sound it tt ((λ is. cc), ((λ is. cc), tt)) ((λ is. cc), ((λ is. cc), tt));
            victim_same = refl;
            bins_same = refl;
            records = λ one is there. kind_was sound it tt ((λ is. cc), ((λ is. cc), tt)) is one.at there;
            words = shortened_words;
          };
          regions_are = gone;
          followed = followed;
        }

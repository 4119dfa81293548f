-- A run of extents of a heap gives way to others.
use Rattle.dlmalloc.proofs.Names.{◌≡◌, ℕ, ◌+◌, ◌%◌, ◌<◌, ◌≤◌, true, false, List, [], ◌∷◌, ◌++◌, Some, refl, sym, ◌∙◌, ap, subst, arith, append_assoc, Grant, IsWordOf, Extent, Used, Top, Record, ends_segment, extent_at, Tiles, last_kind, Segment, IsMove, IsRunOf, IsFlaggedRun, IsSegment, AreSegments, AreApart, record_of, segments_of, AreTold, IsSound, Dlmalloc}
use Rattle.dlmalloc.proofs.Extents.Lookup.{extent, found}
use Rattle.dlmalloc.proofs.Extents.Tiling.{sized, tiles_append, tiles_split}
use Rattle.dlmalloc.proofs.Words.Spared.{spared_first, spared_second}
use Rattle.dlmalloc.proofs.Moves.OfLists.{last_append, moved}
use Rattle.dlmalloc.proofs.Extents.OneMoreUsed.{tiles_distinct, replaced_found}
use Rattle.dlmalloc.proofs.Segments.Among.{extents_all, with_extents, all_at, located, of_located}
use Rattle.dlmalloc.proofs.Segments.OneReplaced.{IsChanged}
use Rattle.dlmalloc.proofs.Segments.HeadTold.{IsHead, HasSameHead, told_head, told_same}
use Rattle.dlmalloc.proofs.Moves.OfHeaps.{IsStep}

-- an extent that is found is a run
pub run_of : (regions : List Grant) (words : ℕ → ℕ) (segments : List Segment) → AreSegments regions words segments → {extent : Extent} →
    extent_at extent.at (extents_all segments) ≡ Some extent → IsRunOf words segments extent.at (extent.at + extent.size) (extent ∷ [])
run_of regions words segments parts {extent} there =
    let l = located extent.at segments there in let p = of_located (IsSegment regions words) l parts in
    let f = found extent.at extent l.segment.extents l.there in let end = l.segment.base + l.segment.size in
    let s = tiles_split words Used l.segment.base f.front (extent ∷ f.back) end (subst (λ es. Tiles words Used l.segment.base es end) f.is p.extents) in
    let place : extent.at ≡ s.middle = s.second.0 in
    record {
      front = l.front;
      segment = l.segment;
      back = l.back;
      is = l.is;
      first = f.front;
      last = f.back;
      extents = f.is;
      first_stand = subst (λ a. Tiles words Used l.segment.base f.front a) (sym place) s.first;
      here = (refl, s.second.1, refl);
      last_stand = subst (λ a. Tiles words extent.kind (a + extent.size) f.back end) (sym place) s.second.2;
      some = (let long = (sized extent.kind extent.size s.second.1.size).1 in omega arith);
    }

-- ---- a run and what stands beside it

pub record HasNext (last : List Extent) : Type 0 where
  pub next : Extent
  pub rest : List Extent
  pub is : last ≡ next ∷ rest

module _ (regions : List Grant) {words : ℕ → ℕ} {segments : List Segment}
    (parts : AreSegments regions words segments) {from to : ℕ} {less : List Extent} (run : IsRunOf words segments from to less) where
  abbrev pub run_end : ℕ
  run_end = run.segment.base + run.segment.size

  pub run_part : IsSegment regions words run.segment
  run_part = all_at (IsSegment regions words) run.front run.segment run.back (subst (AreSegments regions words) run.is parts)

  pub run_tail : ends_segment (last_kind (last_kind (last_kind Used run.first) less) run.last) ≡ true
  run_tail = ap ends_segment (sym (last_append (last_kind Used run.first) less run.last)) ∙ (ap ends_segment
      (sym (last_append Used run.first (less ++ run.last))) ∙ (ap (λ es. ends_segment (last_kind Used es)) (sym run.extents) ∙ run_part.tail))

  -- a run that ends no segment has an extent after it
  pub has_next : ends_segment (last_kind (last_kind Used run.first) less) ≡ false → HasNext run.last
  has_next goes_on = go run.last run_tail
    where
      go : (last : List Extent) → ends_segment (last_kind (last_kind (last_kind Used run.first) less) last) ≡ true → HasNext last
      go [] tail = absurd (cc)
      go (next ∷ rest) tail = record { next = next; rest = rest; is = refl }

  module _ (n : HasNext run.last) where
    abbrev pub behind : Tiles words (last_kind (last_kind Used run.first) less) to (n.next ∷ n.rest) run_end
    behind = subst (λ es. Tiles words (last_kind (last_kind Used run.first) less) to es run_end) n.is run.last_stand

    -- it goes into the run
    abbrev pub with_next : IsRunOf words segments from (to + n.next.size) (less ++ n.next ∷ [])
    with_next = record {
      front = run.front;
      segment = run.segment;
      back = run.back;
      is = run.is;
      first = run.first;
      last = n.rest;
      extents = run.extents ∙ (ap (λ es. run.first ++ (less ++ es)) n.is ∙ ap (λ es. run.first ++ es) (sym (append_assoc less (n.next ∷ []) n.rest)));
      first_stand = run.first_stand;
      here = tiles_append words (last_kind Used run.first) from less (n.next ∷ []) to (to + n.next.size) run.here (behind.0, behind.1, refl);
      last_stand = subst (λ k. Tiles words k (to + n.next.size) n.rest run_end) (sym (last_append (last_kind Used run.first) less (n.next ∷ []))) behind.2;
      some = (let s = run.some in omega arith);
    }

  -- the word at a place of the segment
  pub run_word : (k : ℕ) → run.segment.base ≤ k → k < run_end → k % 8 ≡ 0 → IsWordOf regions k
  run_word k low high m = record { granted = run_part.run.covered k low high; aligned = m }

-- ---- a run in a segment gives way to others that are as long

module _ {A : Type 0} {regions : A → List Grant} {word : A → ℕ → ℕ} {heap : Dlmalloc A} (new : Dlmalloc A) (sound : IsSound regions word heap)
    (same : regions new.system ≡ regions heap.system) {from to : ℕ} {less more : List Extent}
    (run : IsRunOf (word heap.system) (segments_of word heap) from to less)
    (move : IsMove (regions heap.system) (word heap.system) (word new.system) (last_kind Used run.first) from to to less more)
    (kind : last_kind (last_kind Used run.first) more ≡ last_kind (last_kind Used run.first) less)
    (tails : (k : ℕ) (tail : Extent) → extent_at k less ≡ Some tail → tail.kind ≡ Record → extent_at k more ≡ Some tail) where
  abbrev pub run_extents : List Extent
  run_extents = run.first ++ (more ++ run.last)

  abbrev pub run_now : Segment
  run_now = with_extents run.segment run_extents

  pub parts : AreSegments (regions heap.system) (word heap.system) (run.front ++ run.segment ∷ run.back)
  parts = subst (AreSegments (regions heap.system) (word heap.system)) run.is sound.segments

  pub apart : AreApart (run.front ++ run.segment ∷ run.back)
  apart = subst AreApart run.is sound.apart

  part : IsSegment (regions heap.system) (word heap.system) run.segment
  part = run_part (regions heap.system) sound.segments run

  is_now : IsSegment (regions heap.system) (word new.system) run_now
  is_now = record {
    run = part.run;
    low = part.low;
    high = part.high;
    long = part.long;
    extents = moved Used run.segment.base (run.segment.base + run.segment.size) run.first run.last run.first_stand move
        run.last_stand (λ k low high m. record { granted = part.run.covered k (omega arith) high; aligned = m }) run.some kind
        (run_tail (regions heap.system) sound.segments run);
    tail = ap ends_segment (last_append Used run.first (more ++ run.last)) ∙ (ap ends_segment (last_append (last_kind Used run.first) more run.last)
        ∙ (ap (λ k. ends_segment (last_kind k run.last)) kind ∙ (run_tail (regions heap.system) sound.segments run)));
  }

  -- what is found in the segment still is, if it is found among the new ones too
  pub stays : (k : ℕ) {one : Extent} → (extent_at k less ≡ Some one → extent_at k more ≡ Some one) →
      extent_at k run.segment.extents ≡ Some one → extent_at k run_extents ≡ Some one
  stays k still there = replaced_found k run.first less more run.last
      (tiles_distinct (word new.system) Used run.segment.base run_extents (run.segment.base + run.segment.size) is_now.extents) still
      (ap (extent_at k) (sym run.extents) ∙ there)

  pub changed : IsChanged (regions heap.system) (regions new.system) (word heap.system) (word new.system) run.segment run_now
  changed = record {
    now = subst (λ rs. IsSegment rs (word new.system) run_now) (sym same) is_now;
    kept = λ k inside spared. move.kept k inside (spared_first more run.last k (spared_second run.first (more ++ run.last) k spared));
    others = λ other is beyond. (subst (λ rs. IsFlaggedRun rs other.base other.size other.flags) (sym same) is.run, beyond);
    records = λ at there. (refl, refl, refl, stays at (λ here. tails at (record_of at (run.segment.base + run.segment.size)) here refl) there);
  }

  abbrev step : AreTold (word new.system) new (run.front ++ run_now ∷ run.back) → IsStep regions word heap new less more
  step told = record {
    front = run.front;
    segment = run.segment;
    back = run.back;
    is = run.is;
    now = run_now;
    first =
        run.first;
    last = run.last;
    old_extents = run.extents;
    new_extents = refl;
    changed = changed;
    told = told;
  }

  -- the top stays
  abbrev pub step_beside : new.next ≡ heap.next → HasSameHead heap new → ((k : ℕ) (tail : Extent) → extent_at k less ≡ Some tail →
      tail.kind ≡ Top → extent_at k more ≡ Some tail) → IsStep regions word heap new less more
  step_beside next head top = step (told_same heap new changed next run.front run.back apart parts (subst (AreTold (word heap.system) heap) run.is sound.told)
      head (λ there. stays heap.top (λ here. top heap.top (extent heap.top heap.top_size Top) here refl) there))

  -- the head segment has another top
  abbrev pub step_top : new.next ≡ heap.next → run.front ≡ [] → IsHead new run_now → IsStep regions word heap new less more
  step_top next none head = step (told_head heap new changed next run.front run.back none apart parts
      (subst (AreTold (word heap.system) heap) run.is sound.told) head)

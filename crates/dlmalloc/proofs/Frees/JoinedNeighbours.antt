-- A chunk in use joins what is free on its two sides: what its run becomes, and what that leaves of the heap.
use Rattle.dlmalloc.proofs.Names.{◌≡◌, ◌≢◌, ℕ, ◌+◌, ◌-◌, ◌%◌, ◌<◌, ◌≤◌, ◌⊎◌, inl, inr, true, false, ◌==◌, List, [], ◌∷◌, ◌++◌, map, Some, refl, sym, ◌∙◌, ap, subst, arith, append_assoc, nat_tests, map-append, Grant, IsWordOf, Extent, Kind, Used, Free, Top, Record, is_free, is_used, Segment, extents_in, in_segments, before, freed_in, victim_in, freed, OnlyBoundariesChange, IsFreeAround, HasOneMore, IsIn, FreeMoves, Tiles, last_kind, IsRunOf, HasMore, used_of, IsSegment, AreSegments, AreApart, segments_of, state_of, IsSound, Dlmalloc}
use Rattle.dlmalloc_chunks.specs.Tiling.{extent_at}
use Rattle.dlmalloc.specs.Binned.{IsJoint}
use Rattle.dlmalloc.specs.Freed.{merged, set_free}
use Rattle.dlmalloc.proofs.Extents.Lookup.{extent, same_extent, nat_same, nat_isnt, found_either, found_later, found_more, the_one}
use Rattle.dlmalloc.proofs.Extents.Tiling.{tiles_le, tiles_append, tiles_split}
use Rattle.dlmalloc.proofs.Moves.OfLists.{last_append}
use Rattle.dlmalloc.proofs.Extents.OneMoreUsed.{used_append, none_outside}
use Rattle.dlmalloc.proofs.Segments.Among.{extents_all, with_extents, all_at}
use Rattle.dlmalloc.proofs.Extents.RunReplaced.{run_word}
use Rattle.dlmalloc.proofs.Cuts.StateAfter.{in_one, in_no_other}
use Rattle.dlmalloc.proofs.Frees.StateAfter.{IsBeside, joint_kind, merged_same, merged_behind, set_free_none}
use Rattle.dlmalloc.proofs.Extents.FreeMerged.{before_free, before_next_used}
use Rattle.dlmalloc.proofs.Frees.FreeBeside.{Left, Right, begins_whole, with_left, found_place, beside_place, first_there}
use Rattle.dlmalloc.proofs.Moves.OfFreeExtents.{IsThere, free_moves}
use Rattle.dlmalloc.proofs.Extents.Victim.{victim_same}
use Rattle.dlmalloc.proofs.Moves.OfHeaps.{IsStep, read, segments_now, apart_now, found_new, found_again, keeps_words, stays_sound, has_less}

-- An extent in use was freed, with the free ones beside it, up to an address from another on.
pub record IsFree {A : Type 0} (regions : A → List Grant) (word : A → ℕ → ℕ) (old : Dlmalloc A) (at size from to : ℕ) (new : Dlmalloc A) : Type 0 where
  pub state : state_of word new ≡ freed (state_of word old) at
  pub less : HasOneMore (state_of word new) (state_of word old) at
  pub sound : IsSound regions word new
  pub words : OnlyBoundariesChange (regions old.system) (state_of word new) (word old.system) (word new.system)
  pub records : (one : Extent) → one.kind ≡ Record → extent_at one.at (extents_in (state_of word old)) ≡ Some one →
      extent_at one.at (extents_in (state_of word new)) ≡ Some one
  pub free : FreeMoves (state_of word old) (state_of word new) (from ∷ (at + size) ∷ []) (from ∷ [])
  pub joined : IsJoint (state_of word new) new.top from (to - from)
  pub around : IsFreeAround (state_of word new) at from

module _ {A : Type 0} {regions : A → List Grant} {word : A → ℕ → ℕ} {heap : Dlmalloc A} (sound : IsSound regions word heap) {at size from to : ℕ}
    {kind : Kind} (right : Right (word heap.system) (segments_of word heap) at size to kind)
    (left : Left (word heap.system) right.run.segment.base right.run.first at from) where
  abbrev segments : List Segment
  segments = segments_of word heap

  abbrev words : ℕ → ℕ
  words = word heap.system

  abbrev chunk : Extent
  chunk = extent at size Used

  abbrev next : Extent
  next = right.next

  abbrev pub less : List Extent
  less = left.lefts ++ chunk ∷ (right.rights ++ next ∷ [])

  abbrev pub end : ℕ
  end = to + next.size

  abbrev pub run : IsRunOf words segments from end less
  run = with_left words segments right.run left

  abbrev run_end : ℕ
  run_end = run.segment.base + run.segment.size

  pub reach : from ≤ at
  reach = tiles_le words Used from left.lefts at left.lefts_stand

  long : 32 ≤ size
  long = right.run.here.1.size.1

  pub room : from + 32 ≤ to
  room = omega (arith, reach, right.reach, long)

  pub from_whole : from % 16 ≡ 0
  from_whole = begins_whole words (last_kind Used run.first) from left.lefts chunk (right.rights ++ next ∷ []) end run.here

  pub to_whole : to % 16 ≡ 0
  to_whole = omega (arith, right.place, right.stands.whole)

  abbrev pub joint : Extent
  joint = extent from (to - from) kind

  abbrev pub more : List Extent
  more = joint ∷ next ∷ []

  low : run.segment.base ≤ from
  low = tiles_le words Used run.segment.base run.first from run.first_stand

  pub high : end ≤ run_end
  high = tiles_le words (last_kind (last_kind Used run.first) less) end run.last run_end run.last_stand

  pub word_there : (k : ℕ) → from ≤ k → k < end → k % 8 ≡ 0 → IsWordOf (regions heap.system) k
  word_there k above below m = run_word (regions heap.system) sound.segments run k (omega (arith, low)) (omega (arith, high)) m

  pub last_less : last_kind (last_kind Used run.first) less ≡ next.kind
  last_less = last_append (last_kind Used run.first) left.lefts (chunk ∷ (right.rights ++ next ∷ [])) ∙ last_append Used right.rights (next ∷ [])

  -- what is neither free there nor in use is found as before
  pub stays : {other : Kind} → (Free ≡ other → ⊥) → (kind ≡ other → ⊥) → (Used ≡ other → ⊥) → (k : ℕ) (one : Extent) → extent_at k less ≡ Some one →
      one.kind ≡ other → extent_at k more ≡ Some one
  stays free joins used k one found is = elim (found_either k left.lefts (chunk ∷ (right.rights ++ next ∷ [])) found) [
    | inl first ↦ absurd (free (sym (left.free k one first) ∙ is))
    | inr later ↦ elim (found_either k (chunk ∷ []) (right.rights ++ next ∷ []) later.1) [
      | inl here ↦ absurd (used (ap (λ e. e.kind) (the_one k chunk here) ∙ is))
      | inr behind ↦ elim (found_either k right.rights (next ∷ []) behind.1) [
        | inl beside ↦ absurd (joins (sym (right.are k one beside) ∙ is))
        | inr last ↦ (let place = found_place k next last.1 in let test : (from == k) ≡ false = nat_isnt (inl (omega (arith, right.place, room))) in
            rw test last.1)
      ]
    ]
  ]

  -- an extent that begins elsewhere is found as before
  pub beyond : (k : ℕ) → (k < from) ⊎ (to ≤ k) → extent_at k less ≡ extent_at k more
  beyond k out =
      let s = tiles_split words Used (at + size) right.rights (next ∷ []) end right.run.here.2 in
      let place : s.middle ≡ to = sym s.second.0 ∙ right.place in
      let test : (at == k) ≡ false = nat_isnt (elim out [ inl a ↦ inr (omega (arith, reach)) | inr b ↦ inl (omega (arith, right.reach, long)) ]) in
      let test' : (from == k) ≡ false = nat_isnt (elim out [ inl a ↦ inr a | inr b ↦ inl (omega (arith, room)) ]) in
      found_later k left.lefts (chunk ∷ (right.rights ++ next ∷ [])) (none_outside words Used from left.lefts at k
      (elim out [ inl a ↦ inl a | inr b ↦ inr (omega (arith, right.reach)) ]) left.lefts_stand)
      ∙ rw (test, test') (found_later k right.rights (next ∷ []) (none_outside words Used (at + size) right.rights s.middle k
      (elim out [ inl a ↦ inl (omega (arith, reach)) | inr b ↦ inr (omega arith) ]) s.first))

  -- what stands after it is found there
  pub next_there : extent_at to run.segment.extents ≡ Some next
  next_there =
      let first : (from == to) ≡ false = nat_isnt (inl (omega (arith, room))) in
      let second : (next.at == to) ≡ true = (let p = right.place in grind (arith, nat_tests)) in
      ap (extent_at to) run.extents ∙ (found_later to run.first (less ++ run.last) (none_outside words Used run.segment.base run.first from to (inr
      (omega (arith, room))) run.first_stand) ∙ found_more to less run.last {extent = next} (beyond to (inr (omega arith)) ∙ rw (first, second) refl))

  fewer : HasMore more less chunk
  fewer = record {
    front = [];
    back = used_of (next ∷ []);
    fewer = (let unused : is_used kind ≡ false = elim (right.joins) [ inl is ↦ ap is_used is | inr is ↦ ap is_used is ] in rw unused refl);
    further = used_append left.lefts (chunk ∷ (right.rights ++ next ∷ [])) ∙ ((λ i. left.none i ++ (chunk ∷ used_of (right.rights ++ next ∷ [])))
        ∙ ap (λ l. chunk ∷ l) (used_append right.rights (next ∷ []) ∙ ap (λ l. l ++ used_of (next ∷ [])) right.none));
  }

  -- ---- the free ones of the run

  no_free_next : {k bytes : ℕ} → next ≡ extent k bytes Free → ⊥
  no_free_next is = (let free : is_free next.kind ≡ true = ap (λ e. is_free e.kind) is in let no = sym right.stays ∙ free in cc)

  in_less : (k bytes : ℕ) → extent_at k less ≡ Some (extent k bytes Free) → IsIn k (from ∷ (at + size) ∷ [])
  in_less k bytes found = elim (found_either k left.lefts (chunk ∷ (right.rights ++ next ∷ [])) found) [
    | inl first ↦ inl (beside_place words Used from left.lefts at left.beside left.lefts_stand k first)
    | inr later ↦ elim (found_either k (chunk ∷ []) (right.rights ++ next ∷ []) later.1) [
      | inl here ↦ absurd (let no : Used ≡ Free = ap (λ e. e.kind) (the_one k chunk here) in cc)
      | inr behind ↦ elim (found_either k right.rights (next ∷ []) behind.1) [
        | inl beside ↦ (let s = tiles_split words Used (at + size) right.rights (next ∷ []) end right.run.here.2 in
            inr (inl (beside_place words Used (at + size) right.rights s.middle right.beside s.first k beside)))
        | inr last ↦ absurd (no_free_next (the_one k next last.1))
      ]
    ]
  ]

  in_more : (k bytes : ℕ) → extent_at k more ≡ Some (extent k bytes Free) → IsIn k (from ∷ [])
  in_more k bytes found = elim (found_either k (joint ∷ []) (next ∷ []) found) [
    | inl first ↦ inl (sym (found_place k joint first))
    | inr later ↦ absurd (no_free_next (the_one k next later.1))
  ]

  -- something stands after it
  right_there : IsThere (at + size) less
  right_there =
      let f = first_there words Used (at + size) right.rights next end right.run.here.2 in
      let test : (at == at + size) ≡ false = nat_isnt (inl (omega (arith, long))) in (
        f.0,
        found_later (at + size) left.lefts (chunk ∷ (right.rights ++ next ∷ []))
            (none_outside words Used from left.lefts at (at + size) (inr (omega arith)) left.lefts_stand) ∙ rw test f.1,
      )

  joint_here : extent_at from more ≡ Some joint
  joint_here = (let test : (from == from) ≡ true = nat_same from in rw test refl)

  -- ---- what the state becomes

  behind_stand : Tiles words Used (at + size) (right.rights ++ next ∷ run.last) run_end
  behind_stand = subst (λ es. Tiles words Used (at + size) es run_end) (append_assoc right.rights (next ∷ []) run.last)
      (tiles_append words Used (at + size) (right.rights ++ next ∷ []) run.last end run_end right.run.here.2 right.run.last_stand)

  abbrev freed_chunk : Extent
  freed_chunk = extent at size Free

  merged_right : (rights : List Extent) → IsBeside rights → Tiles words Used (at + size) (rights ++ next ∷ run.last) run_end →
      (merged (freed_chunk ∷ (rights ++ next ∷ run.last)) ≡ extent at (next.at - at) (joint_kind rights) ∷ next ∷ run.last) ×
      (is_free (joint_kind rights) ≡ true) × (at + size ≤ next.at)
  merged_right [] beside h =
      let place = h.0 in (
        ap (before freed_chunk) (merged_same words Used (at + size) (next ∷ run.last) run_end h) ∙ before_next_used freed_chunk next run.last right.stays
            ∙ ap (λ e. e ∷ next ∷ run.last) (same_extent refl (omega arith) refl),
        refl,
        omega arith,
      )
  merged_right (q ∷ []) beside h =
      let first = h.0 in let place = h.2.0 in (
        ap (λ l. before freed_chunk (before q l)) (merged_same words q.kind (at + size + q.size) (next ∷ run.last) run_end h.2)
            ∙ (ap (before freed_chunk) (before_next_used q next run.last right.stays) ∙ (before_free freed_chunk q (next ∷ run.last) refl beside
            ∙ ap (λ e. e ∷ next ∷ run.last) (same_extent refl (omega arith) refl))),
        beside,
        omega arith,
      )
  merged_right (q ∷ r ∷ rights) beside h = absurd beside

  -- the free ones and the chunk become one
  merged_all : (lefts : List Extent) → IsBeside lefts → Tiles words Used from lefts at →
      merged (lefts ++ freed_chunk ∷ (right.rights ++ next ∷ run.last)) ≡ extent from (next.at - from) (joint_kind right.rights) ∷ next ∷ run.last
  merged_all [] beside h = (merged_right right.rights right.beside behind_stand).0
      ∙ ap (λ e. e ∷ next ∷ run.last) (same_extent (sym h) (ap (λ a. next.at - a) (sym h)) refl)
  merged_all (p ∷ []) beside h =
      let b = merged_right right.rights right.beside behind_stand in
      let place = h.0 in let ends = h.2 in let low = b.2 in
      ap (before p) b.0 ∙ (before_free p (extent at (next.at - at) (joint_kind right.rights)) (next ∷ run.last) beside b.1
      ∙ ap (λ e. e ∷ next ∷ run.last) (same_extent place (omega arith) refl))
  merged_all (p ∷ q ∷ lefts) beside h = absurd beside

  marked : map (set_free at) run.segment.extents ≡ run.first ++ (left.lefts ++ freed_chunk ∷ (right.rights ++ next ∷ run.last))
  marked =
      let one = set_free_none words Used run.segment.base run.first from at (inr reach) run.first_stand in
      let two = set_free_none words Used from left.lefts at at (inr (omega arith)) left.lefts_stand in
      let three = set_free_none words Used (at + size) (right.rights ++ next ∷ run.last) run_end at (inl (omega (arith, long))) behind_stand in
      let here : (at == at) ≡ true = nat_same at in
      let free : set_free at chunk ≡ freed_chunk = rw here refl in
      ap (map (set_free at)) (run.extents ∙ ap (λ l. run.first ++ l) (append_assoc left.lefts (chunk ∷ (right.rights ++ next ∷ [])) run.last
      ∙ ap (λ l. left.lefts ++ chunk ∷ l) (append_assoc right.rights (next ∷ []) run.last)))
      ∙ (map-append (set_free at) run.first (left.lefts ++ chunk ∷ (right.rights ++ next ∷ run.last)) ∙ (λ i. one
      i ++ (map-append (set_free at) left.lefts (chunk ∷ (right.rights ++ next ∷ run.last)) ∙ (λ j. two j ++ (free j ∷ three j))) i))

  freed_run : (words' : ℕ → ℕ) → Tiles words' Used run.segment.base (run.first ++ (more ++ run.last)) run_end →
      in_segments (freed_in at) segments ≡ run.front ++ with_extents run.segment (run.first ++ (more ++ run.last)) ∷ run.back
  freed_run words' now =
      let split = tiles_split words' Used run.segment.base run.first (more ++ run.last) run_end now in
      let same : extent from (next.at - from) (joint_kind right.rights) ≡ joint = same_extent refl (ap (λ a. a - from) right.place) right.joint in
      ap (in_segments (freed_in at)) run.is ∙ in_one (regions heap.system) words (freed_in at) run.front run.segment run.back
      (subst (AreSegments (regions heap.system) words) run.is sound.segments) (subst AreApart run.is sound.apart)
      (λ other part beyond. ap merged (set_free_none words Used other.base other.extents (other.base + other.size) at
      (in_no_other other run.segment at (omega (arith, low, reach)) (omega (arith, high, right.reach, long)) beyond) part.extents)
      ∙ merged_same words Used other.base other.extents (other.base + other.size) part.extents)
      (ap merged marked ∙ (merged_behind run.first (left.lefts ++ freed_chunk ∷ (right.rights ++ next ∷ run.last)) (more ++ run.last)
      (merged_all left.lefts left.beside left.lefts_stand
      ∙ (ap (λ e. e ∷ next ∷ run.last) same ∙ sym (merged_same words' (last_kind Used run.first) split.middle (more ++ run.last) run_end split.second)))
      ∙ merged_same words' Used run.segment.base (run.first ++ (more ++ run.last)) run_end now))

  pub where_joint : extent_at from (run.first ++ (more ++ run.last)) ≡ Some joint
  where_joint = found_later from run.first (more ++ run.last) (none_outside words Used run.segment.base run.first from from (inr (omega arith)) run.first_stand)
      ∙ found_more from more run.last joint_here

  -- ---- a step puts the joint one in the place of the run

  module _ (system : A) (top top_size : ℕ) where
    abbrev pub after : ℕ → ℕ → Dlmalloc A
    after victim victim_size = record heap { system = system; top = top; top_size = top_size; victim = victim; victim_size = victim_size }

    -- whichever victim the heap has then
    pub record IsJoined : Type 0 where
      pub same : regions system ≡ regions heap.system
      pub step : (victim victim_size : ℕ) → IsStep regions word heap (after victim victim_size) less more
      pub now : (victim victim_size : ℕ) → (step victim victim_size).front ++ (step victim victim_size).now ∷ (step victim victim_size).back
          ≡ run.front ++ with_extents run.segment (run.first ++ (more ++ run.last)) ∷ run.back

  module _ {system : A} {top top_size : ℕ} (j : IsJoined system top top_size) where
    abbrev made : ℕ → ℕ → Dlmalloc A
    made = after system top top_size

    pub joint_there : (victim victim_size : ℕ) → extent_at from (extents_in (state_of word (made victim victim_size))) ≡ Some joint
    joint_there victim victim_size = found_new sound (j.step victim victim_size) from joint joint_here

    joined_free : (victim victim_size : ℕ) → FreeMoves (state_of word heap) (state_of word (made victim victim_size)) (from ∷ (at + size) ∷ []) (from ∷ [])
    joined_free victim victim_size = free_moves sound (j.step victim victim_size) (from ∷ (at + size) ∷ []) (from ∷ []) in_less in_more
        (λ k is. elim is [
          | inl same ↦ inl (inl same)
          | inr later ↦ elim later [ inl same ↦ inr (subst (λ a. IsThere a less) (sym same) right_there) | inr none ↦ absurd none ]
        ])
        (λ k is. elim is [ inl same ↦ inl (inl same) | inr none ↦ absurd none ])

    no_record : kind ≡ Record → ⊥
    no_record is = elim (right.joins) [ inl free ↦ (let no : Free ≡ Record = sym free ∙ is in cc) | inr top ↦ (let no : Top ≡ Record = sym top ∙ is in cc) ]

    segments_are : (victim victim_size : ℕ) → segments_of word (made victim victim_size) ≡ in_segments (freed_in at) segments
    segments_are victim victim_size =
        let is = read sound (j.step victim victim_size) ∙ j.now victim victim_size in
        is ∙ sym (freed_run (word system) (all_at (IsSegment (regions system) (word system)) run.front
        (with_extents run.segment (run.first ++ (more ++ run.last))) run.back (subst (AreSegments (regions system) (word system)) is
        (segments_now sound (j.step victim victim_size)))).extents)

    pub freed_as : {victim : ℕ} (victim_size : ℕ) → (victim_size ≢ 0 →
        extent_at victim (extents_in (state_of word (made victim victim_size))) ≡ Some (extent victim victim_size Free)) → (victim_size ≡ 0 →
        victim ≡ 0) → victim ≡ victim_in heap.victim (extents_in (state_of word (made victim victim_size))) →
        {until : ℕ} → IsJoint (state_of word (made victim victim_size)) top from (until - from) →
        IsFree regions word heap at size from until (made victim victim_size)
    freed_as {victim} victim_size named none found joint =
        let are = segments_are victim victim_size in
        let whole : victim ≡ victim_in heap.victim (extents_all (in_segments (freed_in at) segments)) =
        found ∙ ap (λ ss. victim_in heap.victim (extents_all ss)) are in
        record {
          state = λ i. record (state_of word heap) { segments = are i; victim = whole i };
          less = has_less sound (j.step victim victim_size) fewer;
          sound = stays_sound sound (j.step victim victim_size) j.same refl refl refl refl none named;
          words = keeps_words sound (j.step victim victim_size);
          records = λ one is there. found_again sound (j.step victim victim_size) one.at
              (λ found. stays {other = Record} (λ is. cc) no_record (λ is. cc) one.at one found is) there;
          free = joined_free victim victim_size;
          joined = joint;
          around = record {
            extent = extent from (to - from) kind;
            there = joint_there victim victim_size;
            place = refl;
            free = elim (right.joins) [ inl is ↦ ap is_free is | inr is ↦ ap is_free is ];
            low = reach;
            high = omega (arith, room, right.reach, long);
          };
        }

    -- the victim stays
    pub as_other : (heap.victim_size ≢ 0 → (heap.victim < from) ⊎ (to ≤ heap.victim)) → {until : ℕ} →
        IsJoint (state_of word (made heap.victim heap.victim_size)) top from (until - from) →
        IsFree regions word heap at size from until (made heap.victim heap.victim_size)
    as_other out joint = freed_as heap.victim_size named sound.no_victim (victim_same (regions system) (word system)
        (segments_of word (made heap.victim heap.victim_size)) (segments_now sound (j.step heap.victim heap.victim_size))
        (apart_now sound (j.step heap.victim heap.victim_size)) heap.victim heap.victim_size named sound.no_victim) joint
      where
        named : heap.victim_size ≢ 0 → extent_at heap.victim (extents_in (state_of word (made heap.victim heap.victim_size))) ≡ Some
            (extent heap.victim heap.victim_size Free)
        named some = found_again sound (j.step heap.victim heap.victim_size) heap.victim (λ found. sym (beyond heap.victim (out some)) ∙ found)
            (sound.victim some)

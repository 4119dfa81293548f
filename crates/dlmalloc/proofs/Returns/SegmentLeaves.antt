-- A segment after the head leaves the heap: the record before it names the next one, and the rest stays.
use Rattle.dlmalloc.proofs.Names.{◌≡◌, ◌≢◌, ℕ, ◌+◌, ◌-◌, ◌%◌, ◌^◌, ◌<◌, ◌≤◌, ◌⊎◌, inl, inr, Bool, true, false, ◌==◌, if◌then◌else◌, List, [], ◌∷◌, ◌++◌, Some, refl, sym, ◌∙◌, ap, subst, arith, append_assoc, AllByRecursion, nat_tests, flat_map-append, Grant, Event, Released, IsWordOf, without_run, Extent, Used, Free, Record, extent_at, Segment, extents_in, IsInRecord, is_unused, IsSegment, AreSegments, IsApartFrom, AreApart, record_of, AreRecords, payload_behind, state_of, IsSound, FreeMoves, IsLinked, IsChained, IsVisited, Dlmalloc, SegmentRecord}
use Rattle.dlmalloc.specs.Chained.{IsToldByLast}
use Rattle.dlmalloc.proofs.Extents.Lookup.{extent, nat_same, found_here}
use Rattle.dlmalloc.proofs.Moves.OfFreeExtents.{IsThere}
use Rattle.dlmalloc.proofs.Segments.Among.{extents_all, all_among, all_at, all_front, front_apart, back_apart, among_all}
use Rattle.dlmalloc.proofs.Segments.Exchange.{Exchange, exchanged_read, exchanged_still, exchanged_was, exchanged_free, sound_as}
use Rattle.dlmalloc.proofs.Segments.WordsKept.{KeepsIts, IsOutside, records_stay, apart_stay}
use Rattle.dlmalloc.proofs.Grants.PutBefore.{parts_around}
use Rattle.dlmalloc.proofs.Grants.SegmentBehind.{told_around}
use Rattle.dlmalloc.proofs.Words.OfRecords.{payload_whole, payload_low, payload_high, payload_word, recorded_stays}
use Rattle.dlmalloc.proofs.Returns.Unused.{two_found, unused_extents}
use Rattle.dlmalloc.proofs.Returns.Segments.{word_stays, run_stays, apart_segments, apart_keeps}
use Rattle.dlmalloc.proofs.Returns.SegmentVisited.{base_is, size_is, forgetful_none, records_behind, Around, around}

-- ---- lists without one

all_less : (Is : Segment → Type 0) (front : List Segment) (segment : Segment) (back : List Segment) →
    AllByRecursion Is (front ++ segment ∷ back) → AllByRecursion Is (front ++ back)
all_less Is [] segment back all = all.1
all_less Is (first ∷ front) segment back all = (all.0, all_less Is front segment back all.1)

apart_less : (front : List Segment) (segment : Segment) (back : List Segment) → AreApart (front ++ segment ∷ back) → AreApart (front ++ back)
apart_less [] segment back apart = apart.1
apart_less (first ∷ front) segment back apart = (all_less (IsApartFrom first) front segment back apart.0, apart_less front segment back apart.1)

-- ---- the records before it

behind_stays : (regions : List Grant) (old new : ℕ → ℕ) (payload : ℕ) (front rest : List Segment) → AreSegments regions old front →
    AllByRecursion (KeepsIts old new) front → AreRecords old payload (front ++ rest) → payload_behind old payload front ≡ payload_behind new payload front
behind_stays regions old new payload [] rest parts keeps h = refl
behind_stays regions old new payload (segment ∷ front) rest parts keeps h =
    behind_stays regions old new (old (payload + 16)) front rest parts.1 keeps.1 h.5
    ∙ ap (λ p. payload_behind new p front) (sym (keeps.0 (payload + 16) (omega (arith, payload_low parts.0 payload h.0 h.4))
    (omega (arith, payload_high parts.0 payload h.0 h.4)) (omega (arith, payload_whole parts.0 payload h.0 h.4))))

module _ {A : Type 0} {regions : A → List Grant} {word : A → ℕ → ℕ} {heap : Dlmalloc A}
    (sound : IsSound regions word heap) {before : ℕ} {told : SegmentRecord} (c : IsChained word heap before told) where
  abbrev words : ℕ → ℕ
  words = word heap.system

  abbrev granted : List Grant
  granted = regions heap.system

  abbrev it : Around sound c
  it = around sound c

  -- the record before it, if there is one
  module _ (l : IsToldByLast words heap.next before c.payload c.front) where
    split_is : c.front ++ c.segment ∷ c.back ≡ l.first ++ l.last ∷ (c.segment ∷ c.back)
    split_is = ap (λ front. front ++ c.segment ∷ c.back) l.is ∙ append_assoc l.first (l.last ∷ []) (c.segment ∷ c.back)

    joined_is : c.front ++ c.back ≡ l.first ++ l.last ∷ c.back
    joined_is = ap (λ front. front ++ c.back) l.is ∙ append_assoc l.first (l.last ∷ []) c.back

    split_parts : AreSegments granted words (c.head ∷ (l.first ++ l.last ∷ (c.segment ∷ c.back)))
    split_parts = subst (λ segments. AreSegments granted words (c.head ∷ segments)) split_is it.parts

    split_apart : AreApart (c.head ∷ (l.first ++ l.last ∷ (c.segment ∷ c.back)))
    split_apart = subst (λ segments. AreApart (c.head ∷ segments)) split_is it.apart

    split_told : AreRecords words heap.next (l.first ++ l.last ∷ (c.segment ∷ c.back))
    split_told = subst (AreRecords words heap.next) split_is it.heap_told.5

    last_told : AreRecords words before (l.last ∷ (c.segment ∷ c.back))
    last_told = subst (λ p. AreRecords words p (l.last ∷ (c.segment ∷ c.back))) (sym l.reached)
        (records_behind words heap.next l.first (l.last ∷ (c.segment ∷ c.back)) split_told)

    last_part : IsSegment granted words l.last
    last_part = all_at (IsSegment granted words) (c.head ∷ l.first) l.last (c.segment ∷ c.back) split_parts

    last_behind : AllByRecursion (λ other. IsApartFrom other l.last) (c.segment ∷ c.back)
    last_behind = back_apart (c.head ∷ l.first) l.last (c.segment ∷ c.back) split_apart

    last_front : AllByRecursion (λ other. IsApartFrom other l.last) (c.head ∷ l.first)
    last_front = front_apart (c.head ∷ l.first) l.last (c.segment ∷ c.back) split_apart

    low_is : l.last.base + 16 ≤ before
    low_is = payload_low last_part before last_told.0 last_told.4

    high_is : before + 64 ≤ l.last.base + l.last.size
    high_is = payload_high last_part before last_told.0 last_told.4

    -- a byte of the record's segment is none of the one that leaves
    beside_gone : (k : ℕ) → l.last.base ≤ k → k < l.last.base + l.last.size → IsOutside c.segment k
    beside_gone k low high = elim (last_behind.0) [ inl first ↦ inr (omega arith) | inr second ↦ inl (omega arith) ]

    link_word : IsWordOf granted (before + 16)
    link_word = payload_word last_part before last_told.0 last_told.4 (before + 16) (omega arith) (omega arith)
        (omega (arith, payload_whole last_part before last_told.0 last_told.4))

    link_in : IsInRecord (state_of word heap) (before + 16)
    link_in = record {
      extent = record_of (before - 16) (l.last.base + l.last.size);
      there = among_all granted words sound.segments sound.apart (c.head ∷ l.first) l.last (c.segment ∷ c.back)
          (c.is ∙ ap (λ segments. c.head ∷ segments) split_is) (before - 16) last_told.4;
      is = refl;
      low = omega (arith, low_is);
      high = omega (arith, low_is, high_is);
    }

  -- what telling the next one wants
  pub link_small : before + 32 < 2 ^ 64
  link_small = go c.linked
    where
      go : IsLinked words heap.next before c.payload c.front → before + 32 < 2 ^ 64
      go (inl h) = omega arith
      go (inr l) = omega (arith, high_is l, (last_part l).high)

  pub link_granted : {rest : List Grant} → rest ≡ without_run told.base (told.base + told.size) granted → before ≢ 0 → IsWordOf rest (before + 16)
  link_granted {rest} gone more = go c.linked
    where
      gone_is : rest ≡ without_run c.segment.base (c.segment.base + c.segment.size) granted
      gone_is = gone ∙ (λ i. without_run (base_is sound c i) (base_is sound c i + size_is sound c i) granted)

      go : IsLinked words heap.next before c.payload c.front → IsWordOf rest (before + 16)
      go (inl h) = absurd (more h.1)
      go (inr l) = subst (λ rs. IsWordOf rs (before + 16)) (sym gone_is)
          (word_stays c.segment it.part.run it.sized (link_word l) (beside_gone l (before + 16) (omega (arith, low_is l)) (omega (arith, high_is l))))

  module _ (system : A) (told_gone : regions system ≡ without_run told.base (told.base + told.size) granted)
      (kept : (k : ℕ) → IsWordOf (regions system) k → (before ≢ 0 → k ≢ before + 16) → word system k ≡ words k)
      (here : before ≢ 0 → word system (before + 16) ≡ told.next) where
    gone : regions system ≡ without_run c.segment.base (c.segment.base + c.segment.size) granted
    gone = told_gone ∙ (λ i. without_run (base_is sound c i) (base_is sound c i + size_is sound c i) granted)

    -- if the next record is named by the head's field
    abbrev next : ℕ
    next = if before == 0 then told.next else heap.next

    kept_outside : (k : ℕ) → IsWordOf granted k → IsOutside c.segment k → (before ≢ 0 → k ≢ before + 16) → word system k ≡ words k
    kept_outside k inside out other = kept k (subst (λ rs. IsWordOf rs k) (sym gone) (word_stays c.segment it.part.run it.sized inside out)) other

    -- what is left of the segments and of the chain
    record IsRest : Type 0 where
      pub segments : AreSegments (regions system) (word system) (c.head ∷ (c.front ++ c.back))
      pub records : AreRecords (word system) next (c.front ++ c.back)
      pub behind : AreRecords (word system) told.next c.back
      pub linked : IsLinked (word system) next before told.next c.front

    at_head : (c.front ≡ []) × (before ≡ 0) × (c.payload ≡ heap.next) → IsRest
    at_head h = record {
      segments = subst (λ front. AreSegments (regions system) (word system) (c.head ∷ (front ++ c.back))) (sym h.0)
          (subst (λ rs. AreSegments rs (word system) (c.head ∷ c.back)) (sym gone) (apart_segments c.segment it.part.run it.sized words (word system)
          (c.head ∷ c.back) (it.front_parts.0, it.back_parts) (it.front_beside.0, it.back_beside) keeps));
      records = subst (λ front. AreRecords (word system) next (front ++ c.back)) (sym h.0)
          (subst (λ p. AreRecords (word system) p c.back) (sym next_now) behind);
      behind = behind;
      linked = inl (h.0, h.1, sym next_now);
    }
      where
        next_now : next ≡ told.next
        next_now = ap (λ b. if b == 0 then told.next else heap.next) h.1

        keeps : AllByRecursion (KeepsIts words (word system)) (c.head ∷ c.back)
        keeps = apart_keeps c.segment it.part.run it.sized words (word system) (λ k inside. kept k (subst (λ rs. IsWordOf rs k) (sym gone) inside)
            (λ more. absurd (more h.1))) (c.head ∷ c.back) (it.front_parts.0, it.back_parts) (it.front_beside.0, it.back_beside)

        behind : AreRecords (word system) told.next c.back
        behind = records_stay granted words (word system) c.back it.back_parts keeps.1 told.next it.back_told

    behind_last : IsToldByLast words heap.next before c.payload c.front → IsRest
    behind_last l = record {
      segments = subst (λ segments. AreSegments (regions system) (word system) (c.head ∷ segments)) (sym (joined_is l))
          (subst (λ rs. AreSegments rs (word system) (c.head ∷ (l.first ++ l.last ∷ c.back))) (sym gone) (parts_around (c.head ∷ l.first) c.back
          (apart_segments c.segment it.part.run it.sized words (word system) (c.head ∷ l.first) first_parts first_beside first_keeps) last_now
          (apart_segments c.segment it.part.run it.sized words (word system) c.back it.back_parts it.back_beside back_keeps)));
      records = subst (λ segments. AreRecords (word system) next segments) (sym (joined_is l))
          (subst (λ p. AreRecords (word system) p (l.first ++ l.last ∷ c.back)) (sym next_now)
          (told_around granted words (word system) (l.last ∷ (c.segment ∷ c.back)) (l.last ∷ c.back) l.first heap.next
          l.reached first_parts.1 first_keeps.1 (split_told l) (
            (last_told l).0,
            stored before (omega arith) (omega arith) (omega (arith, whole)) (λ is. omega arith) ∙ (last_told l).1,
            stored (before + 8) (omega arith) (omega arith) (omega (arith, whole)) (λ is. omega arith) ∙ (last_told l).2,
            stored (before + 24) (omega arith) (omega arith) (omega (arith, whole)) (λ is. omega arith) ∙ (last_told l).3,
            (last_told l).4,
            subst (λ p. AreRecords (word system) p c.back) (sym (here l.some)) behind,
          )));
      behind = behind;
      linked = inr (record {
        first = l.first;
        last = l.last;
        is = l.is;
        reached = l.reached ∙ (behind_stays granted words (word system) heap.next l.first (l.last ∷ (c.segment ∷ c.back)) first_parts.1 first_keeps.1
            (split_told l) ∙ ap (λ p. payload_behind (word system) p l.first) (sym next_now));
        some = l.some;
        tells = sym (here l.some);
      });
    }
      where
        next_now : next ≡ heap.next
        next_now = (let s = l.some in let other : (before == 0) ≡ false = grind (arith, nat_tests) in ap (λ b. if b then told.next else heap.next) other)

        whole : before % 16 ≡ 0
        whole = payload_whole (last_part l) before (last_told l).0 (last_told l).4

        first_parts : AreSegments granted words (c.head ∷ l.first)
        first_parts = all_front (IsSegment granted words) (c.head ∷ l.first) (l.last ∷ (c.segment ∷ c.back)) (split_parts l)

        first_beside : AllByRecursion (IsApartFrom c.segment) (c.head ∷ l.first)
        first_beside = (
          it.front_beside.0,
          all_front (IsApartFrom c.segment) l.first (l.last ∷ [])
              (subst (AllByRecursion (IsApartFrom c.segment)) l.is it.front_beside.1),
        )

        -- a word outside the last of those segments stays
        kept_beside : (k : ℕ) → IsWordOf granted k → IsOutside c.segment k → IsOutside l.last k → word system k ≡ words k
        kept_beside k inside out beside = kept_outside k inside out
            (λ more is. elim beside [ inl below ↦ omega (arith, low_is l) | inr above ↦ omega (arith, high_is l) ])

        first_keeps : AllByRecursion (KeepsIts words (word system)) (c.head ∷ l.first)
        first_keeps = apart_stay granted words (word system) c.segment l.last (c.head ∷ l.first) first_parts first_beside (last_front l) kept_beside

        back_keeps : AllByRecursion (KeepsIts words (word system)) c.back
        back_keeps = apart_stay granted words (word system) c.segment l.last c.back it.back_parts it.back_beside (last_behind l).1 kept_beside

        stored : (k : ℕ) → before ≤ k → k < before + 32 → k % 8 ≡ 0 → (k ≡ before + 16 → ⊥) → word system k ≡ words k
        stored k low high m other = kept_outside k (payload_word (last_part l) before (last_told l).0 (last_told l).4 k low high m)
            (beside_gone l k (omega (arith, low_is l)) (omega (arith, high_is l))) (λ more. other)

        last_now : IsSegment (without_run c.segment.base (c.segment.base + c.segment.size) granted) (word system) l.last
        last_now =
            let is = recorded_stays (last_part l) before (last_told l).0 (last_told l).4 (word system)
            (λ k low high m out. kept_outside k (record { granted = (last_part l).run.covered k (omega arith) high; aligned = m })
            (beside_gone l k (omega arith) high) (λ more same. elim out [ inl below ↦ omega arith | inr above ↦ omega arith ])) in
            record {
              run = run_stays c.segment it.part.run it.sized l.last (last_behind l).0 is.run;
              low = is.low;
              high =
                  is.high;
              long = is.long;
              extents = is.extents;
              tail = is.tail;
            }

        behind : AreRecords (word system) told.next c.back
        behind = records_stay granted words (word system) c.back it.back_parts back_keeps told.next it.back_told

    rest : IsRest
    rest = elim (c.linked) [ inl h ↦ at_head h | inr l ↦ behind_last l ]

    -- of the words that are granted still those of records alone change
    pub left_words : (k : ℕ) → IsWordOf (regions system) k → (IsInRecord (state_of word heap) k → ⊥) → word system k ≡ words k
    left_words k inside out = kept k inside (λ more is. absurd (elim (c.linked) [
      | inl h ↦ more h.1
      | inr l ↦ out (subst (IsInRecord (state_of word heap)) (sym is) (link_in l))
    ]))

    -- ---- the heap without it

    module _ (unused : is_unused c.segment ≡ true) where
      abbrev pub left_heap : Dlmalloc A
      left_heap = record heap {
        system = system;
        next = if before == 0 then told.next else heap.next;
        victim =
            if told.base == heap.victim then 0 else heap.victim;
        victim_size =
            if told.base == heap.victim then 0 else heap.victim_size;
      }

      abbrev now : List Segment
      now = c.head ∷ (c.front ++ c.back)

      abbrev exchange : Exchange regions word heap left_heap
      exchange = record {
        now = now;
        parts = rest.segments;
        apart = apart_less (c.head ∷ c.front) c.segment c.back it.apart;
        told = (it.heap_told.0, it.heap_told.1, it.heap_told.2, it.heap_told.3, it.heap_told.4, rest.records);
        some = it.heap_told.0;
        granularity = refl;
        ahead = [];
        first = extents_all (c.head ∷ c.front);
        less = c.segment.extents;
        more = [];
        last = extents_all c.back;
        were = ap extents_all c.is ∙ all_among (c.head ∷ c.front) c.segment c.back;
        are = flat_map-append (λ segment. segment.extents) (c.head ∷ c.front) c.back;
      }

      found_before : (k : ℕ) {one : Extent} → extent_at k (extents_in (state_of word left_heap)) ≡ Some one →
          extent_at k (extents_in (state_of word heap)) ≡ Some one
      found_before k there = exchanged_was sound exchange k (λ found. cc) (λ found. cc) there

      -- in the segment a free extent and the record are found
      in_gone : (k : ℕ) {one : Extent} → extent_at k c.segment.extents ≡ Some one → ((one.kind ≡ Free) × (c.segment.base ≡ k)) ⊎ (one.kind ≡ Record)
      in_gone k found = two_found c.segment.base (c.segment.size - 80) (c.payload - 16) (c.segment.base + c.segment.size) k
          (ap (extent_at k) (sym (unused_extents it.part (c.payload - 16) c.records.4 unused)) ∙ found)

      -- its free extent is where it begins
      first_free : IsThere told.base c.segment.extents
      first_free = (
        extent c.segment.base (c.segment.size - 80) Free,
        ap (λ k. extent_at k c.segment.extents) (base_is sound c) ∙ (
            ap (extent_at c.segment.base) (unused_extents it.part (c.payload - 16) c.records.4 unused)
            ∙ found_here (extent c.segment.base (c.segment.size - 80) Free) (record_of (c.payload - 16) (c.segment.base + c.segment.size) ∷ [])
            ),
      )

      -- that alone is no free extent any more
      pub left_free : FreeMoves (state_of word heap) (state_of word left_heap) (told.base ∷ []) []
      left_free = exchanged_free sound exchange tt (told.base ∷ []) [] (λ k size found. elim (in_gone k found) [
        | inl free ↦ inl (sym ((base_is sound c) ∙ free.1))
        | inr tail ↦ absurd (let no : Free ≡ Record = tail in cc)
      ]) (λ k size found. absurd (cc)) (λ k is. elim is
          [ inl same ↦ inr (subst (λ a. IsThere a c.segment.extents) (sym same) first_free) | inr none ↦ absurd none ]) (λ k none. absurd none)

      none_used : (k : ℕ) (one : Extent) → one.kind ≡ Used → extent_at k c.segment.extents ≡ Some one → ⊥
      none_used k one used found = elim (in_gone k found) [
        | inl free ↦ (let no : Used ≡ Free = sym used ∙ free.0 in cc)
        | inr tail ↦ (let no : Used ≡ Record = sym used ∙ tail in cc)
      ]

      victim_there : (b : Bool) → (told.base == heap.victim) ≡ b → (if b then 0 else heap.victim_size) ≢ 0 → extent_at (if b then 0 else heap.victim)
          (extents_in (state_of word left_heap)) ≡ Some (extent (if b then 0 else heap.victim) (if b then 0 else heap.victim_size) Free)
      victim_there true test more = absurd (more refl)
      victim_there false test more = exchanged_still sound exchange heap.victim (λ found. elim (in_gone heap.victim found) [
        | inl free ↦ (let yes : (told.base == heap.victim) ≡ true = ap (λ b. b == heap.victim) ((base_is sound c) ∙ free.1)
            ∙ nat_same heap.victim in let no = sym test ∙ yes in cc)
        | inr tail ↦ (let no : Free ≡ Record = tail in cc)
      ]) (sound.victim more)

      pub leaves : (follows : A → List Event → A → Type 0) → follows heap.system (Released told.base told.size 0 ∷ []) system →
          IsVisited regions word follows true true heap before told c left_heap
      leaves follows followed = record {
        segments = exchanged_read sound exchange;
        records = rest.behind;
        linked = rest.linked;
        victim = λ i. if base_is sound c i == heap.victim then 0 else heap.victim;
        left = record {
          sound = sound_as sound exchange (forgetful_none sound c (told.base == heap.victim)) (victim_there (told.base == heap.victim) refl);
          used = record {
            still = λ used is there. exchanged_still sound exchange used.at (none_used used.at used is) there;
            before = λ used is there. found_before used.at there;
          };
          before = λ one there. found_before one.at there;
          words = λ k inside was out. left_words k inside out;
          regions_are = gone;
          followed = subst (λ events. follows heap.system events system) (λ i. Released (base_is sound c i) (size_is sound c i) 0 ∷ []) followed;
        };
        granularity_same = refl;
        rate_same = refl;
        trim_check_same = refl;
        size_same = refl;
      }

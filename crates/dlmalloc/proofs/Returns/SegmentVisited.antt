-- A segment after the head is visited: what a look at it wants, and that it may stay.
use Rattle.dlmalloc.proofs.Names.{◌≡◌, ◌≢◌, ℕ, ◌+◌, ◌-◌, ◌%◌, ◌<◌, inl, inr, Bool, true, false, ◌&&◌, ◌==◌, if◌then◌else◌, List, [], ◌∷◌, ◌++◌, Some, refl, sym, ◌∙◌, ap, subst, arith, AllByRecursion, Grant, Event, IsRun, Free, HasHead, size_of, free_of, extent_at, Segment, is_own, is_unused, may_leave, IsSegment, AreSegments, IsApartFrom, AreApart, record_of, AreRecords, payload_behind, segments_of, state_of, AreTold, IsSound, IsFreeAt, FreeMoves, IsLinked, IsChained, IsVisited, Dlmalloc, SegmentRecord}
use Rattle.dlmalloc.proofs.Extents.Lookup.{extent, found_here}
use Rattle.dlmalloc.proofs.Segments.Among.{extents_all, all_at, all_front, all_back, front_apart, back_apart, among_all}
use Rattle.dlmalloc.proofs.Grants.PutBefore.{flip}
use Rattle.dlmalloc.proofs.Grants.SegmentBehind.{behind_more}
use Rattle.dlmalloc.proofs.Returns.Unused.{both, first_head, unused_told, unused_extents}
use Rattle.dlmalloc.proofs.Returns.Segments.{whole_run}
use Rattle.dlmalloc.proofs.Returns.Everything.{parity}

-- ---- tests

pub never : (b : Bool) → false ≡ (b && false)
never true = refl
never false = refl

pub last_test : (a b c : Bool) → true ≡ (a && (b && c)) → c ≡ true
last_test a b c is = (both b c (both a (b && c) (sym is)).1).1

-- ---- records

pub records_behind : (words : ℕ → ℕ) (payload : ℕ) (front rest : List Segment) → AreRecords words payload (front ++ rest) →
    AreRecords words (payload_behind words payload front) rest
records_behind words payload [] rest h = h
records_behind words payload (segment ∷ front) rest h = records_behind words (words (payload + 16)) front rest h.5

module _ {A : Type 0} {regions : A → List Grant} {word : A → ℕ → ℕ} {heap : Dlmalloc A}
    (sound : IsSound regions word heap) {before : ℕ} {told : SegmentRecord} (c : IsChained word heap before told) where
  abbrev words : ℕ → ℕ
  words = word heap.system

  abbrev granted : List Grant
  granted = regions heap.system

  pub base_is : told.base ≡ c.segment.base
  base_is = ap (λ t. t.base) c.read ∙ c.records.1

  pub size_is : told.size ≡ c.segment.size
  size_is = ap (λ t. t.size) c.read ∙ c.records.2

  next_is : told.next ≡ words (c.payload + 16)
  next_is = ap (λ t. t.next) c.read

  own_is : (told.flags % 2 == 0) ≡ is_own c.segment
  own_is = ap (λ t. t.flags % 2 == 0) c.read ∙ parity c.records.3

  -- the segment, and those around it
  pub record Around : Type 0 where
    pub parts : AreSegments granted words (c.head ∷ (c.front ++ c.segment ∷ c.back))
    pub apart : AreApart (c.head ∷ (c.front ++ c.segment ∷ c.back))
    pub heap_told : AreTold words heap (c.head ∷ (c.front ++ c.segment ∷ c.back))
    pub part : IsSegment granted words c.segment
    pub sized : 0 < c.segment.size
    pub front_parts : AreSegments granted words (c.head ∷ c.front)
    pub front_beside : AllByRecursion (IsApartFrom c.segment) (c.head ∷ c.front)
    pub back_parts : AreSegments granted words c.back
    pub back_beside : AllByRecursion (IsApartFrom c.segment) c.back
    pub back_told : AreRecords words told.next c.back

  pub around : Around
  around =
      let parts = subst (AreSegments granted words) c.is sound.segments in
      let apart = subst AreApart c.is sound.apart in
      let part = all_at (IsSegment granted words) (c.head ∷ c.front) c.segment c.back parts in
      record {
        parts = parts;
        apart = apart;
        heap_told = subst (AreTold words heap) c.is sound.told;
        part = part;
        sized = omega (arith, part.long);
        front_parts = all_front (IsSegment granted words) (c.head ∷ c.front) (c.segment ∷ c.back) parts;
        front_beside = flip c.segment (c.head ∷ c.front) (front_apart (c.head ∷ c.front) c.segment c.back apart);
        back_parts = (all_back (IsSegment granted words) (c.head ∷ c.front) (c.segment ∷ c.back) parts).1;
        back_beside = flip c.segment c.back (back_apart (c.head ∷ c.front) c.segment c.back apart);
        back_told = subst (λ p. AreRecords words p c.back) (sym next_is) c.records.5;
      }

  -- ---- what a look at it wants

  pub first_there : HasHead granted told.base
  first_there = subst (HasHead granted) (sym base_is) (first_head around.part (c.payload - 16) c.records.4)

  pub long_told : 96 < told.size
  long_told = omega (arith, size_is, around.part.long)

  pub run_told : IsRun granted told.base (told.base + told.size)
  run_told = subst (λ base. IsRun granted base (base + told.size)) (sym base_is)
      (subst (λ size. IsRun granted c.segment.base (c.segment.base + size)) (sym size_is) (whole_run around.sized around.part.run))

  pub test_is : (takes : Bool) → (told.flags % 2 == 0 && (takes && (free_of (words (told.base + 8)) && size_of
      (words (told.base + 8)) == told.size - 80))) ≡ may_leave takes c.segment
  test_is takes = λ i. own_is i && (takes && unused i)
    where
      unused : (free_of (words (told.base + 8)) && size_of (words (told.base + 8)) == told.size - 80) ≡ is_unused c.segment
      unused = (λ i. free_of (words (base_is i + 8)) && size_of (words (base_is i + 8)) == size_is i - 80)
          ∙ unused_told around.part (c.payload - 16) c.records.4

  -- if it is unused, its first chunk is free
  pub first_is_free : is_unused c.segment ≡ true → IsFreeAt (state_of word heap) told.base (told.size - 80)
  first_is_free unused = subst (λ base. IsFreeAt (state_of word heap) base (told.size - 80)) (sym base_is) (subst (λ size. IsFreeAt (state_of word heap)
      c.segment.base (size - 80)) (sym size_is) (among_all granted words sound.segments sound.apart (c.head ∷ c.front) c.segment c.back c.is c.segment.base (
      ap (extent_at c.segment.base) (unused_extents around.part (c.payload - 16) c.records.4 unused)
      ∙ found_here (extent c.segment.base (c.segment.size - 80) Free) (record_of (c.payload - 16) (c.segment.base + c.segment.size) ∷ [])
      )))

  -- ---- it stays

  reached : c.payload ≡ payload_behind words heap.next c.front
  reached = go c.linked
    where
      go : IsLinked words heap.next before c.payload c.front → c.payload ≡ payload_behind words heap.next c.front
      go (inl h) = h.2 ∙ sym (ap (payload_behind words heap.next) h.0)
      go (inr l) = l.tells ∙ (ap (λ b. words (b + 16)) l.reached ∙ (sym (behind_more words heap.next l.first l.last)
          ∙ ap (payload_behind words heap.next) (sym l.is)))

  -- the heap, whose victim is forgotten, or is not
  abbrev pub forgetful : Bool → Dlmalloc A
  forgetful b = record heap { victim = if b then 0 else heap.victim; victim_size = if b then 0 else heap.victim_size }

  pub forgetful_none : (b : Bool) → (if b then 0 else heap.victim_size) ≡ 0 → (if b then 0 else heap.victim) ≡ 0
  forgetful_none true is = refl
  forgetful_none false is = sound.no_victim is

  pub forgetful_sound : (b : Bool) → IsSound regions word (forgetful b)
  forgetful_sound b = record {
    granularity = sound.granularity;
    segments = sound.segments;
    apart = sound.apart;
    told = sound.told;
    none = sound.none;
    no_victim = forgetful_none b;
    victim = victim b;
  }
    where
      victim : (b : Bool) → (if b then 0 else heap.victim_size) ≢ 0 → extent_at (if b then 0 else heap.victim)
          (extents_all (segments_of word heap)) ≡ Some (extent (if b then 0 else heap.victim) (if b then 0 else heap.victim_size) Free)
      victim true more = absurd (more refl)
      victim false more = sound.victim more

  pub stays : (follows : A → List Event → A → Type 0) → ((x : A) → follows x [] x) →
      (handed : Bool) → IsVisited regions word follows handed false heap before told c (forgetful (handed && c.segment.base == heap.victim))
  stays follows follows_none handed = record {
    segments = c.is;
    records = around.back_told;
    linked = inr (record { first = c.front; last = c.segment; is = refl; reached = reached; some = (λ none. omega arith); tells = next_is });
    victim = refl;
    left = record {
      sound = forgetful_sound (handed && c.segment.base == heap.victim);
      used = record { still = λ used is there. there; before = λ used is there. there };
      before = λ one there. there;
      words = λ k inside was out. refl;
      regions_are = refl;
      followed = follows_none heap.system;
    };
    granularity_same = refl;
    rate_same = refl;
    trim_check_same = refl;
    size_same = refl;
  }

  -- so it does if the victim was forgotten that began with it
  pub stays_handed : (follows : A → List Event → A → Type 0) → ((x : A) → follows x [] x) → IsVisited regions word follows true false heap before told c
      (record heap { victim = if told.base == heap.victim then 0 else heap.victim; victim_size = if told.base == heap.victim then 0 else heap.victim_size })
  stays_handed follows follows_none = subst (λ base. IsVisited regions word follows true false heap before told c (forgetful (base == heap.victim)))
      (sym base_is) (stays follows follows_none true)

  -- and its free extents stay
  pub free_kept : FreeMoves (state_of word heap) (state_of word (record heap
      { victim = if told.base == heap.victim then 0 else heap.victim; victim_size = if told.base == heap.victim then 0 else heap.victim_size })) [] []
  free_kept = record { stays = λ at size free out. (free, λ came. came); was = λ at size free out. (free, λ came. came) }

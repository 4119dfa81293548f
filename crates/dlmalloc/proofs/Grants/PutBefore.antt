-- A grant is put before a segment, in two parts that are in use.
use Rattle.dlmalloc.proofs.Names.{◌≡◌, ◌≢◌, ℕ, ◌+◌, ◌-◌, ◌%◌, ◌<◌, ◌≤◌, inl, inr, true, false, ◌==◌, List, [], ◌∷◌, ◌++◌, map, Some, refl, sym, ◌∙◌, ap, subst, arith, AllByRecursion, nat_tests, map-append, Grant, IsWordOf, IsWhole, Event, Extent, Used, head_of, extent_at, Tiles, Segment, extents_in, opened, is_before, put_before, IsFreshGrant, IsPrepended, IsInRecord, IsFlaggedRun, IsSegment, AreSegments, IsApartFrom, AreApart, segments_of, state_of, AreTold, IsSound, Dlmalloc}
use Rattle.dlmalloc.proofs.Extents.Tiling.{plain_chunk}
use Rattle.dlmalloc.specs.Granted.{joined}
use Rattle.dlmalloc.proofs.Extents.Lookup.{extent, nat_same, nat_isnt, found_here, of_two}
use Rattle.dlmalloc.proofs.Segments.Among.{extents_all, all_among, all_at, all_front, all_back, all_with, front_apart, back_apart, apart_back, none_there, among_all}
pub use Rattle.dlmalloc.proofs.Segments.Among.{flip}
use Rattle.dlmalloc.proofs.Segments.RegionsMore.{runs_joined}
use Rattle.dlmalloc.proofs.Segments.WordsKept.{KeepsIts, IsOutside, parts_stay, apart_stay}
use Rattle.dlmalloc.proofs.Segments.Exchange.{Exchange, exchanged_read, exchanged_new, exchanged_still, exchanged_was, exchanged_sound}

-- what the test says of a grant before a segment
pub before_means : (grant : Grant) (segment : Segment) → is_before grant segment ≡ true →
    (segment.base ≡ grant.base + grant.size) × (grant.flags ≡ segment.flags)
before_means grant segment test = (grind (arith, nat_tests), grind (arith, nat_tests))

pub parts_around : {regions : List Grant} {words : ℕ → ℕ} {now : Segment} (front back : List Segment) → AreSegments regions words front →
    IsSegment regions words now → AreSegments regions words back → AreSegments regions words (front ++ now ∷ back)
parts_around [] back first one last = (one, last)
parts_around (other ∷ front) back first one last = (first.0, parts_around front back first.1 one last)

-- A grant stands as two chunks in use, of which the first has n bytes.
pub record IsInTwo {A : Type 0} (regions : A → List Grant) (word : A → ℕ → ℕ) (follows : A → List Event → A → Type 0) (heap : Dlmalloc A) (grant : Grant)
    (n : ℕ) (system : A) : Type 0 where
  pub fresh : IsFreshGrant (regions heap.system) (segments_of word heap) grant
  pub multiple : n % 16 ≡ 0
  pub least : 32 ≤ n
  pub room : n + 96 ≤ grant.size
  pub whole : AllByRecursion IsWhole (regions heap.system)
  pub same : regions system ≡ regions heap.system
  pub first : word system (grant.base + 8) ≡ head_of n true true
  pub second : word system (grant.base + n + 8) ≡ head_of (grant.size - n) true true
  pub followed : follows heap.system [] system

-- It joins the segment after it: of the words, those of its two heads change, and those that describe the segment.
pub record IsJoining {A : Type 0} (regions : A → List Grant) (word : A → ℕ → ℕ) (heap : Dlmalloc A) (grant : Grant) (n : ℕ) (system : A)
    (IsUntold : ℕ → Type 0) : Type 0 where
  pub front : List Segment
  pub segment : Segment
  pub back : List Segment
  pub is : segments_of word heap ≡ front ++ segment ∷ back
  pub joins : is_before grant segment ≡ true
  pub untold : (k : ℕ) → IsOutside segment k → IsUntold k
  pub kept : (k : ℕ) → IsWordOf (regions heap.system) k → k ≢ grant.base + 8 → k ≢ grant.base + n + 8 → IsUntold k → word system k ≡ word heap.system k
  pub tiles : Tiles (word system) Used segment.base segment.extents (segment.base + segment.size)

module _ {A : Type 0} {regions : A → List Grant} {word : A → ℕ → ℕ} {follows : A → List Event → A → Type 0} {heap : Dlmalloc A}
    (sound : IsSound regions word heap) {grant : Grant} {n : ℕ} {system : A} {IsUntold : ℕ → Type 0}
    (halves : IsInTwo regions word follows heap grant n system) (joint : IsJoining regions word heap grant n system IsUntold) where
  open halves use {fresh, multiple, least, room, whole, same, first, second, followed}
  open joint use {front, segment, back, is, joins, untold, kept, tiles}

  place : segment.base ≡ grant.base + grant.size
  place = (before_means grant segment joins).0

  parts : AreSegments (regions heap.system) (word heap.system) (front ++ segment ∷ back)
  parts = subst (AreSegments (regions heap.system) (word heap.system)) is sound.segments

  apart : AreApart (front ++ segment ∷ back)
  apart = subst AreApart is sound.apart

  beside : AllByRecursion (λ other. IsApartFrom other (opened grant)) (front ++ segment ∷ back)
  beside = subst (AllByRecursion (λ other. IsApartFrom other (opened grant))) is fresh.apart

  pub the_part : IsSegment (regions heap.system) (word heap.system) segment
  the_part = all_at (IsSegment (regions heap.system) (word heap.system)) front segment back parts

  pub front_parts : AreSegments (regions heap.system) (word heap.system) front
  front_parts = all_front (IsSegment (regions heap.system) (word heap.system)) front (segment ∷ back) parts

  pub back_parts : AreSegments (regions heap.system) (word heap.system) back
  back_parts = (all_back (IsSegment (regions heap.system) (word heap.system)) front (segment ∷ back) parts).1

  front_beside : AllByRecursion (λ other. IsApartFrom other (opened grant)) front
  front_beside = all_front (λ other. IsApartFrom other (opened grant)) front (segment ∷ back) beside

  back_beside : AllByRecursion (λ other. IsApartFrom other (opened grant)) back
  back_beside = (all_back (λ other. IsApartFrom other (opened grant)) front (segment ∷ back) beside).1

  abbrev pub now : Segment
  now = put_before grant n segment

  abbrev two_chunks : List Extent
  two_chunks = extent grant.base n Used ∷ extent (grant.base + n) (grant.size - n) Used ∷ []

  outside_kept : (k : ℕ) → IsWordOf (regions heap.system) k → IsOutside segment k → IsOutside (opened grant) k → word system k ≡ word heap.system k
  outside_kept k inside first second = kept k inside (λ at. elim second [ inl below ↦ omega arith | inr above ↦ omega arith ])
      (λ at. elim second [ inl below ↦ omega arith | inr above ↦ omega arith ]) (untold k first)

  pub front_keeps : AllByRecursion (KeepsIts (word heap.system) (word system)) front
  front_keeps = apart_stay (regions heap.system) (word heap.system) (word system) segment (opened grant) front front_parts
      (flip segment front (front_apart front segment back apart)) front_beside outside_kept

  pub back_keeps : AllByRecursion (KeepsIts (word heap.system) (word system)) back
  back_keeps = apart_stay (regions heap.system) (word heap.system) (word system) segment (opened grant) back back_parts
      (flip segment back (back_apart front segment back apart)) back_beside outside_kept

  two_stand : Tiles (word system) Used grant.base now.extents (grant.base + (grant.size + segment.size))
  two_stand = (
    refl,
    plain_chunk fresh.base_aligned (multiple, least) (inl refl) first (λ free. cc) (λ is. cc),
    (
      refl,
      plain_chunk (omega arith) (omega arith, omega arith) (inl refl) second (λ free. cc) (λ is. cc),
      subst (λ end. Tiles (word system) Used (grant.base + n + (grant.size - n)) segment.extents end) same_end
          (subst (λ at. Tiles (word system) Used at segment.extents (segment.base + segment.size)) same_begin tiles),
    ),
  )
    where
      same_end : segment.base + segment.size ≡ grant.base + (grant.size + segment.size)
      same_end = omega (arith, place)

      same_begin : segment.base ≡ grant.base + n + (grant.size - n)
      same_begin = omega (arith, place)

  is_now : IsSegment (regions system) (word system) now
  is_now = record {
    run = subst (λ rs. IsFlaggedRun rs grant.base (grant.size + segment.size) segment.flags) (sym same) (runs_joined place
        (subst (λ f. IsFlaggedRun (regions heap.system) grant.base grant.size f) (before_means grant segment joins).1 fresh.run) the_part.run whole);
    low = fresh.low;
    high = omega (arith, the_part.high, place);
    long = omega (arith, the_part.long);
    extents = two_stand;
    tail = the_part.tail;
  }

  parts_now : AreSegments (regions system) (word system) (front ++ now ∷ back)
  parts_now = parts_around front back (subst (λ rs. AreSegments rs (word system) front) (sym same) (parts_stay (regions heap.system) (word heap.system)
      (word system) front front_parts front_keeps)) is_now (subst (λ rs. AreSegments rs (word system) back) (sym same)
      (parts_stay (regions heap.system) (word heap.system) (word system) back back_parts back_keeps))

  -- what is apart from the segment and from the grant is apart from both as one
  step : (other : Segment) → 96 < other.size → IsApartFrom other segment → IsApartFrom other (opened grant) → IsApartFrom other now
  step other long one two = elim two [
    | inl before ↦ inl before
    | inr behind ↦ elim one [
      | inl below ↦ absurd (omega (arith, place))
      | inr above ↦ inr (omega (arith, place))
    ]
  ]

  now_back : (others : List Segment) → AreSegments (regions heap.system) (word heap.system) others → AllByRecursion (λ other. IsApartFrom other segment)
      others → AllByRecursion (λ other. IsApartFrom other (opened grant)) others → AllByRecursion (IsApartFrom now) others
  now_back [] p one two = tt
  now_back (other ∷ others) p one two = (apart_back other now (step other p.0.long one.0 two.0), now_back others p.1 one.1 two.1)

  around : (others : List Segment) → AreSegments (regions heap.system) (word heap.system) others → AreApart (others ++ segment ∷ back) →
      AllByRecursion (λ other. IsApartFrom other (opened grant)) others → AreApart (others ++ now ∷ back)
  around [] p all two = (now_back back back_parts (back_apart front segment back apart) back_beside, all.1)
  around (other ∷ others) p all two = (
    all_with (IsApartFrom other) others segment now back
        (λ one. step other p.0.long one two.0) all.0,
    around others p.1 all.1 two.1,
  )

  apart_now : AreApart (front ++ now ∷ back)
  apart_now = around front front_parts apart front_beside

  module _ (base size : ℕ) (some : 0 < size) (told : AreTold (word system) (record heap { system = system; base = base; size = size })
      (front ++ now ∷ back)) where
    abbrev new : Dlmalloc A
    new = record heap { system = system; base = base; size = size }

    abbrev after : List Extent
    after = segment.extents ++ extents_all back

    -- nothing gives way to the two
    abbrev it : Exchange regions word heap new
    it = record {
      now = front ++ now ∷ back;
      parts = parts_now;
      apart = apart_now;
      told = told;
      some = some;
      granularity = refl;
      ahead = [];
      first = extents_all front;
      less = [];
      more = two_chunks;
      last = after;
      were = ap extents_all is ∙ all_among front segment back;
      are = all_among front now back;
    }

    -- what is found in the segment is found
    pub among_new : (k : ℕ) {one : Extent} → extent_at k now.extents ≡ Some one → extent_at k (extents_in (state_of word new)) ≡ Some one
    among_new k there = ap (λ ss. extent_at k (extents_all ss)) (exchanged_read sound it)
        ∙ among_all (regions system) (word system) parts_now apart_now front now back refl k there

    rest_there : extent_at (grant.base + n) two_chunks ≡ Some (extent (grant.base + n) (grant.size - n) Used)
    rest_there =
        let other : (grant.base == grant.base + n) ≡ false = nat_isnt (inl (omega arith)) in
        let here = nat_same (grant.base + n) in
        rw (other, here) refl

    not_two : (one : Extent) → one.at ≢ grant.base → one.at ≢ grant.base + n → extent_at one.at two_chunks ≡ Some one → ⊥
    not_two one not_chunk not_rest found = elim (of_two one.at (extent grant.base n Used) (extent (grant.base + n) (grant.size - n) Used) found) [
      | inl chunk ↦ not_chunk (sym (ap (λ e. e.at) chunk))
      | inr rest ↦ not_rest (sym (ap (λ e. e.at) rest))
    ]

    -- nothing was found in the grant
    none_in_grant : (k : ℕ) {one : Extent} → grant.base ≤ k → k < grant.base + grant.size → extent_at k (extents_in (state_of word heap)) ≡ Some one → ⊥
    none_in_grant k low high there =
        let none = none_there (regions heap.system) (word heap.system) (opened grant) (segments_of word heap) sound.segments
        (flip (opened grant) (segments_of word heap) fresh.apart) k low high in
        cc

    -- the other segments are as they were
    same_other : (other : Segment) → 96 < other.size → IsApartFrom other segment → joined grant n other ≡ other
    same_other other long one =
        let long' = the_part.long in let p = place in
        let test : (other.base == grant.base + grant.size) ≡ false = nat_isnt (elim one [ inl below ↦ inl (omega arith) | inr above ↦ inr (omega arith) ]) in
        rw test refl

    same_others : (others : List Segment) → AreSegments (regions heap.system) (word heap.system) others →
        AllByRecursion (λ other. IsApartFrom other segment) others → map (joined grant n) others ≡ others
    same_others [] p one = refl
    same_others (other ∷ others) p one = λ i. same_other other p.0.long one.0 i ∷ same_others others p.1 one.1 i

    joined_are : map (joined grant n) (segments_of word heap) ≡ front ++ now ∷ back
    joined_are =
        ap (map (joined grant n)) is ∙ (map-append (joined grant n) front (segment ∷ back) ∙ (λ i. same_others front front_parts
        (front_apart front segment back apart) i ++ here i ∷ same_others back back_parts (back_apart front segment back apart) i))
      where
        here : joined grant n segment ≡ now
        here = (let test = joins in rw test refl)

    pub is_prepended : ((k : ℕ) → (IsInRecord (state_of word new) k → ⊥) → IsUntold k) → IsPrepended regions word follows heap grant n new
    is_prepended recorded = record {
      state = λ i. record (state_of word heap) { segments = (exchanged_read sound it ∙ sym joined_are) i };
      sound = exchanged_sound sound it tt refl refl;
      regions_same = same;
      followed = followed;
      chunk = exchanged_new sound it grant.base (found_here (extent grant.base n Used) (extent (grant.base + n) (grant.size - n) Used ∷ []));
      rest = exchanged_new sound it (grant.base + n) rest_there;
      still = λ one there. exchanged_still sound it one.at (λ found. cc) there;
      before = λ one not_chunk not_rest there. exchanged_was sound it one.at (λ found. cc) (not_two one not_chunk not_rest) there;
      apart = λ one there. (
        (λ at. none_in_grant one.at (omega arith) (omega arith) there),
        (λ at. none_in_grant one.at (omega arith) (omega arith) there),
      );
      words = λ k inside out tag. kept k inside (λ at. elim out [ inl below ↦ omega arith | inr above ↦ omega arith ])
          (λ at. elim out [ inl below ↦ omega arith | inr above ↦ omega arith ]) (recorded k tag);
      new_words = λ k inside low high not_first not_second. kept k inside not_first not_second (untold k (inl (omega (arith, place))));
    }

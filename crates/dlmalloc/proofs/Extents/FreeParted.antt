-- Free extents of a segment are parted by one in use, and if none is in use, there is one of them.
use Rattle.dlmalloc.proofs.Names.{◌≡◌, ◌≢◌, ℕ, ◌+◌, ◌-◌, ◌⊎◌, inl, inr, true, false, ◌&&◌, List, [], ◌∷◌, ◌++◌, filter, Some, refl, sym, ◌∙◌, ap, subst, arith, append_assoc, AllByRecursion, Grant, Extent, Kind, Used, Free, Victim, Top, Record, Foot, ends_segment, IsSize, extent_at, MayStand, Tiles, last_kind, Segment, IsSegment, AreSegments, record_of, AreRecords, segments_of, state_of, AreTold, IsSound, Dlmalloc}
use Rattle.dlmalloc.specs.Extents.{is_free}
use Rattle.dlmalloc.specs.FreeExtents.{HasUsedBetween, AreParted, IsUnused, HasOneFree, EachHasOneFree}
use Rattle.dlmalloc.proofs.Extents.Lookup.{extent, found, found_either, found_here, at_one, of_two}
use Rattle.dlmalloc.proofs.Extents.Tiling.{tiles_split}
use Rattle.dlmalloc.proofs.Extents.OneMoreUsed.{AreDistinct, tiles_distinct}
use Rattle.dlmalloc.proofs.Segments.Among.{in_part, distinct_later, among_all}
use Rattle.dlmalloc.proofs.Extents.FromWords.{nothing}
use Rattle.dlmalloc.proofs.Extents.Shown.{pair}
use Rattle.dlmalloc.proofs.Extents.Top.{no_record}

-- what is not free is in use, or ends a segment
not_free : (kind : Kind) → is_free kind ≡ false → (kind ≡ Used) ⊎ (ends_segment kind ≡ true)
not_free Used h = inl refl
not_free Record h = inr refl
not_free Foot h = inr refl
not_free kind h = absurd (cc)

-- so is what stands after a free extent
behind_free : (first next : Kind) → is_free first ≡ true → MayStand first next → (next ≡ Used) ⊎ (ends_segment next ≡ true)
behind_free first next free may = not_free next (ap (λ b. b && is_free next) (sym free) ∙ (pair first next may).apart)

pub parted : (words : ℕ → ℕ) (before : Kind) (from : ℕ) (extents : List Extent) (to : ℕ) → Tiles words before from extents to → AreParted extents
parted words before from extents to h first second there there' free free' less =
    elim (found_either second.at f.front (first ∷ f.back) (ap (extent_at second.at) (sym f.is) ∙ there')) [
      | inl early ↦ absurd (let is = in_part words before from f.front s.middle s.first early in let high = is.high in let place = s.second.0 in omega arith)
      | inr later ↦ elim (found_either second.at (first ∷ []) f.back later.1) [
        | inl here ↦ absurd (let same = (at_one second.at first here).1 in omega arith)
        | inr behind ↦ go f.back s.second.2 behind.1 (subst AreDistinct f.is (tiles_distinct words before from extents to h)) f.is
      ]
    ]
  where
    f : Rattle.dlmalloc.proofs.Extents.Lookup.Found first.at first extents
    f = found first.at first extents there

    s : Rattle.dlmalloc.proofs.Extents.Tiling.Split words before from f.front (first ∷ f.back) to
    s = tiles_split words before from f.front (first ∷ f.back) to (subst (λ es. Tiles words before from es to) f.is h)

    go : (back : List Extent) → Tiles words first.kind (s.middle + first.size) back to → extent_at second.at back ≡ Some second →
        AreDistinct (f.front ++ first ∷ back) → extents ≡ f.front ++ first ∷ back → HasUsedBetween extents (first.at + first.size) second.at
    go [] tiles there distinct is = absurd (cc)
    go (next ∷ back) tiles there distinct is = elim (behind_free first.kind next.kind free tiles.1.kind) [
      | inl used ↦ elim (found_either second.at (next ∷ []) back there) [
        | inl here ↦ absurd (let same = ap (λ e. is_free e.kind) (at_one second.at next here).0 in let not = ap is_free used in cc)
        | inr behind ↦ (
            let place = s.second.0 in let at = tiles.0 in
            let later = in_part words next.kind (s.middle + first.size + next.size) back to tiles.2 behind.1 in let low = later.low in
            let all = is ∙ sym (append_assoc f.front (first ∷ []) (next ∷ back)) in
            record {
              used = next;
              there = ap (extent_at next.at) all ∙ distinct_later (f.front ++ first ∷ []) (next ∷ back) next.at
                  (subst AreDistinct all (tiles_distinct words before from extents to h)) (found_here next back);
              is = used;
              behind = omega arith;
              before = omega arith;
            })
      ]
      | inr ends ↦ absurd (
          let none = (nothing words next.kind (s.middle + first.size + next.size) back to ends tiles.2).0 in
          let same = ap (λ e. is_free e.kind) (at_one second.at next (ap (λ es. extent_at second.at (next ∷ es)) (sym none) ∙ there)).0 in
          let not = (pair first.kind next.kind tiles.1.kind).apart in
          let no : is_free next.kind ≡ false = ap (λ b. b && is_free next.kind) (sym free) ∙ not in cc)
    ]

pub all_parted : (regions : List Grant) (words : ℕ → ℕ) (segments : List Segment) → AreSegments regions words segments →
    AllByRecursion (λ segment. AreParted segment.extents) segments
all_parted regions words [] parts = tt
all_parted regions words (segment ∷ segments) parts =
    (parted words Used segment.base segment.extents (segment.base + segment.size) parts.0.extents, all_parted regions words segments parts.1)

-- ---- no extent is in use

module _ {regions : List Grant} {words : ℕ → ℕ} {segment : Segment} (part : IsSegment regions words segment)
    (unused : (one : Extent) → extent_at one.at segment.extents ≡ Some one → one.kind ≢ Used) where
  -- a free extent, and what ends the segment
  pub record IsBare : Type 0 where
    pub one : Extent
    pub last : Extent
    pub is : segment.extents ≡ one ∷ last ∷ []
    pub free : (one.kind ≡ Free) ⊎ (one.kind ≡ Top)
    pub ends : ends_segment last.kind ≡ true

  pub bare : IsBare
  bare = go segment.extents refl part.extents part.tail
    where
      go : (extents : List Extent) → segment.extents ≡ extents → Tiles words Used segment.base extents (segment.base + segment.size) →
          ends_segment (last_kind Used extents) ≡ true → IsBare
      go [] is h tail = absurd (cc)
      go (one ∷ back) is h tail = by_kind one.kind refl h.1.kind h.1.size
        where
          free : is_free one.kind ≡ true → (one.kind ≡ Free) ⊎ (one.kind ≡ Top) → IsBare
          free test kind = behind back is h.2 tail
            where
              behind : (back : List Extent) → segment.extents ≡ one ∷ back → Tiles words one.kind (segment.base + one.size) back
                  (segment.base + segment.size) → ends_segment (last_kind one.kind back) ≡ true → IsBare
              behind [] is h tail = absurd (elim kind [ inl a ↦ (let no = ap ends_segment a in cc) | inr a ↦ (let no = ap ends_segment a in cc) ])
              behind (last ∷ rest) is h tail = elim (behind_free one.kind last.kind test h.1.kind) [
                | inl used ↦ absurd (unused last (ap (extent_at last.at) is ∙ distinct_later (one ∷ []) (last ∷ rest) last.at (subst AreDistinct is
                    (tiles_distinct words Used segment.base segment.extents (segment.base + segment.size) part.extents)) (found_here last rest)) used)
                | inr ends ↦ record {
                  one = one;
                  last = last;
                  is = is ∙ ap (λ es. one ∷ last ∷ es) (nothing words last.kind (segment.base + one.size + last.size) rest
                      (segment.base + segment.size) ends h.2).0;
                  free = kind;
                  ends = ends;
                }
              ]

          by_kind : (kind : Kind) → one.kind ≡ kind → MayStand Used one.kind → IsSize one.kind one.size → IsBare
          by_kind Used same may size = absurd (unused one (ap (extent_at one.at) is ∙ found_here one back) same)
          by_kind Free same may size = free (ap is_free same) (inl same)
          by_kind Victim same may size = absurd (subst (MayStand Used) same may)
          by_kind Top same may size = free (ap is_free same) (inr same)
          by_kind Record same may size = absurd (
              let none = (nothing words one.kind (segment.base + one.size) back (segment.base + segment.size) (ap ends_segment same) h.2).0 in
              let end = subst (λ es. Tiles words one.kind (segment.base + one.size) es (segment.base + segment.size)) none h.2 in
              let long = part.long in
              elim (subst (λ kind. IsSize kind one.size) same size) [ inl short ↦ omega arith | inr longer ↦ omega arith ])
          by_kind Foot same may size = absurd (let no = subst (MayStand Used) same may in cc)

  one_free : {kind : Kind} → bare.one.kind ≡ kind → HasOneFree kind segment.extents
  one_free {kind} is = record { extent = bare.one; only = ap (filter (λ e. is_free e.kind)) bare.is ∙ rw (free, other) refl; is = is }
    where
      free : is_free bare.one.kind ≡ true
      free = elim bare.free [ inl a ↦ ap is_free a | inr a ↦ ap is_free a ]

      other : is_free bare.last.kind ≡ false
      other = go bare.last.kind bare.ends
        where
          go : (kind : Kind) → ends_segment kind ≡ true → is_free kind ≡ false
          go Record ends = refl
          go Foot ends = refl
          go kind ends = absurd (cc)

  -- what is found is one of the two
  pub either : (k : ℕ) {other : Extent} → extent_at k segment.extents ≡ Some other → (bare.one ≡ other) ⊎ (bare.last ≡ other)
  either k there = of_two k bare.one bare.last (ap (extent_at k) (sym bare.is) ∙ there)

  -- a segment with the top
  pub head_free : {at size : ℕ} → extent_at at segment.extents ≡ Some (extent at size Top) → HasOneFree Top segment.extents
  head_free {at} there = elim (either at there) [
    | inl one ↦ one_free (ap (λ e. e.kind) one)
    | inr last ↦ absurd (let ends = bare.ends in let no = ap (λ e. ends_segment e.kind) last in cc)
  ]

  -- a segment with a record
  pub record_free : (at : ℕ) → extent_at at segment.extents ≡ Some (record_of at (segment.base + segment.size)) → HasOneFree Free segment.extents
  record_free at there = elim bare.free [
    | inl free ↦ one_free free
    | inr top ↦ absurd (no_record part at (ap (extent_at bare.one.at) bare.is
        ∙ (found_here bare.one (bare.last ∷ []) ∙ ap (λ kind. Some (extent bare.one.at bare.one.size kind)) top)) there)
  ]

module _ {A : Type 0} {regions : A → List Grant} {word : A → ℕ → ℕ} {heap : Dlmalloc A} (sound : IsSound regions word heap)
    (unused : IsUnused (state_of word heap)) where
  in_segment : (front : List Segment) (segment : Segment) (back : List Segment) → segments_of word heap ≡ front ++ segment ∷ back →
      (one : Extent) → extent_at one.at segment.extents ≡ Some one → one.kind ≢ Used
  in_segment front segment back is one there = unused one (among_all (regions heap.system) (word heap.system) sound.segments
      sound.apart front segment back is one.at there)

  in_records : (front segments : List Segment) → segments_of word heap ≡ front ++ segments → AreSegments (regions heap.system) (word heap.system)
      segments → (payload : ℕ) → AreRecords (word heap.system) payload segments → AllByRecursion (λ segment. HasOneFree Free segment.extents) segments
  in_records front [] is parts payload h = tt
  in_records front (segment ∷ segments) is parts payload h = (
    record_free parts.0 (in_segment front segment segments is) (payload - 16) h.4,
    in_records (front ++ segment ∷ []) segments (is ∙ sym (append_assoc front (segment ∷ []) segments)) parts.1 (word heap.system (payload + 16)) h.5,
  )

  pub each_free : EachHasOneFree (segments_of word heap)
  each_free = go (segments_of word heap) refl sound.segments sound.told
    where
      go : (segments : List Segment) → segments_of word heap ≡ segments → AreSegments (regions heap.system) (word heap.system) segments →
          AreTold (word heap.system) heap segments → EachHasOneFree segments
      go [] is parts h = tt
      go (segment ∷ segments) is parts h = (
        head_free parts.0 (in_segment [] segment segments is) h.4,
        in_records (segment ∷ []) segments is parts.1 heap.next h.5,
      )

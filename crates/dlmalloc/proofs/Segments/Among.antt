-- Segments among others.
use Rattle.dlmalloc.proofs.Names.{◌≡◌, ℕ, suc, ◌+◌, ◌<◌, ◌≤◌, ◌⊎◌, inl, inr, Bool, true, false, ◌||◌, List, [], ◌∷◌, ◌++◌, Some, None, refl, ◌∙◌, ap, subst, arith, length, flat_map, list_any, AllByRecursion, flat_map-append, Grant, Extent, Kind, Used, Segment, HasChunk, Tiles, last_kind, AreSegments, IsApartFrom, AreApart}
use Rattle.dlmalloc_chunks.specs.Tiling.{extent_at}
use Rattle.dlmalloc.proofs.Extents.Lookup.{found, found_either, found_more, found_later}
use Rattle.dlmalloc.proofs.Extents.Tiling.{sized, tiles_le, tiles_split}
use Rattle.dlmalloc.proofs.Extents.OneMoreUsed.{AreDistinct, none_outside, distinct_later}
pub use Rattle.dlmalloc.proofs.Extents.OneMoreUsed.{distinct_later}

abbrev pub extents_all : List Segment → List Extent
extents_all segments = flat_map (λ segment. segment.extents) segments

-- a segment with other extents
abbrev pub with_extents : Segment → List Extent → Segment
with_extents segment extents = record { base = segment.base; size = segment.size; flags = segment.flags; extents = extents }

pub all_among : (front : List Segment) (segment : Segment) (back : List Segment) →
    extents_all (front ++ segment ∷ back) ≡ extents_all front ++ (segment.extents ++ extents_all back)
all_among front segment back = flat_map-append (λ s. s.extents) front (segment ∷ back)

-- ---- one of some segments

module _ (Is : Segment → Type 0) where
  pub all_at : (front : List Segment) (segment : Segment) (back : List Segment) → AllByRecursion Is (front ++ segment ∷ back) → Is segment
  all_at [] segment back all = all.0
  all_at (first ∷ front) segment back all = all_at front segment back all.1

  pub all_front : (front back : List Segment) → AllByRecursion Is (front ++ back) → AllByRecursion Is front
  all_front [] back all = tt
  all_front (first ∷ front) back all = (all.0, all_front front back all.1)

  pub all_back : (front back : List Segment) → AllByRecursion Is (front ++ back) → AllByRecursion Is back
  all_back [] back all = all
  all_back (first ∷ front) back all = all_back front back all.1

  pub all_with : (front : List Segment) (segment other : Segment) (back : List Segment) →
      (Is segment → Is other) → AllByRecursion Is (front ++ segment ∷ back) → AllByRecursion Is (front ++ other ∷ back)
  all_with [] segment other back each all = (each all.0, all.1)
  all_with (first ∷ front) segment other back each all = (all.0, all_with front segment other back each all.1)

-- the segment in which an extent is found
pub record Located (at : ℕ) (extent : Extent) (segments : List Segment) : Type 0 where
  pub front : List Segment
  pub segment : Segment
  pub back : List Segment
  pub is : segments ≡ front ++ segment ∷ back
  pub there : extent_at at segment.extents ≡ Some extent

pub located : (at : ℕ) {extent : Extent} (segments : List Segment) → extent_at at (extents_all segments) ≡ Some extent → Located at extent segments
located at [] there = absurd (cc)
located at (segment ∷ segments) there =
    elim (found_either at segment.extents (extents_all segments) there) [
      | inl here ↦ record { front = []; segment = segment; back = segments; is = refl; there = here }
      | inr later ↦ (let rest = located at segments later.1 in
          record { front = segment ∷ rest.front; segment = rest.segment; back = rest.back; is = ap (λ ss. segment ∷ ss) rest.is; there = rest.there })
    ]

-- what holds of all holds of it
pub of_located : (Is : Segment → Type 0) {at : ℕ} {extent : Extent} {segments : List Segment}
    (l : Located at extent segments) → AllByRecursion Is segments → Is l.segment
of_located Is l all = all_at Is l.front l.segment l.back (subst (AllByRecursion Is) l.is all)

-- and what one has, some have
pub any_among : (test : Segment → Bool) (front : List Segment) (segment : Segment) (back : List Segment) →
    test segment ≡ true → list_any test (front ++ segment ∷ back) ≡ true
any_among test [] segment back holds = rw holds refl
any_among test (first ∷ front) segment back holds = go (test first) (any_among test front segment back holds)
  where
    go : (b : Bool) → list_any test (front ++ segment ∷ back) ≡ true → (b || list_any test (front ++ segment ∷ back)) ≡ true
    go true rest = refl
    go false rest = rest

-- ---- apart

-- it goes both ways
pub apart_back : (one other : Segment) → IsApartFrom one other → IsApartFrom other one
apart_back one other (inl before) = inr before
apart_back one other (inr behind) = inl behind

pub flip : (one : Segment) (others : List Segment) → AllByRecursion (λ other. IsApartFrom other one) others → AllByRecursion (IsApartFrom one) others
flip one [] all = tt
flip one (other ∷ others) all = (apart_back other one all.0, flip one others all.1)

pub front_apart : (front : List Segment) (segment : Segment) (back : List Segment) → AreApart (front ++ segment ∷ back) →
    AllByRecursion (λ other. IsApartFrom other segment) front
front_apart [] segment back apart = tt
front_apart (first ∷ front) segment back apart = (all_at (IsApartFrom first) front segment back apart.0, front_apart front segment back apart.1)

pub back_apart : (front : List Segment) (segment : Segment) (back : List Segment) → AreApart (front ++ segment ∷ back) →
    AllByRecursion (λ other. IsApartFrom other segment) back
back_apart [] segment back apart = go back apart.0
  where
    go : (back : List Segment) → AllByRecursion (IsApartFrom segment) back → AllByRecursion (λ other. IsApartFrom other segment) back
    go [] all = tt
    go (other ∷ back) all = (apart_back segment other all.0, go back all.1)
back_apart (first ∷ front) segment back apart = back_apart front segment back apart.1

pub as_many : (front : List Segment) (one other : Segment) (back : List Segment) → length (front ++ one ∷ back) ≡ length (front ++ other ∷ back)
as_many [] one other back = refl
as_many (first ∷ front) one other back = ap suc (as_many front one other back)

-- ---- each extent begins at an address of its own

pub none_there : (regions : List Grant) (words : ℕ → ℕ) (segment : Segment) (segments : List Segment) → AreSegments regions words segments →
    AllByRecursion (IsApartFrom segment) segments →
    (k : ℕ) → segment.base ≤ k → k < segment.base + segment.size → extent_at k (extents_all segments) ≡ None
none_there regions words segment [] parts apart k low high = refl
none_there regions words segment (other ∷ segments) parts apart k low high =
    found_later k other.extents (extents_all segments) (none_outside words Used other.base other.extents (other.base + other.size) k
    (out apart.0) parts.0.extents) ∙ none_there regions words segment segments parts.1 apart.1 k low high
  where
    out : IsApartFrom segment other → (k < other.base) ⊎ (other.base + other.size ≤ k)
    out (inl before) = inl (omega arith)
    out (inr behind) = inr (omega arith)

distinct_append : (words : ℕ → ℕ) (before : Kind) (from : ℕ) (extents : List Extent) (to : ℕ) (others : List Extent) → Tiles words before from
    extents to → ((k : ℕ) → from ≤ k → k < to → extent_at k others ≡ None) → AreDistinct others → AreDistinct (extents ++ others)
distinct_append words before from [] to others h none distinct = distinct
distinct_append words before from (extent ∷ extents) to others h none distinct =
    let long = (sized extent.kind extent.size h.1.size).1 in let place = h.0 in
    let later = tiles_le words extent.kind (from + extent.size) extents to h.2 in (
      found_later extent.at extents others (none_outside words extent.kind (from + extent.size) extents to extent.at
          (inl (omega arith)) h.2) ∙ none extent.at (omega arith) (omega arith),
      distinct_append words extent.kind (from + extent.size) extents to others h.2 (λ k low high. none k (omega arith) high) distinct,
    )

pub all_distinct : (regions : List Grant) (words : ℕ → ℕ) (segments : List Segment) → AreSegments regions words segments →
    AreApart segments → AreDistinct (extents_all segments)
all_distinct regions words [] parts apart = tt
all_distinct regions words (segment ∷ segments) parts apart =
    distinct_append words Used segment.base segment.extents (segment.base + segment.size) (extents_all segments) parts.0.extents
    (none_there regions words segment segments parts.1 apart.0) (all_distinct regions words segments parts.1 apart.1)

-- an extent in its segment
pub record IsIn (words : ℕ → ℕ) (from to : ℕ) (extent : Extent) : Type 0 where
  pub low : from ≤ extent.at
  pub high : extent.at + extent.size ≤ to
  pub before : Kind
  pub stands : HasChunk words before extent

pub in_part : (words : ℕ → ℕ) (before : Kind) (from : ℕ) (extents : List Extent) (to : ℕ) {extent : Extent} → Tiles words before from extents to →
    extent_at extent.at extents ≡ Some extent → IsIn words from to extent
in_part words before from extents to {extent} h there =
    let f = found extent.at extent extents there in
    let s = tiles_split words before from f.front (extent ∷ f.back) to (subst (λ es. Tiles words before from es to) f.is h) in
    let place = s.second.0 in
    let low = tiles_le words before from f.front s.middle s.first in
    let high = tiles_le words extent.kind (s.middle + extent.size) f.back to s.second.2 in
    record { low = omega arith; high = omega arith; before = last_kind before f.front; stands = s.second.1 }

-- what is found in one of the segments is found among all
pub among_all : (regions : List Grant) (words : ℕ → ℕ) {segments : List Segment} → AreSegments regions words segments → AreApart segments →
    (front : List Segment) (segment : Segment) (back : List Segment) → segments ≡ front ++ segment ∷ back →
    (k : ℕ) {one : Extent} → extent_at k segment.extents ≡ Some one → extent_at k (extents_all segments) ≡ Some one
among_all regions words {segments} parts apart front segment back is k there =
    ap (λ ss. extent_at k (extents_all ss)) is ∙ (ap (extent_at k) (all_among front segment back)
    ∙ distinct_later (extents_all front) (segment.extents ++ extents_all back) k (subst AreDistinct (ap extents_all is ∙ all_among front segment back)
    (all_distinct regions words segments parts apart)) (found_more k segment.extents (extents_all back) there))

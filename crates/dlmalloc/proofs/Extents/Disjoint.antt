-- Two extents of a heap have no byte in common.
use Rattle.dlmalloc.proofs.Names.{◌≡◌, ◌≢◌, ℕ, ◌+◌, ◌≤◌, ◌⊎◌, inl, inr, true, false, List, [], ◌∷◌, Some, None, sym, ◌∙◌, ap, subst, arith, AllByRecursion, Grant, Extent, Kind, Used, ends_segment, extent_at, HasChunk, Tiles, last_kind, Segment, IsSegment, AreSegments, IsApartFrom, AreApart}
use Rattle.dlmalloc.proofs.Extents.Lookup.{at_one, found, found_either}
use Rattle.dlmalloc.proofs.Extents.Tiling.{sized, tiles_le, tiles_split}
use Rattle.dlmalloc.proofs.Moves.OfLists.{last_append}
use Rattle.dlmalloc.proofs.Segments.Among.{extents_all, located, of_located, in_part}

abbrev pub AreBeside : Extent → Extent → Type 0
AreBeside one other = (one.at + one.size ≤ other.at) ⊎ (other.at + other.size ≤ one.at)

-- in one segment
beside_in : (words : ℕ → ℕ) (before : Kind) (from : ℕ) (extents : List Extent) (to : ℕ) → Tiles words before from extents to →
    (one other : Extent) → extent_at one.at extents ≡ Some one → extent_at other.at extents ≡ Some other → one.at ≢ other.at → AreBeside one other
beside_in words before from extents to h one other there there_other apart =
    let f = found one.at one extents there in
    let s = tiles_split words before from f.front (one ∷ f.back) to (subst (λ es. Tiles words before from es to) f.is h) in
    let place : one.at ≡ s.middle = s.second.0 in
    elim (found_either other.at f.front (one ∷ f.back) (ap (extent_at other.at) (sym f.is) ∙ there_other)) [
      | inl first ↦ (let is = in_part words before from f.front s.middle s.first first in let high = is.high in inr (omega arith))
      | inr later ↦ elim (found_either other.at (one ∷ []) f.back later.1) [
        | inl here ↦ absurd (apart (at_one other.at one here).1)
        | inr behind ↦ (let is = in_part words one.kind (s.middle + one.size) f.back to s.second.2 behind.1 in let low = is.low in inl (omega arith))
      ]
    ]

-- in some segments, apart from another
pub within : (regions : List Grant) (words : ℕ → ℕ) (segment : Segment) (segments : List Segment) → AreSegments regions words segments →
    AllByRecursion (IsApartFrom segment) segments → {one : Extent} → extent_at one.at (extents_all segments) ≡ Some one →
    (one.at + one.size ≤ segment.base) ⊎ (segment.base + segment.size ≤ one.at)
within regions words segment segments parts apart {one} there =
    let l = located one.at segments there in let p = of_located (IsSegment regions words) l parts in
    let is = in_part words Used l.segment.base l.segment.extents (l.segment.base + l.segment.size) p.extents l.there in
    let low = is.low in let high = is.high in
    elim (of_located (IsApartFrom segment) l apart) [ inl before ↦ inr (omega arith) | inr behind ↦ inl (omega arith) ]

-- in all
pub beside : (regions : List Grant) (words : ℕ → ℕ) (segments : List Segment) → AreSegments regions words segments →
    AreApart segments → {one other : Extent} → extent_at one.at (extents_all segments) ≡ Some one →
    extent_at other.at (extents_all segments) ≡ Some other → one.at ≢ other.at → AreBeside one other
beside regions words [] parts apart there there_other differ = absurd (cc)
beside regions words (segment ∷ segments) parts apart {one} {other} there there_other differ =
    both (found_either one.at segment.extents (extents_all segments) there) (found_either other.at segment.extents (extents_all segments) there_other)
    (λ a b. beside regions words segments parts.1 apart.1 a b differ)
  where
    both : (extent_at one.at segment.extents ≡ Some one) ⊎ ((extent_at one.at segment.extents ≡ None) × (extent_at one.at (extents_all segments) ≡ Some one)) →
        (extent_at other.at segment.extents ≡ Some other) ⊎ ((extent_at other.at segment.extents ≡ None) × (extent_at
        other.at (extents_all segments) ≡ Some other)) →
        (extent_at one.at (extents_all segments) ≡ Some one → extent_at other.at (extents_all segments) ≡ Some other →
        AreBeside one other) → AreBeside one other
    both (inl a) (inl b) later = beside_in words Used segment.base segment.extents (segment.base + segment.size) parts.0.extents one other a b differ
    both (inl a) (inr b) later =
        let is = in_part words Used segment.base segment.extents (segment.base + segment.size) parts.0.extents a in
        let low = is.low in let high = is.high in
        elim (within regions words segment segments parts.1 apart.0 b.1) [ inl before ↦ inr (omega arith) | inr behind ↦ inl (omega arith) ]
    both (inr a) (inl b) later =
        let is = in_part words Used segment.base segment.extents (segment.base + segment.size) parts.0.extents b in
        let low = is.low in let high = is.high in
        elim (within regions words segment segments parts.1 apart.0 a.1) [ inl before ↦ inl (omega arith) | inr behind ↦ inr (omega arith) ]
    both (inr a) (inr b) later = later a.1 b.1

-- after an extent that ends no segment stands another
pub room_behind : (words : ℕ → ℕ) (before : Kind) (from : ℕ) (extents : List Extent) (to : ℕ) (one : Extent) →
    Tiles words before from extents to → ends_segment (last_kind before extents) ≡ true → extent_at one.at extents ≡ Some one →
    ends_segment one.kind ≡ false → one.at + one.size + 16 ≤ to
room_behind words before from extents to one h tail there inner =
    let f = found one.at one extents there in
    let s = tiles_split words before from f.front (one ∷ f.back) to (subst (λ es. Tiles words before from es to) f.is h) in
    let place = s.second.0 in
    let last : ends_segment (last_kind one.kind f.back) ≡ true = ap ends_segment (sym (last_append before f.front (one ∷ f.back)))
    ∙ (ap (λ es. ends_segment (last_kind before es)) (sym f.is) ∙ tail) in
    let more = go f.back (s.middle + one.size) s.second.2 last in
    omega arith
  where
    go : (back : List Extent) (at : ℕ) → Tiles words one.kind at back to → ends_segment (last_kind one.kind back) ≡ true → at + 16 ≤ to
    go [] at h last = absurd (cc)
    go (next ∷ back) at h last =
        let long = (sized next.kind next.size h.1.size).1 in
        let later = tiles_le words next.kind (at + next.size) back to h.2 in
        omega arith

-- how an extent stands
pub stands_there : (regions : List Grant) (words : ℕ → ℕ) (segments : List Segment) → AreSegments regions words segments → {one : Extent} →
    extent_at one.at (extents_all segments) ≡ Some one → (before : Kind) × HasChunk words before one
stands_there regions words segments parts {one} there =
    let l = located one.at segments there in let p = of_located (IsSegment regions words) l parts in
    let is = in_part words Used l.segment.base l.segment.extents (l.segment.base + l.segment.size) p.extents l.there in
    (is.before, is.stands)

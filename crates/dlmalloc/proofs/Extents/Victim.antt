-- The victim among the extents of all segments.
use Rattle.dlmalloc.proofs.Names.{◌≡◌, ◌≢◌, ℕ, ◌+◌, ◌<◌, ◌≤◌, ◌⊎◌, inl, inr, Bool, true, false, ◌==◌, ◌&&◌, nat_le, nat_lt, List, [], ◌∷◌, ◌++◌, Option, Some, None, refl, sym, ◌∙◌, ap, subst, arith, unwrap_or, option_map, find, AllByRecursion, option_or, find-append, nat_tests, Grant, Extent, Kind, Used, Free, Segment, is_free_below_top, has, victim_in, Tiles, AreSegments, IsApartFrom, AreApart}
use Rattle.dlmalloc_chunks.specs.Tiling.{extent_at}
use Rattle.dlmalloc.proofs.Extents.Lookup.{nat_is, found, found_either}
use Rattle.dlmalloc.proofs.Extents.FreeMerged.{has_here}
use Rattle.dlmalloc.proofs.Extents.Lookup.{extent}
use Rattle.dlmalloc.proofs.Extents.Tiling.{sized, tiles_le, tiles_split}
use Rattle.dlmalloc.proofs.Segments.Among.{extents_all}
use Rattle.dlmalloc.proofs.Extents.Disjoint.{within}

outside : (plain : Bool) (low high at : ℕ) → (at < low) ⊎ (high ≤ at) → (plain && nat_le low at && nat_lt at high) ≡ false
outside false low high at out = refl
outside true low high at (inl below) = grind (arith, nat_tests)
outside true low high at (inr above) = grind (arith, nat_tests)

-- none of the extents of a range has a byte outside of it
pub has_none : (words : ℕ → ℕ) (before : Kind) (from : ℕ) (extents : List Extent) (to at : ℕ) → (at < from) ⊎ (to ≤ at) →
    Tiles words before from extents to → find (has at) extents ≡ None
has_none words before from [] to at out h = refl
has_none words before from (extent ∷ extents) to at out h =
    let long = (sized extent.kind extent.size h.1.size).1 in
    let later = tiles_le words extent.kind (from + extent.size) extents to h.2 in
    let place = h.0 in
    let test : has at extent ≡ false = outside (is_free_below_top extent.kind) extent.at (extent.at + extent.size) at (grind arith) in
    rw test (has_none words extent.kind (from + extent.size) extents to at (grind arith) h.2)

pub skip : (at : ℕ) (front back : List Extent) → find (has at) front ≡ None → find (has at) (front ++ back) ≡ find (has at) back
skip at front back none = find-append (has at) front back ∙ ap (λ o. option_or o (find (has at) back)) none

-- a free extent has its bytes
has_one : (words : ℕ → ℕ) (before : Kind) (from : ℕ) (extents : List Extent) (to : ℕ) {one : Extent} (at : ℕ) (rest : List Extent) →
    Tiles words before from extents to → extent_at one.at extents ≡ Some one → one.kind ≡ Free → one.at ≤ at → at < one.at + one.size →
    find (has at) (extents ++ rest) ≡ Some one
has_one words before from extents to {one} at rest h there free low high =
    let f = found one.at one extents there in
    let s = tiles_split words before from f.front (one ∷ f.back) to (subst (λ es. Tiles words before from es to) f.is h) in
    let place = s.second.0 in
    let here : find (has at) extents ≡ Some one = ap (find (has at)) f.is ∙
    (skip at f.front (one ∷ f.back) (has_none words before from f.front s.middle at (inr (omega arith)) s.first) ∙ has_here one f.back at free low high) in
    find-append (has at) extents rest ∙ ap (λ o. option_or o (find (has at) rest)) here

pub has_in : (regions : List Grant) (words : ℕ → ℕ) (segments : List Segment) → AreSegments regions words segments → AreApart segments →
    {one : Extent} (at : ℕ) → extent_at one.at (extents_all segments) ≡ Some one → one.kind ≡ Free → one.at ≤ at → at < one.at + one.size →
    find (has at) (extents_all segments) ≡ Some one
has_in regions words [] parts apart at there free low high = absurd (cc)
has_in regions words (segment ∷ segments) parts apart {one} at there free low high =
    elim (found_either one.at segment.extents (extents_all segments) there) [
      | inl here ↦ has_one words Used segment.base segment.extents (segment.base + segment.size) at (extents_all segments) parts.0.extents here free low high
      | inr later ↦ skip at segment.extents (extents_all segments) (has_none words Used segment.base segment.extents (segment.base + segment.size) at
          (out later.1) parts.0.extents) ∙ has_in regions words segments parts.1 apart.1 at later.1 free low high
    ]
  where
    out : extent_at one.at (extents_all segments) ≡ Some one → (at < segment.base) ⊎ (segment.base + segment.size ≤ at)
    out later = elim (within regions words segment segments parts.1 apart.0 later) [ inl before ↦ inl (omega arith) | inr behind ↦ inr (omega arith) ]

pub has_no_zero : (regions : List Grant) (words : ℕ → ℕ) (segments : List Segment) → AreSegments regions words segments →
    find (has 0) (extents_all segments) ≡ None
has_no_zero regions words [] parts = refl
has_no_zero regions words (segment ∷ segments) parts =
    let low = parts.0.low in
    skip 0 segment.extents (extents_all segments) (has_none words Used segment.base segment.extents (segment.base + segment.size) 0
    (inl (omega arith)) parts.0.extents) ∙ has_no_zero regions words segments parts.1

-- a victim that stays free is the victim
pub victim_same : (regions : List Grant) (words : ℕ → ℕ) (segments : List Segment) → AreSegments regions words segments →
    AreApart segments → (victim size : ℕ) →
    (size ≢ 0 → extent_at victim (extents_all segments) ≡ Some (extent victim size Free)) → (size ≡ 0 → victim ≡ 0) →
    victim ≡ victim_in victim (extents_all segments)
victim_same regions words segments parts apart victim size there none = go (size == 0) refl
  where
    at_of : Option Extent → ℕ
    at_of o = unwrap_or (option_map (λ e. e.at) o) 0

    go : (b : Bool) → (size == 0) ≡ b → victim ≡ victim_in victim (extents_all segments)
    go true is =
        let gone : victim ≡ 0 = none (nat_is is) in
        gone ∙ sym (ap at_of (subst (λ v. find (has v) (extents_all segments) ≡ None) (sym gone) (has_no_zero regions words segments parts)))
    go false isnt =
        let some : size ≢ 0 = grind (arith, nat_tests) in
        sym (ap at_of (has_in regions words segments parts apart victim (there some) refl (omega arith) (omega arith)))

-- none has a byte that lies in a segment apart from all
pub has_none_beside : (regions : List Grant) (words : ℕ → ℕ) (segment : Segment) (segments : List Segment) → AreSegments regions words segments →
    AllByRecursion (λ other. IsApartFrom other segment) segments →
    (at : ℕ) → segment.base ≤ at → at < segment.base + segment.size → find (has at) (extents_all segments) ≡ None
has_none_beside regions words segment [] parts apart at low high = refl
has_none_beside regions words segment (other ∷ segments) parts apart at low high =
    skip at other.extents (extents_all segments) (has_none words Used other.base other.extents (other.base + other.size) at (out apart.0) parts.0.extents)
    ∙ has_none_beside regions words segment segments parts.1 apart.1 at low high
  where
    out : IsApartFrom other segment → (at < other.base) ⊎ (other.base + other.size ≤ at)
    out (inl before) = inr (omega arith)
    out (inr behind) = inl (omega arith)

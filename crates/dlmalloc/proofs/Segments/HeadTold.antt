-- Fields describe the head segment, after a move too.
use Rattle.dlmalloc.proofs.Names.{◌≡◌, ℕ, ◌<◌, List, [], ◌∷◌, ◌++◌, Some, refl, sym, ◌∙◌, ap, subst, Grant, Extent, Top, extent_at, Segment, AreSegments, AreApart, AreRecords, segments_of, AreTold, Dlmalloc}
use Rattle.dlmalloc.proofs.Extents.Lookup.{extent}
use Rattle.dlmalloc.proofs.Segments.Among.{with_extents}
use Rattle.dlmalloc.proofs.Segments.OneReplaced.{IsChanged, records_after, records_behind}

-- the fields describe a segment
pub record IsHead {A : Type 0} (heap : Dlmalloc A) (segment : Segment) : Type 0 where
  pub some : 0 < heap.size
  pub base : heap.base ≡ segment.base
  pub size : heap.size ≡ segment.size
  pub flags : heap.flags ≡ segment.flags
  pub top : extent_at heap.top segment.extents ≡ Some (extent heap.top heap.top_size Top)

-- they say the same as before
pub record HasSameHead {A : Type 0} (heap new : Dlmalloc A) : Type 0 where
  pub base : new.base ≡ heap.base
  pub size : new.size ≡ heap.size
  pub flags : new.flags ≡ heap.flags
  pub top : new.top ≡ heap.top
  pub top_size : new.top_size ≡ heap.top_size

-- the head segment, with none of its extents
abbrev pub bare_head : {A : Type 0} → Dlmalloc A → Segment
bare_head heap = record { base = heap.base; size = heap.size; flags = heap.flags; extents = [] }

module _ {A : Type 0} {regions regions' : List Grant} {old words : ℕ → ℕ} (heap new : Dlmalloc A) {segment segment' : Segment}
    (changed : IsChanged regions regions' old words segment segment') (next : new.next ≡ heap.next) where
  -- the head segment changed
  pub told_head : (front back : List Segment) → front ≡ [] → AreApart (front ++ segment ∷ back) → AreSegments regions old
      (front ++ segment ∷ back) → AreTold old heap (front ++ segment ∷ back) → IsHead new segment' → AreTold words new (front ++ segment' ∷ back)
  told_head [] back none apart parts h head = (
    head.some,
    head.base,
    head.size,
    head.flags,
    head.top,
    subst (λ p. AreRecords words p back) (sym next) (records_behind changed back apart.0 parts.1 heap.next h.5),
  )
  told_head (first ∷ front) back none apart parts h head = absurd (cc)

-- what the fields say stayed, if the segment has other extents
pub told_same : {A : Type 0} {regions regions' : List Grant} {old words : ℕ → ℕ} (heap new : Dlmalloc A) {segment : Segment} {extents : List Extent} →
    IsChanged regions regions' old words segment (with_extents segment extents) → new.next ≡ heap.next → (front back : List Segment) →
    AreApart (front ++ segment ∷ back) → AreSegments regions old (front ++ segment ∷ back) → AreTold old heap (front ++ segment ∷ back) →
    HasSameHead heap new → (extent_at heap.top segment.extents ≡ Some (extent heap.top heap.top_size Top) →
    extent_at heap.top extents ≡ Some (extent heap.top heap.top_size Top)) → AreTold words new (front ++ with_extents segment extents ∷ back)
told_same heap new {extents} changed next [] back apart parts h same top = told_head heap new changed next [] back refl apart parts h (record {
  some = subst (λ n. 0 < n) (sym same.size) h.0;
  base = same.base ∙ h.1;
  size = same.size ∙ h.2;
  flags = same.flags ∙ h.3;
  top = ap (λ t. extent_at t extents) same.top ∙ (top h.4 ∙ (λ i. Some (extent ((sym same.top) i) ((sym same.top_size) i) Top)));
})
told_same {words} heap new {segment} {extents} changed next (first ∷ front) back apart parts h same top = (
  subst (λ n. 0 < n) (sym same.size) h.0,
  same.base ∙ h.1,
  same.size ∙ h.2,
  same.flags ∙ h.3,
  ap (λ t. extent_at t first.extents) same.top ∙ (h.4 ∙ (λ i. Some (extent ((sym same.top) i) ((sym same.top_size) i) Top))),
  subst (λ p. AreRecords words p (front ++ with_extents segment extents ∷ back)) (sym next) (records_after changed front back apart.1 parts.1 heap.next h.5),
)

-- the fields describe the first of the segments
pub head_is : {A : Type 0} (word : A → ℕ → ℕ) (heap : Dlmalloc A) (front : List Segment) (segment : Segment) (back : List Segment) → front ≡ [] →
    segments_of word heap ≡ front ++ segment ∷ back → AreTold (word heap.system) heap (segments_of word heap) → IsHead heap segment
head_is word heap [] segment back none is told = let h = subst (AreTold (word heap.system) heap) is told in
    record { some = h.0; base = h.1; size = h.2; flags = h.3; top = h.4 }
head_is word heap (first ∷ front) segment back none is told = absurd (cc)

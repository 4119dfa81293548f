-- The words that extents do not write.
use Rattle.dlmalloc.proofs.Names.{◌≡◌, ◌≢◌, ℕ, ◌+◌, ◌<◌, ◌≤◌, true, List, [], ◌∷◌, ◌++◌, Some, IsTrue, refl, sym, subst, arith, Extent, Kind, Used, Free, Victim, Record, is_free_below_top, is_used, Tiles, IsSpared, AllSpare}
use Rattle.dlmalloc_chunks.specs.Tiling.{extent_at}
use Rattle.dlmalloc.proofs.Extents.Lookup.{found}
use Rattle.dlmalloc.proofs.Extents.Tiling.{sized, tiles_le, tiles_split}

-- those that one writes are its head, and the word after a free one
pub spared : (kind : Kind) (at size k : ℕ) → k ≢ at + 8 → (IsTrue (is_free_below_top kind) → k ≢ at + size) → IsSpared k kind at size
spared Free at size k head foot = (head, foot refl)
spared Victim at size k head foot = (head, foot refl)
spared kind at size k head foot = head

pub spared_before : (words : ℕ → ℕ) (before : Kind) (from : ℕ) (extents : List Extent) (to k : ℕ) →
    Tiles words before from extents to → k < from + 8 → AllSpare extents k
spared_before words before from [] to k h low = tt
spared_before words before from (extent ∷ extents) to k h low =
    let place = h.0 in let long = (sized extent.kind extent.size h.1.size).1 in (
      spared extent.kind extent.at extent.size k (λ is. omega arith) (λ free is. omega arith),
      spared_before words extent.kind (from + extent.size) extents to k h.2 (omega arith),
    )

pub spared_behind : (words : ℕ → ℕ) (before : Kind) (from : ℕ) (extents : List Extent) (to k : ℕ) →
    Tiles words before from extents to → to < k → AllSpare extents k
spared_behind words before from [] to k h high = tt
spared_behind words before from (extent ∷ extents) to k h high =
    let place = h.0 in let long = (sized extent.kind extent.size h.1.size).1 in
    let later = tiles_le words extent.kind (from + extent.size) extents to h.2 in (
      spared extent.kind extent.at extent.size k (λ is. omega arith) (λ free is. omega arith),
      spared_behind words extent.kind (from + extent.size) extents to k h.2 high,
    )

pub spared_append : (front back : List Extent) (k : ℕ) → AllSpare front k → AllSpare back k → AllSpare (front ++ back) k
spared_append [] back k one two = two
spared_append (extent ∷ front) back k one two = (one.0, spared_append front back k one.1 two)

pub spared_first : (front back : List Extent) (k : ℕ) → AllSpare (front ++ back) k → AllSpare front k
spared_first [] back k h = tt
spared_first (extent ∷ front) back k h = (h.0, spared_first front back k h.1)

pub spared_second : (front back : List Extent) (k : ℕ) → AllSpare (front ++ back) k → AllSpare back k
spared_second [] back k h = h
spared_second (extent ∷ front) back k h = spared_second front back k h.1

-- the words of an extent in use are at no boundary
inner : (kind : Kind) (at size k : ℕ) → is_used kind ≡ true → at + 16 ≤ k → IsSpared k kind at size
inner Used at size k used low = λ is. omega arith
inner Record at size k used low = λ is. omega arith
inner kind at size k used low = absurd (cc)

pub inner_spared : (words : ℕ → ℕ) (before : Kind) (from : ℕ) (extents : List Extent) (to : ℕ) {block : Extent} → Tiles words before from extents to →
    extent_at block.at extents ≡ Some block → is_used block.kind ≡ true → (k : ℕ) → block.at + 16 ≤ k → k < block.at + block.size + 8 → AllSpare extents k
inner_spared words before from extents to {block} h there used k low high =
    let f = found block.at block extents there in
    let s = tiles_split words before from f.front (block ∷ f.back) to (subst (λ es. Tiles words before from es to) f.is h) in
    let place : block.at ≡ s.middle = s.second.0 in
    subst (λ es. AllSpare es k) (sym f.is)
    (spared_append f.front (block ∷ f.back) k (spared_behind words before from f.front s.middle k s.first (omega arith)) (
      inner block.kind block.at block.size k used low,
      spared_before words block.kind (s.middle + block.size) f.back to k s.second.2 (omega arith),
    ))

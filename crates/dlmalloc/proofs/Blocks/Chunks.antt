-- The chunks of blocks.
use Rattle.dlmalloc.proofs.Names.{◌≡◌, ℕ, ◌+◌, ◌-◌, inl, inr, true, List, Some, sym, ◌∙◌, ap, subst, arith, Grant, Event, Used, HasHead, size_of, size_of-head_of, extent_at, extents_in, IsBlock, IsInside, HasOneMore, freed, IsSegment, segments_of, state_of, IsSound, IsTurned, IsDisposed, KeepsOrder, Dlmalloc}
use Rattle.dlmalloc.specs.Blocks.{IsPlaced, BlocksAreApart}
use Rattle.dlmalloc.proofs.Extents.Lookup.{extent, same_extent, found}
use Rattle.dlmalloc.proofs.Moves.OfLists.{standing}
use Rattle.dlmalloc.proofs.Segments.Among.{located, of_located}
use Rattle.dlmalloc.proofs.Blocks.WordsKept.{blocks_law}
use Rattle.dlmalloc.proofs.Laws.{used_inside, used_apart}

module _ {A : Type 0} {regions : A → List Grant} {word : A → ℕ → ℕ} {heap : Dlmalloc A} (sound : IsSound regions word heap) {ptr size : ℕ}
    (block : IsBlock (state_of word heap) ptr size) where
  -- where a block's chunk is, that it is found there, and that it lies in granted bytes
  pub block_place : block.extent.at ≡ ptr - 16
  block_place = (found (ptr - 16) block.extent (extents_in (state_of word heap)) block.there).place

  pub block_there : extent_at block.extent.at (extents_in (state_of word heap)) ≡ Some block.extent
  block_there = ap (λ a. extent_at a (extents_in (state_of word heap))) block_place ∙ block.there

  pub block_inside : IsInside (regions heap.system) block.extent
  block_inside = used_inside regions word heap sound block.extent block.used block_there

-- a block was freed
pub freed_block : {A : Type 0} {regions : A → List Grant} {word : A → ℕ → ℕ} {follows : A → List Event → A → Type 0} {old new : Dlmalloc A}
    (ptr : ℕ) → IsSound regions word old → state_of word new ≡ freed (state_of word old) (ptr - 16) → HasOneMore (state_of word new)
    (state_of word old) (ptr - 16) → IsTurned regions word follows old new → KeepsOrder regions word old new → IsDisposed regions word follows old ptr new
freed_block {word} {new} ptr sound state less moved order = record {
  state = state;
  less = less;
  kept = blocks_law sound moved.sound moved.words (extents_in (state_of word new)) (λ block there used. (less.kept block used there, there));
  words = moved.words;
  sound = moved.sound;
  regions_same = moved.regions_same;
  followed = moved.followed;
  order = order;
}

module _ {A : Type 0} (regions : A → List Grant) (word : A → ℕ → ℕ) (heap : Dlmalloc A) (sound : IsSound regions word heap) (ptr size : ℕ)
    (block : IsBlock (state_of word heap) ptr size) where
  place : block.extent.at ≡ ptr - 16
  place = block_place sound block

  inside : IsInside (regions heap.system) block.extent
  inside = block_inside sound block

  pub block_placed : IsPlaced (regions heap.system) ptr size
  block_placed = record {
    aligned = omega (arith, place, inside.whole);
    granted = λ k low high. inside.granted k (omega (arith, place)) (omega (arith, place, inside.long));
    small = omega (arith, place, inside.long, inside.high);
  }

  pub block_head : HasHead (regions heap.system) (ptr - 16)
  block_head = subst (HasHead (regions heap.system)) place (record {
    aligned = omega (arith, inside.whole);
    small = omega (arith, inside.high);
    granted = record { granted = inside.granted (block.extent.at + 8) (omega arith) (omega (arith, inside.long)); aligned = omega (arith, inside.whole) };
  })

  -- its head has the chunk's size
  pub block_chunk : (told : ℕ) → told ≡ size_of (word heap.system (ptr - 16 + 8)) →
      extent_at (ptr - 16) (extents_in (state_of word heap)) ≡ Some (extent (ptr - 16) told Used)
  block_chunk told is =
      let l = located block.extent.at (segments_of word heap) (block_there sound block) in
      let p = of_located (IsSegment (regions heap.system) (word heap.system)) l sound.segments in
      let s = standing (word heap.system) Used l.segment.base l.segment.extents (l.segment.base + l.segment.size) p.extents p.tail l.there block.used in
      let sizes : told ≡ block.extent.size = is ∙ (ap (λ a. size_of (word heap.system (a + 8))) (sym place)
      ∙ (ap size_of s.head ∙ size_of-head_of block.extent.size s.before true (omega arith))) in
      block.there ∙ (λ i. Some (same_extent {at = block.extent.at} {at' = ptr - 16} {size = block.extent.size} {size' = told} {kind = block.extent.kind}
      {kind' = Used} place (sym sizes) block.used i))

-- two blocks are apart, and from each other's head
pub blocks_apart : {A : Type 0} {regions : A → List Grant} {word : A → ℕ → ℕ} {heap : Dlmalloc A} →
    IsSound regions word heap → BlocksAreApart (state_of word heap)
blocks_apart {regions} {word} {heap} sound a m b n one two differ =
    let at_a = block_place sound one in let at_b = block_place sound two in
    let long_a = (block_inside sound one).long in let long_b = (block_inside sound two).long in
    let holds_a = one.holds in let holds_b = two.holds in let low_a = one.low in let low_b = two.low in
    elim (used_apart regions word heap sound one.extent two.extent (block_there sound one) (block_there sound two) (λ same. differ (omega arith))) [
      | inl before ↦ inl (omega arith)
      | inr behind ↦ inr (omega arith)
    ]

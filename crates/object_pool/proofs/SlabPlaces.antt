-- Slabs of a heap: where the objects of their slots lie, and what the heap's calls leave of them.
use Rattle.std.proofs.Common.{◌≡◌, ◌≢◌, ℕ, ◌+◌, ◌-◌, ◌*◌, ◌/◌, ◌%◌, ◌^◌, ◌<◌, ◌≤◌, inl, inr, List, [], ◌∷◌, ◌++◌, length, length-append, slice_index, sym, ap, ◌∙◌, subst, arith, Bool, true, false, if◌then◌else◌, ◌==◌}
use Rattle.std.proofs.lemmas.List.{get_or_append_left}
use Rattle.std.proofs.Math.Seq.{get_or-append_seam}
use Rattle.std.proofs.lemmas.Nat.{mul-le}
use Rattle.heap_memory.specs.declared.grant.Grant.{Grant}
use Rattle.heap_memory.specs.Events.{Event}
use Rattle.dlmalloc_chunks.specs.Request.{limit}
use Rattle.dlmalloc_chunks.proofs.Powers.{power_small}
use Rattle.dlmalloc.specs.State.{HeapState}
use Rattle.dlmalloc.specs.Blocks.{IsBlock, ArePlaced, BlocksAreApart}
use Rattle.dlmalloc.specs.Heap.{state_of, IsGranularity}
use Rattle.dlmalloc.specs.Requested.{IsHandedOut}
use Rattle.dlmalloc.specs.declared.heap.Dlmalloc.{Dlmalloc}
use Rattle.object_pool.specs.Bytes.{bytes_at, AreGranted, IsWritten}
use Rattle.sound_heap.specs.Heap.{AreInBlock, StaysInState}
use Rattle.object_pool.specs.Pool.{slot_address, object_bytes_at, AreSlabsLaidOut, KeepsOtherBlocks, PlacesAreApart}
use Rattle.object_pool.proofs.ByteRuns.{bytes_same, bytes_are}
use Rattle.object_pool.proofs.HeapBlocks.{handed_keeps, handed_fresh, written_keeps}
use Rattle.object_pool.proofs.Numbers.{lt_or_le, same_or_other}

-- ---- where objects lie

-- one object more
next_place : (size r s : ℕ) → r < s → size * r + size ≤ size * s
next_place size r s less =
    let grown : size * (r + 1) ≤ size * s = mul-le size (r + 1) size s (omega arith) (omega arith) in
    let one : size * (r + 1) ≡ size * r + size = grind arith in
    omega (arith, grown, one)

module _ {A : Type 0} (regions : A → List Grant) (word : A → ℕ → ℕ) (heap : Dlmalloc A) (size : ℕ) (slabs : List ℕ)
    (laid : AreSlabsLaidOut regions word heap size slabs) where
  slab_there : (index : ℕ) → index < 64 * length slabs → index / 64 < length slabs
  slab_there index less = omega (arith, less)

  -- the block of an index's slab
  pub slab_block : (index : ℕ) → index < 64 * length slabs → IsBlock (state_of word heap) (slice_index slabs (index / 64)) (64 * size)
  slab_block index less = laid.blocks (index / 64) (slab_there index less)

  -- the place of an index ends in its slab
  pub place_ends : (index : ℕ) → slot_address slabs size index + size ≤ slice_index slabs (index / 64) + 64 * size
  place_ends index =
      let next = next_place size (index % 64) 64 (omega arith) in
      let turned : size * 64 ≡ 64 * size = grind arith in
      omega (arith, next, turned)

  pub place_granted : ArePlaced (regions heap.system) (state_of word heap) → (index : ℕ) → index < 64 * length slabs →
      AreGranted (regions heap.system) (slot_address slabs size index) size
  place_granted placed index less k from to =
      let end = place_ends index in
      (placed (slice_index slabs (index / 64)) (64 * size) (slab_block index less)).granted k (omega (arith, from)) (omega (arith, to, end))

  pub places_apart : BlocksAreApart (state_of word heap) → PlacesAreApart slabs size
  places_apart apart i j less_i less_j differ =
      let end_i = place_ends i in
      let end_j = place_ends j in
      elim (same_or_other (i / 64) (j / 64)) [
        | inl same ↦ (
            let start : slice_index slabs (i / 64) ≡ slice_index slabs (j / 64) = ap (slice_index slabs) same in
            elim (lt_or_le (i % 64) (j % 64)) [
              | inl before ↦ (let next = next_place size (i % 64) (j % 64) before in inl (omega (arith, start, next)))
              | inr behind ↦ (let next = next_place size (j % 64) (i % 64) (omega (arith, same, differ, behind)) in inr (omega (arith, start, next)))
            ])
        | inr other ↦ elim (apart (slice_index slabs (i / 64)) (64 * size) (slice_index slabs (j / 64)) (64 * size) (slab_block i less_i) (slab_block j less_j)
            (laid.distinct (i / 64) (j / 64) (slab_there i less_i) (slab_there j less_j) other)) [
              | inl before ↦ inl (omega (arith, end_i, before))
              | inr behind ↦ inr (omega (arith, end_j, behind))
            ]
      ]

  -- ---- an object is written

  pub object_inside : (index : ℕ) → index < 64 * length slabs → (count at : ℕ) → count ≡ size →
      at ≡ slot_address slabs size index → AreInBlock (state_of word heap) at count
  object_inside index less count at many is =
      let end = place_ends index in
      record {
        block = slice_index slabs (index / 64);
        size = 64 * size;
        is = slab_block index less;
        low = omega (arith, is);
        within = omega (arith, is, many, end);
      }

  module _ (placed : ArePlaced (regions heap.system) (state_of word heap)) (apart : BlocksAreApart (state_of word heap)) (follows : A → List Event → A → Type 0)
      (index : ℕ) (less : index < 64 * length slabs) (new : Dlmalloc A) (stays : StaysInState regions word follows heap new)
      (bytes : List ℕ) (many : length bytes ≡ size)
      (written : IsWritten (regions heap.system) (word heap.system) (slot_address slabs size index) bytes (length bytes) (word new.system)) where
    within : slot_address slabs size index + length bytes ≤ slice_index slabs (index / 64) + 64 * size
    within = let end = place_ends index in omega (arith, end, many)

    pub written_laid : AreSlabsLaidOut regions word new size slabs
    written_laid = record {
      some = laid.some;
      small = laid.small;
      blocks = λ i there. subst (λ (h : HeapState). IsBlock h (slice_index slabs i) (64 * size)) (sym stays.state) (laid.blocks i there);
      distinct = laid.distinct;
    }

    pub written_here : object_bytes_at word new slabs size index ≡ bytes
    written_here = subst (λ n. bytes_at (word new.system) (slot_address slabs size index) n ≡ bytes) many
        (bytes_are (word new.system) (slot_address slabs size index) bytes written.here)

    pub written_others : (other : ℕ) → other < 64 * length slabs → other ≢ index →
        object_bytes_at word new slabs size other ≡ object_bytes_at word heap slabs size other
    written_others other there differ = bytes_same (word heap.system) (word new.system) (slot_address slabs size other) size (λ k below.
        written.elsewhere (slot_address slabs size other + k) (place_granted placed other there (slot_address slabs size other + k) (omega arith) (omega arith))
        (elim (places_apart apart other index there less differ) [
          | inl before ↦ inl (omega (arith, before, below))
          | inr
              behind ↦ inr (omega (arith, behind, many))
        ]))

    pub written_kept : KeepsOtherBlocks word slabs heap new
    written_kept address n block none =
        written_keeps regions word heap new (slice_index slabs (index / 64)) (64 * size) (slab_block index less) placed
        (slot_address slabs size index) bytes (length bytes) (omega arith) within written apart stays.state
        address n block (λ e. none (index / 64) (slab_there index less) (sym e))

  -- ---- a slab more

  module _ (follows : A → List Event → A → Type 0) (new : Dlmalloc A) (address : ℕ) (placed : ArePlaced (regions heap.system) (state_of word heap))
      (out : IsHandedOut regions word follows heap (64 * size) 16 address new) where
    slab_other : (i : ℕ) → i < length slabs → slice_index slabs i ≢ address
    slab_other i there same = handed_fresh regions word follows heap new (64 * size) 16 address placed out (64 * size)
        (subst (λ a. IsBlock (state_of word heap) a (64 * size)) same (laid.blocks i there))

    front : (i : ℕ) → i < length slabs → slice_index (slabs ++ address ∷ []) i ≡ slice_index slabs i
    front i there = get_or_append_left slabs (address ∷ []) 0 i there

    last : slice_index (slabs ++ address ∷ []) (length slabs) ≡ address
    last = get_or-append_seam slabs address [] 0

    last_is : (i : ℕ) → i < length (slabs ++ address ∷ []) → length slabs ≤ i → slice_index (slabs ++ address ∷ []) i ≡ address
    last_is i there past =
        let many = length-append slabs (address ∷ []) in
        let is : length slabs ≡ i = omega (arith, many) in
        subst (λ j. slice_index (slabs ++ address ∷ []) j ≡ address) is last

    pub added_laid : AreSlabsLaidOut regions word new size (slabs ++ address ∷ [])
    added_laid = record {
      some = laid.some;
      small = laid.small;
      blocks = λ i there. elim (lt_or_le i (length slabs)) [
        | inl old ↦ subst (λ a. IsBlock (state_of word new) a (64 * size)) (sym (front i old))
            (handed_keeps regions word follows heap new (64 * size) 16 address placed out (slice_index slabs i) (64 * size)
            (laid.blocks i old)).block
        | inr past ↦ subst (λ a. IsBlock (state_of word new) a (64 * size)) (sym (last_is i there past)) out.block
      ];
      distinct = λ i j there_i there_j differ. elim (lt_or_le i (length slabs)) [
        | inl old_i ↦ elim (lt_or_le j (length slabs)) [
          | inl old_j ↦ (λ e. laid.distinct i j old_i old_j differ (sym (front i old_i) ∙ (e ∙ front j old_j)))
          | inr past_j ↦ (λ e. slab_other i old_i (sym (front i old_i) ∙ (e ∙ last_is j there_j past_j)))
        ]
        | inr past_i ↦ elim (lt_or_le j (length slabs)) [
          | inl old_j ↦ (λ e. slab_other j old_j (sym (front j old_j) ∙ (sym e ∙ last_is i there_i past_i)))
          | inr past_j ↦ absurd (differ (let many = length-append slabs (address ∷ []) in omega (arith, many, there_i, there_j)))
        ]
      ];
    }

-- a slab is never too large
pub never_large : (granularity size : ℕ) → IsGranularity granularity → granularity < 2 ^ 64 → size ≤ 262144 → size < limit granularity
unfolding limit
never_large granularity size is fits small = go (granularity == 16) (power_small granularity is.0 fits)
  where
    go : (b : Bool) → granularity ≤ 2 ^ 63 → size < (if b then 2 ^ 64 - 135 else 2 ^ 64 - granularity - 103)
    go true most = omega (arith, small)
    go false most = omega (arith, small, most)

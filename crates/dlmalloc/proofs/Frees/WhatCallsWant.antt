-- What the calls want when a chunk is freed.
use Rattle.dlmalloc.proofs.Names.{◌≡◌, ◌≢◌, ℕ, ◌+◌, ◌-◌, ◌%◌, ◌^◌, ◌<◌, ◌≤◌, Bool, true, false, ◌==◌, if◌then◌else◌, List, [], ◌∷◌, Some, refl, sym, ◌∙◌, ap, arith, nat_tests, Grant, HasHead, HasFoot, Used, size_of, pinuse_of, free_of, extents_in, HasChunk, last_kind, IsRunOf, segments_of, state_of, IsSound, Dlmalloc}
use Rattle.dlmalloc_chunks.specs.Tiling.{extent_at}
use Rattle.dlmalloc.proofs.Extents.Lookup.{extent, end_of, nat_is}
use Rattle.dlmalloc.proofs.Extents.Tiling.{tiles_le}
use Rattle.dlmalloc.proofs.Extents.RunReplaced.{run_part, run_word}
use Rattle.dlmalloc.proofs.Frees.FreeBeside.{IsFrom, IsTo, Left, begins_whole, left_at, with_left}
pub use Rattle.dlmalloc.proofs.Frees.Behind.{next_top, no_top}
use Rattle.dlmalloc.proofs.Frees.Behind.{run_one}
use Rattle.dlmalloc.proofs.Cuts.ChunkPlace.{room, head_at, foot_at}
use Rattle.dlmalloc.proofs.Frees.OfChunk.{below_top, end_small}

module _ {A : Type 0} {regions : A → List Grant} {word : A → ℕ → ℕ} {heap : Dlmalloc A} (sound : IsSound regions word heap) {at size : ℕ}
    (there : extent_at at (extents_in (state_of word heap)) ≡ Some (extent at size Used)) where
  abbrev words : ℕ → ℕ
  words = word heap.system

  abbrev one : IsRunOf words (segments_of word heap) at (at + size) ((extent at size Used) ∷ [])
  one = run_one sound there

  stands : HasChunk words (last_kind Used one.first) (extent at size Used)
  stands = one.here.1

  pub head_there : HasHead (regions heap.system) at
  head_there = head_at sound there refl at (omega arith) (omega arith) (omega (arith, stands.whole))

  pub foot_there : HasFoot (regions heap.system) at
  foot_there = foot_at sound there refl at (omega arith) (omega arith) (omega (arith, stands.whole))

  pub behind_there : HasHead (regions heap.system) (at + size)
  behind_there = head_at sound there refl (at + size) (omega arith) (omega arith) (omega (arith, stands.whole, stands.size.0))

  pub behind_small : at + size < 2 ^ 64
  behind_small = omega (arith, behind_there.small)

  -- a free chunk after it ends below 2 ^ 64
  pub end_below : at + size ≢ heap.top → free_of (words (at + size + 8)) ≡ true → at + size + size_of (words (at + size + 8)) < 2 ^ 64
  end_below more free =
      let apart : (at + size == heap.top) ≡ false = (let on = more in grind (arith, nat_tests)) in
      let is : end_of words (at + size) ≡ at + size + size_of (words (at + size + 8)) =
      ap (λ b. if b then at + size + size_of (words (at + size + 8)) else at + size) free in
      let to : at + size + size_of (words (at + size + 8)) ≡ (if at + size == heap.top then at + size else end_of words (at + size)) =
      sym is ∙ ap (λ b. if b then at + size else end_of words (at + size)) (sym apart) in
      end_small sound there {from = if pinuse_of (words (at + 8)) then at else at - words at} refl to more

  module _ {from : ℕ} (from_is : IsFrom words at from) where
    pub left_one : Left words one.segment.base one.first at from
    left_one = left_at one from_is

    pub from_at : from ≤ at
    from_at = tiles_le words Used from left_one.lefts at left_one.lefts_stand

    pub from_low : one.segment.base ≤ from
    from_low = tiles_le words Used one.segment.base left_one.front from left_one.front_stand

    pub foot_fits : pinuse_of (words (at + 8)) ≡ false → words at ≤ at
    foot_fits unused =
        let is : from ≡ at - words at = from_is ∙ ap (λ b. if b then at else at - words at) unused in
        omega (arith, from_low, (run_part (regions heap.system) sound.segments one).low)

    from_whole : from % 16 ≡ 0
    from_whole = begins_whole words (last_kind Used left_one.front) from left_one.lefts (extent at size Used) [] (at + size)
        (with_left words (segments_of word heap) one left_one).here

    pub from_there : HasHead (regions heap.system) from
    from_there = record {
      aligned = omega (arith, from_whole);
      small = omega (arith, from_at, head_there.small);
      granted = run_word (regions heap.system) sound.segments one (from + 8) (omega (arith, from_low)) (omega (arith, from_at, room sound there refl))
          (omega (arith, from_whole));
    }

    module _ {to : ℕ} (to_is : IsTo words heap.top (at + size) to) where
      by_top : (b : Bool) → (at + size == heap.top) ≡ b → to ≡ (if b then at + size else end_of words (at + size))
      by_top b is = to_is ∙ ap (λ b. if b then at + size else end_of words (at + size)) is

      pub touches : to ≡ heap.top → at + size ≡ heap.top
      touches is = go (at + size == heap.top) refl
        where
          go : (b : Bool) → (at + size == heap.top) ≡ b → at + size ≡ heap.top
          go true same = nat_is same
          go false apart = absurd (below_top sound there from_is to_is (grind (arith, nat_tests)) is)

      pub goes_on : to ≢ heap.top → at + size ≢ heap.top
      goes_on isnt same = isnt (by_top true (grind (arith, nat_tests)) ∙ same)

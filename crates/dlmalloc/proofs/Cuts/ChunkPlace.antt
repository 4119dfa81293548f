-- Where an extent stands that ends no segment: its head and its foot are granted, and so is the head after it.
use Rattle.dlmalloc.proofs.Names.{◌≡◌, ℕ, ◌+◌, ◌%◌, ◌^◌, ◌<◌, ◌≤◌, false, List, [], ◌∷◌, Some, arith, Grant, HasHead, HasFoot, Extent, Used, ends_segment, extent_at, extents_in, IsRunOf, segments_of, state_of, IsSound, Dlmalloc}
use Rattle.dlmalloc.proofs.Extents.Tiling.{sized, tiles_le}
use Rattle.dlmalloc.proofs.Extents.RunReplaced.{run_of, has_next, behind, run_part, run_word}

module _ {A : Type 0} {regions : A → List Grant} {word : A → ℕ → ℕ} {heap : Dlmalloc A} (sound : IsSound regions word heap) {one : Extent}
    (there : extent_at one.at (extents_in (state_of word heap)) ≡ Some one) (inner : ends_segment one.kind ≡ false) where
  abbrev run : IsRunOf (word heap.system) (segments_of word heap) one.at (one.at + one.size) (one ∷ [])
  run = run_of (regions heap.system) (word heap.system) (segments_of word heap) sound.segments there

  pub low : run.segment.base ≤ one.at
  low = tiles_le (word heap.system) Used run.segment.base run.first one.at run.first_stand

  pub room : one.at + one.size + 16 ≤ run.segment.base + run.segment.size
  room =
      let n = has_next (regions heap.system) sound.segments run inner in
      let stand = behind (regions heap.system) sound.segments run n in
      let long = (sized n.next.kind n.next.size stand.1.size).1 in
      let high = tiles_le (word heap.system) n.next.kind (one.at + one.size + n.next.size) n.rest (run.segment.base + run.segment.size) stand.2 in
      omega arith

  pub end_small : one.at + one.size + 16 < 2 ^ 64
  end_small = omega (arith, room, (run_part (regions heap.system) sound.segments run).high)

  pub head_at : (k : ℕ) → one.at ≤ k → k ≤ one.at + one.size → k % 8 ≡ 0 → HasHead (regions heap.system) k
  head_at k above below m = record {
    aligned = m;
    small = omega (arith, end_small);
    granted = run_word (regions heap.system) sound.segments run (k + 8) (omega (arith, low)) (omega (arith, room)) (omega arith);
  }

  pub foot_at : (k : ℕ) → one.at ≤ k → k ≤ one.at + one.size → k % 8 ≡ 0 → HasFoot (regions heap.system) k
  foot_at k above below m = record {
    aligned = m;
    small = omega (arith, end_small);
    granted = run_word (regions heap.system) sound.segments run k (omega (arith, low)) (omega (arith, room)) m;
  }

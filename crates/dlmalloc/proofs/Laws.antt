-- Laws of a sound heap, for the layers above it.
use Rattle.std.proofs.Common.{◌≡◌, ◌≢◌, ℕ, ◌+◌, ◌≤◌, ◌⊎◌, List, [], ◌∷◌, Some, ap, arith, refl}
use Rattle.std.specs.List.{AllByRecursion}
use Rattle.heap_memory.specs.declared.grant.Grant.{Grant}
use Rattle.heap_memory.specs.Events.{Event}
use Rattle.heap_memory.specs.Regions.{IsWordOf}
use Rattle.dlmalloc_chunks.specs.declared.extent.Extent.{Extent}
use Rattle.dlmalloc_chunks.specs.declared.extent.Kind.TheVariants.{Used}
use Rattle.dlmalloc.specs.Extents.{extent_at}
use Rattle.dlmalloc.specs.State.{Segment, extents_in}
use Rattle.dlmalloc.specs.Blocks.{IsInside}
use Rattle.dlmalloc.specs.Segments.{IsSegment}
use Rattle.bins.specs.Laws.{IndexStays}
use Rattle.dlmalloc.specs.Binned.{IsBinned}
use Rattle.dlmalloc.specs.Heap.{segments_of, state_of, IsSound}
use Rattle.dlmalloc.specs.Grown.{IsAsItWas}
use Rattle.dlmalloc.specs.Resting.{regions_in, KeepsRegions}
use Rattle.dlmalloc.specs.declared.heap.Dlmalloc.{Dlmalloc}
use Rattle.dlmalloc.proofs.Moves.OfLists.{standing}
use Rattle.dlmalloc.proofs.Segments.Among.{located, of_located}
use Rattle.dlmalloc.proofs.Extents.Disjoint.{beside}
use Rattle.dlmalloc.proofs.Blocks.WordsOutside.{still_sound, still_state, still_binned}

module _ {A : Type 0} (regions : A → List Grant) (word : A → ℕ → ℕ) (heap : Dlmalloc A) (sound : IsSound regions word heap) where
  -- an extent in use stands in granted bytes, in whole units of 16 bytes
  pub used_inside : (used : Extent) → used.kind ≡ Used → extent_at used.at (extents_in (state_of word heap)) ≡ Some used → IsInside (regions heap.system) used
  used_inside used is there =
      let l = located used.at (segments_of word heap) there in
      let p = of_located (IsSegment (regions heap.system) (word heap.system)) l sound.segments in
      let s = standing (word heap.system) Used l.segment.base l.segment.extents (l.segment.base + l.segment.size) p.extents p.tail l.there is in
      let base = p.low in let end = p.high in let low = s.low in let high = s.high in
      record {
        granted = λ k above below. p.run.covered k (omega arith) (omega arith);
        low = omega arith;
        high = omega arith;
        whole = s.whole;
        size_whole = s.size_whole;
        long = s.long;
      }

  -- two extents in use have no byte in common
  pub used_apart : (a b : Extent) → extent_at a.at (extents_in (state_of word heap)) ≡ Some a →
      extent_at b.at (extents_in (state_of word heap)) ≡ Some b → a.at ≢ b.at → (a.at + a.size ≤ b.at) ⊎ (b.at + b.size ≤ a.at)
  used_apart a b there_a there_b other = beside (regions heap.system) (word heap.system) (segments_of word heap)
      sound.segments sound.apart there_a there_b other

  -- a system with the same regions has those of the segments
  pub same_regions : (system : A) → regions system ≡ regions heap.system → KeepsRegions (segments_of word heap) (regions heap.system) (regions system)
  same_regions system same = go (segments_of word heap)
    where
      go : (segments : List Segment) → AllByRecursion (λ segment. regions_in segment (regions system) ≡ regions_in segment (regions heap.system)) segments
      go [] = tt
      go (segment ∷ segments) = (ap (regions_in segment) same, go segments)

  -- a refusal leaves all as it was
  pub as_it_was : IndexStays → {follows : A → List Event → A → Type 0} {refuses : A → A → Type 0} {events : List Event} {system : A} →
      regions system ≡ regions heap.system → ((k : ℕ) → IsWordOf (regions heap.system) k → word system k ≡ word heap.system k) →
      follows heap.system events system → refuses heap.system system → IsAsItWas regions word follows refuses events heap (record heap { system = system })
  as_it_was stays {system} same words followed denied = record {
    followed = followed;
    refused = denied;
    state = still_state sound system (same_regions system same) (λ k inside there apart. words k inside);
    sound = still_sound sound system (same_regions system same) (λ k inside there apart. words k inside);
    regions_same = same;
    words = words;
    index = λ b. (still_binned sound system (same_regions system same) (λ k inside there apart. words k inside) stays b, λ n. refl);
  }

  abbrev pub as_binned : IndexStays → (system : A) → regions system ≡ regions heap.system → ((k : ℕ) → IsWordOf (regions heap.system) k →
      word system k ≡ word heap.system k) → IsBinned regions word heap → IsBinned regions word (record heap { system = system })
  as_binned stays system same words = still_binned sound system (same_regions system same) (λ k inside there apart. words k inside) stays

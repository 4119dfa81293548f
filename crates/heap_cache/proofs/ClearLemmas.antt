-- Words of one block are written, and nothing else.
use Rattle.std.proofs.Common.{◌≡◌, ◌≢◌, ℕ, ◌+◌, ◌-◌, ◌*◌, ◌%◌, ◌<◌, ◌≤◌, ◌⊎◌, List, [], Some, inl, inr, arith, ap, sym, subst, ◌∙◌}
use Rattle.heap_memory.specs.declared.grant.Grant.{Grant}
use Rattle.heap_memory.specs.Events.{Event}
use Rattle.heap_memory.specs.Regions.{IsWordOf}
use Rattle.heap_memory.specs.Words.{IsBeside}
use Rattle.dlmalloc_chunks.specs.declared.extent.Extent.{Extent}
use Rattle.dlmalloc.specs.Extents.{extent_at}
use Rattle.dlmalloc.specs.State.{HeapState, extents_in}
use Rattle.dlmalloc.specs.Heap.{state_of}
use Rattle.dlmalloc.specs.Blocks.{IsBlock, HasBlock, usable, IsInside}
use Rattle.dlmalloc.specs.Binned.{IsIntact}
use Rattle.dlmalloc.specs.Written.{words_in}
use Rattle.dlmalloc.specs.Resting.{RestsOutside, OrderRestsOutside}
use Rattle.dlmalloc.specs.declared.heap.Dlmalloc.{Dlmalloc}
use Rattle.dlmalloc.proofs.Laws.{same_regions, used_inside, used_apart}
use Rattle.dlmalloc.proofs.Blocks.Words.{only_block}
use Rattle.sound_heap.specs.Heap.{StaysInState}
use Rattle.heap_cache.specs.Held.{IsLive}
use Rattle.heap_cache.specs.Live.{IsOtherBlock, KeepBytes, HasOneMoreLive, IsGained}
use Rattle.heap_cache.proofs.LiveLemmas.{place, there, in_block}

module _ {A : Type 0} (regions : A → List Grant) (word : A → ℕ → ℕ) (heap : Dlmalloc A) (intact : IsIntact regions word heap) (address size : ℕ)
    (block : IsBlock (state_of word heap) address size) (n : ℕ) (less : n ≤ size) (system : A) (same : regions system ≡ regions heap.system)
    (elsewhere : (other : ℕ) → IsWordOf (regions heap.system) other → IsBeside address (words_in n) other → word system other ≡ word heap.system other) where
  pub written_intact : RestsOutside regions word heap → IsIntact regions word (record heap { system = system })
  written_intact rests =
      let still = rests intact.sound system (same_regions regions word heap intact.sound system same) (only_block intact.sound block n less (word system) elsewhere) in
      record { sound = still.0; linked = still.2 intact.linked }

  pub written_stays : (follows : A → List Event → A → Type 0) → follows heap.system [] system → RestsOutside regions word heap → OrderRestsOutside regions word heap → StaysInState regions word follows heap (record heap { system = system })
  written_stays follows followed rests order =
      let outside = only_block intact.sound block n less (word system) elsewhere in
      let stay = same_regions regions word heap intact.sound system same in
      record { state = (rests intact.sound system stay outside).1; regions_same = same; followed = followed; index = order intact.sound system stay outside }

  -- the other blocks keep their bytes
  pub written_others : RestsOutside regions word heap → KeepBytes word heap (record heap { system = system }) (IsOtherBlock (state_of word heap) address)
  written_others rests = record {
    sizes = λ other is. ap (λ (state : HeapState). usable state other) state;
    words = λ other k is low high whole. words other k is low high whole;
  }
    where
      state : state_of word (record heap { system = system }) ≡ state_of word heap
      state = (rests intact.sound system (same_regions regions word heap intact.sound system same) (only_block intact.sound block n less (word system) elsewhere)).1

      words : (other k : ℕ) → IsOtherBlock (state_of word heap) address other → other ≤ k → k < other + usable (state_of word heap) other → k % 8 ≡ 0 → word system k ≡ word heap.system k
      words other k is low high whole =
          let one = is.0.1.extent in
          let at = place (state_of word heap) other is.0 in
          let mine : block.extent.at ≡ address - 16 = place (state_of word heap) address (size, block) in
          let one_there = there (state_of word heap) other is.0 in
          let mine_there : extent_at block.extent.at (extents_in (state_of word heap)) ≡ Some block.extent = there (state_of word heap) address (size, block) in
          let within = in_block word heap heap other is.0 one_there k low high in
          let inside = used_inside regions word heap intact.sound one is.0.1.used one_there in
          let mine_inside = used_inside regions word heap intact.sound block.extent block.used mine_there in
          elsewhere k (record { granted = inside.granted k (omega (arith, within.0)) (omega (arith, within.1)); aligned = whole })
          (elim (used_apart regions word heap intact.sound one block.extent one_there mine_there (λ same. is.1 (omega (arith, same, at, mine, is.0.1.low, block.low)))) [
            | inl before ↦ inl (omega (arith, before, mine, block.low, within.1))
            | inr behind ↦ inr (omega (arith, behind, mine, block.low, within.0, less, block.holds, mine_inside.size_whole))
          ])

-- a block that callers got is theirs still once its words were written
pub gained_written : {A : Type 0} (regions : A → List Grant) (word : A → ℕ → ℕ) (follows : A → List Event → A → Type 0) (old : Dlmalloc A) (rows : List ℕ) (address : ℕ) (middle : Dlmalloc A) (rows' : List ℕ) (new : Dlmalloc A) →
    IsGained word old rows address middle rows' → StaysInState regions word follows middle new → KeepBytes word middle new (IsOtherBlock (state_of word middle) address) → IsGained word old rows address new rows'
gained_written regions word follows old rows address middle rows' new gained stays others = record {
  live = subst (λ (state : HeapState). HasOneMoreLive (state_of word old) rows state rows' address) (sym stays.state) gained.live;
  bytes = record {
    sizes = λ block live. others.sizes block (other block live) ∙ gained.bytes.sizes block live;
    words = λ block k live low high whole.
        let size = gained.bytes.sizes block live in
        others.words block k (other block live) low (omega (arith, high, size)) whole ∙ gained.bytes.words block k live low high whole;
  };
}
  where
    other : (block : ℕ) → IsLive (state_of word old) rows block → IsOtherBlock (state_of word middle) address block
    other block live = ((gained.live.kept block live).0, λ same. gained.live.new (subst (λ (k : ℕ). IsLive (state_of word old) rows k) same live))

-- The words of a block.
use Rattle.dlmalloc.proofs.Names.{◌≡◌, ℕ, ◌+◌, ◌-◌, ◌*◌, ◌/◌, ◌%◌, ◌<◌, ◌≤◌, inl, inr, List, [], Some, ◌∙◌, ap, arith, Grant, Event, IsWordOf, AreWordsOf, IsBeside, Extent, Used, extent_at, extents_in, IsBlock, IsInside, KeepsBlocks, IndexStays, IsBinned, state_of, IsSound, OnlyBlocksChange, IsHandedOut, words_in, IsSameHeap, Dlmalloc}
use Rattle.dlmalloc.proofs.Laws.{used_inside, used_apart, same_regions}
use Rattle.dlmalloc.proofs.Blocks.Chunks.{block_place, block_there, block_inside}
use Rattle.dlmalloc.proofs.Blocks.WordsOutside.{still_sound, still_state, still_binned}

module _ {A : Type 0} {regions : A → List Grant} {word : A → ℕ → ℕ} {heap : Dlmalloc A} (sound : IsSound regions word heap) {address size : ℕ}
    (block : IsBlock (state_of word heap) address size) where
  place : block.extent.at ≡ address - 16
  place = block_place sound block

  inside : IsInside (regions heap.system) block.extent
  inside = block_inside sound block

  fits : (n : ℕ) → n ≤ size → 8 * words_in n + 8 ≤ block.extent.size
  fits n less = omega (arith, inside.size_whole)

  -- the words that hold its first bytes
  pub block_words : (n : ℕ) → n ≤ size → AreWordsOf (regions heap.system) address (words_in n)
  block_words n less = record {
    granted = λ k low high. inside.granted k (omega (arith, place)) (omega (arith, place, fits n less));
    aligned = omega (arith, place, inside.whole);
    small = omega (arith, place, fits n less, inside.high);
  }

  -- if only they change, only words of blocks do
  pub only_block : (n : ℕ) → n ≤ size → (new : ℕ → ℕ) → ((other : ℕ) → IsWordOf (regions heap.system) other → IsBeside address
      (words_in n) other → new other ≡ word heap.system other) → OnlyBlocksChange (regions heap.system) (state_of word heap) (word heap.system) new
  only_block n less new elsewhere k is within apart =
      elsewhere k is (elim (apart block.extent block.used (block_there sound block)) [
        | inl before ↦ inl (omega (arith, place))
        | inr behind ↦ inr (omega (arith, place, fits n less))
      ])

  pub same_heap : (follows : A → List Event → A → Type 0) (n : ℕ) → n ≤ size → (system : A) → regions system ≡ regions heap.system →
      follows heap.system [] system → ((other : ℕ) → IsWordOf (regions heap.system) other → IsBeside address (words_in n) other →
      word system other ≡ word heap.system other) → IsSameHeap regions word follows heap (record heap { system = system })
  same_heap follows n less system same followed elsewhere =
      let outside = only_block n less (word system) elsewhere in
      let stay = same_regions regions word heap sound system same in
      record {
        state = still_state sound system stay outside;
        sound = still_sound sound system stay outside;
        regions_same = same;
        followed = followed;
      }

  abbrev pub same_binned : IndexStays → (n : ℕ) → n ≤ size → (system : A) → regions system ≡ regions heap.system →
      ((other : ℕ) → IsWordOf (regions heap.system) other → IsBeside address (words_in n) other → word system other ≡ word heap.system other) →
      IsBinned regions word heap → IsBinned regions word (record heap { system = system })
  same_binned stays n less system same elsewhere = still_binned sound system
      (same_regions regions word heap sound system same) (only_block n less (word system) elsewhere) stays

-- if of a block that was handed out only the first words are written, those before it keep their words
pub written_kept : {A : Type 0} {regions : A → List Grant} {word : A → ℕ → ℕ} {follows : A → List Event → A → Type 0} {old middle : Dlmalloc A}
    {size align address : ℕ} → IsHandedOut regions word follows old size align address middle → (n : ℕ) → n ≤ size → {new : ℕ → ℕ} →
    ((k : ℕ) → IsWordOf (regions middle.system) k → IsBeside address (words_in n) k → new k ≡ word middle.system k) →
    KeepsBlocks (extents_in (state_of word old)) (word old.system) new
written_kept {regions} {word} {old} {middle} {address} handed n less {new} elsewhere = record {
  words = λ other there used k low high m. stays other there used k (omega arith) high m ∙ handed.kept.words other there used k low high m;
  heads = λ other there used.
      let whole = (inside other there used).whole in let long = (inside other there used).long in
      ap (λ w. w / 2) (stays other there used (other.at + 8) (omega arith) (omega arith) (omega arith)) ∙ handed.kept.heads other there used;
}
  where
    inside : (other : Extent) → extent_at other.at (extents_in (state_of word old)) ≡ Some other → other.kind ≡ Used → IsInside (regions middle.system) other
    inside other there used = used_inside regions word middle handed.sound other used (handed.more.kept other used there)

    stays : (other : Extent) → extent_at other.at (extents_in (state_of word old)) ≡ Some other → other.kind ≡ Used →
        (k : ℕ) → other.at + 8 ≤ k → k < other.at + other.size + 8 → k % 8 ≡ 0 → new k ≡ word middle.system k
    stays other there used k low high m =
        let granted = (inside other there used).granted k (omega arith) (omega arith) in
        let place = block_place handed.sound handed.block in let room = fits handed.sound handed.block n less in
        elsewhere k (record { granted = granted; aligned = m }) (elim (used_apart regions word middle handed.sound other handed.block.extent
        (handed.more.kept other used there) (block_there handed.sound handed.block) (λ same. handed.more.new other used there (same ∙ place))) [
          | inl before ↦ inl (omega arith)
          | inr behind ↦ inr (omega arith)
        ])

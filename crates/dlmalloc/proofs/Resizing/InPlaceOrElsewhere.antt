-- A block gets another size: where it stands, or elsewhere with its words.
use Rattle.dlmalloc.proofs.Names.{◌≡◌, ◌≢◌, ℕ, ◌+◌, ◌-◌, ◌*◌, ◌%◌, ◌<◌, ◌≤◌, ◌⊎◌, inl, inr, min, Bool, true, false, ◌==◌, List, [], ◌∷◌, Option, Some, IsTrue, refl, sym, ◌∙◌, ap, subst, arith, unwrap_or, option_map, IfSome, Grant, Event, is_granted, AreWordsOf, AreCopied, padded, limit, Extent, Used, extent_at, HeapState, extents_in, size_where, IsBlock, KeepsBlocks, in_place, HasSameOthers, IndexStays, IsBinned, state_of, IsSound, IsTurned, IsFreed, IsHandedOut, words_in, IsSameHeap, IsInPlace, KeepsOrder, Dlmalloc}
use Rattle.dlmalloc.specs.Moved.{others_at}
use Rattle.dlmalloc.proofs.Extents.Lookup.{extent, the_one, found, found_either, found_more, found_later, nat_is, nat_same}
use Rattle.dlmalloc.proofs.Resizing.TwoExtents.{differ}
use Rattle.dlmalloc.proofs.Blocks.WordsKept.{not_in_free, kept_in, blocks_law, keeps_on, kept_among}
use Rattle.dlmalloc.proofs.Laws.{used_inside}
use Rattle.dlmalloc.proofs.Blocks.Chunks.{block_place, block_there, block_inside, blocks_apart}
use Rattle.dlmalloc.proofs.Blocks.Words.{block_words, same_heap, same_binned, written_kept}

place_found : (k : ℕ) (extents : List Extent) {one : Extent} → extent_at k extents ≡ Some one → one.at ≡ k
place_found k extents {one} there = (found k one extents there).place

-- the size that is found at an address
pub size_at : (heap : HeapState) (at : ℕ) (one : Extent) → extent_at at (extents_in heap) ≡ Some one →
    size_where (λ extent. extent.at == at) (extents_in heap) ≡ one.size
size_at heap at one there = ap (λ o. unwrap_or (option_map (λ extent. extent.size) o) 0) there

-- its chunk
pub chunk_there : {heap : HeapState} {ptr n : ℕ} (block : IsBlock heap ptr n) →
    extent_at (ptr - 16) (extents_in heap) ≡ Some (extent (ptr - 16) block.extent.size Used)
chunk_there {heap} {ptr} block = block.there ∙ (λ i. Some (extent ((found (ptr - 16) block.extent (extents_in heap)
    block.there).place i) block.extent.size (block.used i)))

-- if an address is given, a block is there
pub block_told : (heap : HeapState) {ptr : Option ℕ} {address : ℕ} → ptr ≡ Some address →
    IfSome ptr (λ at. (size : ℕ) × IsBlock heap at size) → (size : ℕ) × IsBlock heap address size
block_told heap is block = subst (λ o. IfSome o (λ at. (size : ℕ) × IsBlock heap at size)) is block

-- what is found among the others is found, and elsewhere
pub other_there : (at : ℕ) (extents : List Extent) (k : ℕ) {one : Extent} → extent_at k (others_at at extents) ≡ Some one →
    (one.at ≢ at) × (extent_at k extents ≡ Some one)
other_there at [] k there = absurd (cc)
other_there at (first ∷ extents) k {one} there = go (first.at == at) refl (λ later. other_there at extents k later)
  where
    go : (here : Bool) → (first.at == at) ≡ here → (extent_at k (others_at at extents) ≡ Some one → (one.at ≢ at) × (extent_at k extents ≡ Some one)) →
        (one.at ≢ at) × (extent_at k (first ∷ extents) ≡ Some one)
    go true at_first rest =
        let later = rest (rw at_first at there) in
        let apart : (first.at == k) ≡ false = differ first.at k (λ same. later.0 (place_found k extents later.1 ∙ (sym same ∙ nat_is at_first))) in
        (later.0, rw apart later.1)
    go false at_first rest = elim (found_either k (first ∷ []) (others_at at extents) (rw at_first at there)) [
      | inl here ↦ (
        λ place. (let is = ap (λ e. e.at) (the_one k first here) ∙ place in let no : true ≡ false = sym (ap (λ a. a == at) is ∙ nat_same at) ∙ at_first in cc),
        found_more k (first ∷ []) extents here,
      )
      | inr later ↦ (let found = rest later.1 in (found.0, found_later k (first ∷ []) extents later.0 ∙ found.1))
    ]

-- ---- where it stands

pub stays_there : {A : Type 0} {regions : A → List Grant} {word : A → ℕ → ℕ} {follows : A → List Event → A → Type 0} {old new : Dlmalloc A}
    {ptr n held size m : ℕ} → IsSound regions word old → (block : IsBlock (state_of word old) ptr n) →
    held + 8 ≤ size_where (λ extent. extent.at == ptr - 16) (extents_in (state_of word old)) → size < limit old.granularity →
    m ≡ padded size → size + 8 ≤ m → m ≤ size + 32 → in_place (state_of word old) (ptr - 16) m ≡ Some (state_of word new) →
    (whole : ℕ) × (extent_at (ptr - 16) (extents_in (state_of word new)) ≡ Some (extent (ptr - 16) whole Used)) × (m ≤ whole) × (whole < m + 32) →
    HasSameOthers (state_of word old) (state_of word new) (ptr - 16) (ptr - 16) → IsTurned regions word follows old new →
    KeepsOrder regions word old new → IsInPlace regions word follows old ptr held size new
stays_there {regions} {word} {old} {new} {ptr} sound block kept_bytes small padded holds near state (whole, there, fits, little) others moved order = record {
  order = order;
  small = small;
  state = subst (λ m. in_place (state_of word old) (ptr - 16) m ≡ Some (state_of word new)) padded state;
  block = record { extent = extent (ptr - 16) whole Used; there = there; low = block.low; used = refl; holds = omega arith; little = omega arith };
  others = others;
  contents = λ k less m.
      let chunk = extent (ptr - 16) whole Used in let low = block.low in let size = size_at (state_of word old) (ptr - 16) block.extent block.there in
      let inside = used_inside regions word new moved.sound chunk refl there in
      kept_in moved {block = chunk} there refl (ptr + k) (omega arith) (omega arith) (record {
        granted = subst (λ rs. IsTrue (is_granted rs (ptr + k))) moved.regions_same (inside.granted (ptr + k) (omega arith) (omega arith));
        aligned = omega arith;
      }) (let place = block_place sound block in not_in_free sound (block_there sound block) block.used (ptr + k) (omega arith) (omega arith));
  kept = blocks_law sound moved.sound moved.words (others_at (ptr - 16) (extents_in (state_of word old))) (λ other there used.
      let is = other_there (ptr - 16) (extents_in (state_of word old)) other.at there in
      (is.1, others.kept other used is.0 is.0 is.1));
  moved = moved;
}

-- ---- elsewhere

module _ {A : Type 0} {regions : A → List Grant} {word : A → ℕ → ℕ} {follows : A → List Event → A → Type 0} {old middle : Dlmalloc A}
    {ptr size align address n : ℕ} (held : ℕ) (sound : IsSound regions word old) (block : IsBlock (state_of word old) ptr n)
    (fits : held + 8 ≤ size_where (λ extent. extent.at == ptr - 16) (extents_in (state_of word old)))
    (handed : IsHandedOut regions word follows old size align address middle) {count : ℕ} (count_is : count ≡ words_in (min held size)) where
  place : block.extent.at ≡ ptr - 16
  place = block_place sound block

  there : extent_at block.extent.at (extents_in (state_of word old)) ≡ Some block.extent
  there = block_there sound block

  -- the old one is there still
  still : IsBlock (state_of word middle) ptr (block.extent.size - 8)
  still = let holds = block.holds in record {
    extent = block.extent;
    there = ap (λ a. extent_at a (extents_in (state_of word middle))) (sym place) ∙ handed.more.kept block.extent block.used there;
    low = block.low;
    used = block.used;
    holds = omega arith;
    little = omega arith;
  }

  few_from : min held size ≤ block.extent.size - 8
  few_from = omega (arith, size_at (state_of word old) (ptr - 16) block.extent block.there)

  pub few_to : min held size ≤ size
  few_to = omega arith

  pub from_words : AreWordsOf (regions middle.system) ptr count
  from_words = subst (AreWordsOf (regions middle.system) ptr) (sym count_is) (block_words handed.sound still (min held size) few_from)

  pub to_words : AreWordsOf (regions middle.system) address count
  to_words = subst (AreWordsOf (regions middle.system) address) (sym count_is) (block_words handed.sound handed.block (min held size) few_to)

  pub words_apart : (ptr + 8 * count ≤ address) ⊎ (address + 8 * count ≤ ptr)
  words_apart =
      let low = block.low in let new_low = handed.low in let few = few_from in let is = count_is in
      elim (blocks_apart handed.sound ptr (block.extent.size - 8) address size still handed.block
      (λ same. handed.more.new block.extent block.used there (omega (arith, place)))) [
        | inl before ↦ inl (omega arith)
        | inr behind ↦ inr (omega arith)
      ]

  module _ {system : A} (same : regions system ≡ regions middle.system) (followed : follows middle.system [] system)
      (written : AreCopied (regions middle.system) (word middle.system) ptr address count (word system)) where
    abbrev filled : Dlmalloc A
    filled = record middle { system = system }

    pub copied : AreCopied (regions middle.system) (word middle.system) ptr address (words_in (min held size)) (word system)
    copied = subst (λ n. AreCopied (regions middle.system) (word middle.system) ptr address n (word system)) count_is written

    pub copied_heap : IsSameHeap regions word follows middle filled
    copied_heap = same_heap handed.sound handed.block follows (min held size) few_to system same followed copied.elsewhere

    abbrev pub copied_binned : IndexStays → IsBinned regions word middle → IsBinned regions word filled
    copied_binned stays = same_binned handed.sound handed.block stays (min held size) few_to system same copied.elsewhere

    pub copied_block : IsBlock (state_of word filled) ptr (block.extent.size - 8)
    copied_block = subst (λ s. IsBlock s ptr (block.extent.size - 8)) (sym copied_heap.state) still

    -- ---- and the old one was freed

    module _ {frees parts : Bool} {unit : ℕ} {new : Dlmalloc A} (freed : IsFreed regions word follows frees parts unit filled ptr new) where
      abbrev cut : Extent
      cut = handed.block.extent

      cut_place : cut.at ≡ address - 16
      cut_place = block_place handed.sound handed.block

      cut_there : extent_at cut.at (extents_in (state_of word middle)) ≡ Some cut
      cut_there = block_there handed.sound handed.block

      -- what is in use then, elsewhere, is in use in the end
      ends : {used : Extent} → used.kind ≡ Used → extent_at used.at (extents_in (state_of word middle)) ≡ Some used → used.at ≢ ptr - 16 →
          extent_at used.at (extents_in (state_of word new)) ≡ Some used
      ends {used} is found other = freed.less.only used is (ap (λ s. extent_at used.at (extents_in s)) copied_heap.state ∙ found) other

      cut_new : extent_at cut.at (extents_in (state_of word new)) ≡ Some cut
      cut_new = ends handed.block.used cut_there (λ same. handed.more.new block.extent block.used there (place ∙ (sym same ∙ cut_place)))

      pub moved_block : IsBlock (state_of word new) address size
      moved_block = record {
        extent = cut;
        there = ap (λ a. extent_at a (extents_in (state_of word new))) (sym cut_place) ∙ cut_new;
        low = handed.low;
        used = handed.block.used;
        holds = handed.block.holds;
        little = handed.block.little;
      }

      -- it has the bytes
      pub moved_contents : (k : ℕ) → k < min held size → k % 8 ≡ 0 → word new.system (address + k) ≡ word old.system (ptr + k)
      moved_contents k less m =
          let low = block.low in let new_low = handed.low in let holds = handed.block.holds in let few = few_from in let old_holds = block.holds in
          let whole = (block_inside handed.sound handed.block).whole in let old_whole = (block_inside sound block).whole in
          freed.kept.words cut cut_new handed.block.used (address + k) (omega (arith, cut_place)) (omega (arith, cut_place)) (omega (arith, cut_place))
          ∙ (copied.here k (omega arith) m
          ∙ handed.kept.words block.extent there block.used (ptr + k) (omega (arith, place)) (omega (arith, place)) (omega (arith, place)))

      -- every other block keeps its words
      pub moved_kept : KeepsBlocks (others_at (ptr - 16) (extents_in (state_of word old))) (word old.system) (word new.system)
      moved_kept =
          let other = λ (used : Extent). other_there (ptr - 16) (extents_in (state_of word old)) used.at {one = used} in
          keeps_on (kept_among (λ used is found. (other used found).1) (written_kept handed (min held size) few_to copied.elsewhere))
          (kept_among (λ used is found. ends is (handed.more.kept used is (other used found).1) (other used found).0) freed.kept)

-- A block moves: a new one is handed out, gets the bytes of the old one, and that is given back.
use Rattle.std.proofs.Common.{◌≡◌, ◌≢◌, ℕ, ◌+◌, ◌-◌, ◌*◌, ◌/◌, ◌%◌, ◌<◌, ◌≤◌, ◌⊎◌, List, [], Some, Bool, min, inl, inr, arith, ap, sym, subst, refl, ◌∙◌}
use Rattle.std.proofs.Math.Nat.{min-le_left, min-le_right}
use Rattle.heap_memory.specs.declared.grant.Grant.{Grant}
use Rattle.heap_memory.specs.Events.{Event}
use Rattle.heap_memory.specs.Words.{AreWordsOf}
use Rattle.dlmalloc.specs.Extents.{extent_at}
use Rattle.dlmalloc.specs.State.{HeapState, extents_in}
use Rattle.dlmalloc.specs.Heap.{state_of, IsSound}
use Rattle.dlmalloc.specs.Blocks.{IsBlock, HasBlock, usable}
use Rattle.dlmalloc.specs.Written.{words_in}
use Rattle.dlmalloc.specs.declared.heap.Dlmalloc.{Dlmalloc}
use Rattle.dlmalloc.proofs.Laws.{used_inside, used_apart}
use Rattle.dlmalloc.proofs.Resizing.InPlaceOrElsewhere.{size_at}
use Rattle.heap_cache.specs.Held.{IsLive}
use Rattle.heap_cache.specs.Live.{KeepBytes, IsGained, HasOneMoreLive}
use Rattle.heap_cache.specs.Resized.{HasMovedOut, IsResizedForCallers}
use Rattle.heap_cache.proofs.LiveLemmas.{place, there}

-- a block is one of all its bytes
pub full_block : (heap : HeapState) (address : ℕ) → HasBlock heap address → IsBlock heap address (usable heap address)
full_block heap address block =
    let is = size_at heap (address - 16) block.1.extent block.1.there in
    record {
      extent = block.1.extent;
      there = block.1.there;
      low = block.1.low;
      used = block.1.used;
      holds = omega (arith, is, block.1.holds);
      little = omega (arith, is, block.1.holds);
    }

-- two blocks have no word in common
pub words_apart : {A : Type 0} (regions : A → List Grant) (word : A → ℕ → ℕ) (heap : Dlmalloc A) → IsSound regions word heap → (from to count : ℕ) → HasBlock (state_of word heap) from → HasBlock (state_of word heap) to → to ≢ from →
    count ≤ usable (state_of word heap) from → count ≤ usable (state_of word heap) to → (from + 8 * words_in count ≤ to) ⊎ (to + 8 * words_in count ≤ from)
words_apart regions word heap sound from to count one two differ within room =
    let one_at = place (state_of word heap) from one in
    let two_at = place (state_of word heap) to two in
    let one_size = size_at (state_of word heap) (from - 16) one.1.extent one.1.there in
    let two_size = size_at (state_of word heap) (to - 16) two.1.extent two.1.there in
    let one_in = used_inside regions word heap sound one.1.extent one.1.used (there (state_of word heap) from one) in
    let two_in = used_inside regions word heap sound two.1.extent two.1.used (there (state_of word heap) to two) in
    elim (used_apart regions word heap sound one.1.extent two.1.extent (there (state_of word heap) from one) (there (state_of word heap) to two) (λ same. differ (omega (arith, same, one_at, two_at, one.1.low, two.1.low)))) [
      | inl before ↦ inl (omega (arith, before, one_at, two_at, one_size, one.1.low, two.1.low, within, one_in.size_whole))
      | inr behind ↦ inr (omega (arith, behind, one_at, two_at, two_size, one.1.low, two.1.low, room, two_in.size_whole))
    ]

-- a block that stays where it is
pub stays_for_callers : {A : Type 0} (word : A → ℕ → ℕ) (heap : Dlmalloc A) (rows : List ℕ) (from size : ℕ) → IsLive (state_of word heap) rows from → size ≤ usable (state_of word heap) from → IsResizedForCallers word heap rows from size from heap rows
stays_for_callers word heap rows from size live enough = record {
  here = live;
  enough = enough;
  copied = λ k low whole. refl;
  gone = λ differ is. differ refl;
  came = λ differ is. differ refl;
  kept = λ other differ is. is;
  only = λ other differ is. is;
  bytes = record { sizes = λ block is. refl; words = λ block k is low high whole. refl };
}

module _ {A : Type 0} (regions : A → List Grant) (word : A → ℕ → ℕ) (follows : A → List Event → A → Type 0) (frees parts : A → Bool) (unit : A → ℕ) (old : Dlmalloc A) (rows : List ℕ) (from size to : ℕ)
    (middle : Dlmalloc A) (between : List ℕ) (new : Dlmalloc A) (rows' : List ℕ) (live : IsLive (state_of word old) rows from) (gained : IsGained word old rows to middle between)
    (enough : size ≤ usable (state_of word middle) to) (from_whole : from % 8 ≡ 0) (to_whole : to % 8 ≡ 0)
    (moved : HasMovedOut regions word follows frees parts unit middle between from to (min (usable (state_of word old) from) size) new rows') where
  abbrev count : ℕ
  count = min (usable (state_of word old) from) size

  differ : to ≢ from
  differ same = gained.live.new (subst (λ (k : ℕ). IsLive (state_of word old) rows k) (sym same) live)

  into : (block : ℕ) → IsLive (state_of word middle) between block → IsLive (state_of word moved.middle) between block
  into block is = subst (λ (state : HeapState). IsLive state between block) (sym moved.copied.stays.state) is

  back : (block : ℕ) → IsLive (state_of word moved.middle) between block → IsLive (state_of word middle) between block
  back block is = subst (λ (state : HeapState). IsLive state between block) moved.copied.stays.state is

  same_usable : (block : ℕ) → usable (state_of word moved.middle) block ≡ usable (state_of word middle) block
  same_usable block = ap (λ (state : HeapState). usable state block) moved.copied.stays.state

  here : IsLive (state_of word new) rows' to
  here = moved.given_up.live.only to (into to gained.live.here) differ

  kept : (other : ℕ) → other ≢ from → IsLive (state_of word old) rows other → IsLive (state_of word new) rows' other
  kept other differ is = moved.given_up.live.only other (into other (gained.live.kept other is)) differ

  not_new : (other : ℕ) → IsLive (state_of word old) rows other → other ≢ to
  not_new other is same = gained.live.new (subst (λ (k : ℕ). IsLive (state_of word old) rows k) same is)

  sizes : (other : ℕ) → other ≢ from → IsLive (state_of word old) rows other → usable (state_of word new) other ≡ usable (state_of word old) other
  sizes other differ is =
      let last = moved.given_up.bytes.sizes other (kept other differ is) in
      let between = same_usable other in
      let first = gained.bytes.sizes other is in
      omega (arith, last, between, first)

  bytes : (other k : ℕ) → other ≢ from → IsLive (state_of word old) rows other → other ≤ k → k < other + usable (state_of word old) other → k % 8 ≡ 0 → word new.system k ≡ word old.system k
  bytes other k differ is low high whole =
      let first = gained.bytes.sizes other is in
      let second = same_usable other in
      moved.given_up.bytes.words other k (kept other differ is) low (omega (arith, high, first, second)) whole
      ∙ (moved.others.words other k (gained.live.kept other is, not_new other is) low (omega (arith, high, first)) whole
      ∙ gained.bytes.words other k is low high whole)

  copied : (k : ℕ) → k < count → k % 8 ≡ 0 → word new.system (to + k) ≡ word old.system (from + k)
  copied k low whole =
      let left = min-le_left (usable (state_of word old) from) size in
      let right = min-le_right (usable (state_of word old) from) size in
      let is = same_usable to in
      moved.given_up.bytes.words to (to + k) here (omega arith) (omega (arith, low, right, enough, is)) (omega (arith, to_whole, whole))
      ∙ (moved.copied.copied.here k (omega (arith, low)) whole
      ∙ gained.bytes.words from (from + k) live (omega arith) (omega (arith, low, left)) (omega (arith, from_whole, whole)))

  pub moved_for_callers : IsResizedForCallers word old rows from size to new rows'
  moved_for_callers = record {
    here = here;
    enough = let last = moved.given_up.bytes.sizes to here in let is = same_usable to in omega (arith, last, is, enough);
    copied = copied;
    gone = λ differ is. moved.given_up.live.new is;
    came = λ differ is. gained.live.new is;
    kept = kept;
    only = λ other differ is. gained.live.only other (back other (moved.given_up.live.kept other is)) differ;
    bytes = record {
      sizes = λ other is. sizes other is.1 is.0;
      words = λ other k is low high whole. bytes other k is.1 is.0 low high whole;
    };
  }

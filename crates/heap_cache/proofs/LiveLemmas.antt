-- How the blocks that callers have change.
use Rattle.std.proofs.Common.{◌≡◌, ◌≢◌, ℕ, ◌+◌, ◌-◌, ◌%◌, ◌/◌, ◌<◌, ◌≤◌, ◌⊎◌, List, [], Some, Bool, false, inl, inr, arith, subst, sym, refl, ap, ◌∙◌, Result, Ok, Err, IfOk, IsTrue}
use Rattle.std.specs.Prelude.{IfErr}
use Rattle.heap_memory.specs.declared.grant.Grant.{Grant}
use Rattle.heap_memory.specs.declared.grant.GrantFault.{GrantFault}
use Rattle.heap_memory.specs.Events.{Event}
use Rattle.dlmalloc_chunks.specs.declared.extent.Extent.{Extent}
use Rattle.dlmalloc_chunks.specs.declared.extent.Kind.TheVariants.{Used}
use Rattle.dlmalloc.specs.Extents.{extent_at}
use Rattle.dlmalloc.specs.State.{HeapState, extents_in}
use Rattle.dlmalloc.specs.Heap.{state_of}
use Rattle.dlmalloc.specs.Blocks.{IsBlock, HasBlock, HasOneMore, KeepsBlocks, usable}
use Rattle.dlmalloc.specs.Grown.{HasSameUsed}
use Rattle.dlmalloc.specs.AfterFree.{IsFreed}
use Rattle.dlmalloc.specs.declared.heap.Dlmalloc.{Dlmalloc}
use Rattle.dlmalloc.proofs.Extents.Lookup.{found}
use Rattle.dlmalloc.proofs.Laws.{used_inside, used_apart}
use Rattle.dlmalloc.proofs.Resizing.InPlaceOrElsewhere.{size_at}
use Rattle.sound_heap.specs.Heap.{IsBlockHandedOut, IsRequestRefused}
use Rattle.sound_heap.specs.declared.heap_error.HeapError.{HeapError}
use Rattle.heap_cache.specs.Stacks.{AreWithin, IsPushed, IsPopped}
use Rattle.heap_cache.specs.Held.{IsHeld, IsLive, AreHeld, IsOfClass, IsGivenBack}
use Rattle.heap_cache.specs.Emptied.{KeepsLive, AreEmpty}
use Rattle.heap_cache.specs.Served.{IsServedEmptied, IsServed, IsServedAligned}
use Rattle.heap_cache.specs.Live.{HasSameLive, HasOneMoreLive, KeepBytes, IsGained, IsGivenUp, StaysForCallers}
use Rattle.heap_cache.proofs.HeldLemmas.{popped_before, popped_after, popped_was, popped_gone, popped_block, pushed_before, pushed_here, pushed_after, is_block, class_of, more_fresh, less_held}
use Rattle.heap_cache.proofs.EmptyLemmas.{live_then}
use Rattle.heap_cache.proofs.ServeLemmas.{live_refused_one}

-- ---- blocks

pub place : (heap : HeapState) (a : ℕ) (block : HasBlock heap a) → block.1.extent.at ≡ a - 16
place heap a block = (found (a - 16) block.1.extent (extents_in heap) block.1.there).place

pub there : (heap : HeapState) (a : ℕ) (block : HasBlock heap a) → extent_at block.1.extent.at (extents_in heap) ≡ Some block.1.extent
there heap a block = ap (λ (k : ℕ). extent_at k (extents_in heap)) (place heap a block) ∙ block.1.there

moved : (old new : HeapState) (a : ℕ) (block : HasBlock old a) → extent_at block.1.extent.at (extents_in new) ≡ Some block.1.extent → HasBlock new a
moved old new a block is = (
  block.0,
  record {
    extent = block.1.extent;
    there = ap (λ (k : ℕ). extent_at k (extents_in new)) (sym (place old a block)) ∙ is;
    low = block.1.low;
    used = block.1.used;
    holds = block.1.holds;
    little = block.1.little;
  },
)

-- ---- what callers have

-- emptying changes nothing for them
pub same_live : {A : Type 0} (word : A → ℕ → ℕ) (old : Dlmalloc A) (rows : List ℕ) (new : Dlmalloc A) (rows' : List ℕ) → KeepsLive word old rows new rows' → HasSameLive (state_of word old) rows (state_of word new) rows'
same_live word old rows new rows' kept a = (
  (λ live. let is = end (state_of word old) live.0 in (
    moved (state_of word old) (state_of word new) a live.0 (kept.stays live.0.1.extent live.0.1.used (there (state_of word old) a live.0) (λ on. live.1 (subst (λ (k : ℕ). IsHeld rows k) is on))),
    λ on. live.1 (kept.held a on),
  )),
  (λ live. let is = end (state_of word new) live.0 in (
    moved (state_of word new) (state_of word old) a live.0 (kept.were live.0.1.extent live.0.1.used (there (state_of word new) a live.0)),
    λ on. kept.only live.0.1.extent live.0.1.used (there (state_of word new) a live.0) (λ held. live.1 (subst (λ (k : ℕ). IsHeld rows' k) is held)) (subst (λ (k : ℕ). IsHeld rows k) (sym is) on),
  )),
)
  where
    end : (heap : HeapState) (block : HasBlock heap a) → block.1.extent.at + 16 ≡ a
    end heap block = omega (arith, place heap a block, block.1.low)

-- a block that leaves a stack is one more of theirs
pub popped_live : (heap : HeapState) (rows rows' : List ℕ) (class address : ℕ) → AreWithin rows → class < 66 → IsPopped rows class address rows' → AreHeld heap rows → HasOneMoreLive heap rows heap rows' address
popped_live heap rows rows' class address within low popped held = record {
  new = λ live. live.1 (popped_was within low popped);
  here = (is_block heap class address (popped_block within low popped heap held), popped_gone within low popped heap held);
  kept = λ other live. (live.0, λ on. live.1 (popped_before within low popped other on));
  only = λ other live differ. (
    live.0,
    λ on. elim (popped_after within low popped other on) [
      | inl still ↦ live.1 still
      | inr same ↦ differ same
    ],
  );
}

-- a block that goes onto a stack is one less of theirs
pub pushed_live : (heap : HeapState) (rows rows' : List ℕ) (class address : ℕ) → AreWithin rows → AreWithin rows' → class < 66 → IsPushed rows class address rows' → IsLive heap rows address → HasOneMoreLive heap rows' heap rows address
pushed_live heap rows rows' class address within within' low pushed live = record {
  new = λ is. is.1 (pushed_here within within' low pushed);
  here = live;
  kept = λ other is. (is.0, λ on. is.1 (pushed_after within within' low pushed other on));
  only = λ other is differ. (
    is.0,
    λ on. elim (pushed_before within within' low pushed other on) [
      | inl still ↦ is.1 still
      | inr same ↦ differ same
    ],
  );
}

-- a block that the heap hands out beside the stacks is one more of theirs; read from new to old, one that it frees is one less
pub handed_live : (old new : HeapState) (rows : List ℕ) (address : ℕ) → AreHeld old rows → HasBlock new address → HasOneMore old new (address - 16) → HasOneMoreLive old rows new rows address
handed_live old new rows address held block more = record {
  new = λ live. more.new live.0.1.extent live.0.1.used (there old address live.0) (place old address live.0);
  here = (block, more_fresh new address held more);
  kept = λ other live. (moved old new other live.0 (more.kept live.0.1.extent live.0.1.used (there old other live.0)), live.1);
  only = λ other live differ. (
    moved new old other live.0 (more.only live.0.1.extent live.0.1.used (there new other live.0)
        (λ same. differ (omega (arith, same, place new other live.0, live.0.1.low, block.1.low)))),
    live.1,
  );
}

-- ---- their bytes

-- a block that is in use in both heaps has its bytes, where the blocks of one of them keep their words
module _ {A : Type 0} (word : A → ℕ → ℕ) (old new : Dlmalloc A) (block : ℕ) (was : HasBlock (state_of word old) block)
    (is : extent_at was.1.extent.at (extents_in (state_of word new)) ≡ Some was.1.extent) where
  pub same_size : usable (state_of word new) block ≡ usable (state_of word old) block
  same_size =
      let at_new = ap (λ (k : ℕ). extent_at k (extents_in (state_of word new))) (sym (place (state_of word old) block was)) ∙ is in
      let new_size = size_at (state_of word new) (block - 16) was.1.extent at_new in
      let old_size = size_at (state_of word old) (block - 16) was.1.extent was.1.there in
      omega (arith, new_size, old_size)

  pub in_block : (k : ℕ) → block ≤ k → k < block + usable (state_of word old) block → (was.1.extent.at + 16 ≤ k) × (k < was.1.extent.at + was.1.extent.size + 8)
  in_block k low high =
      let at = place (state_of word old) block was in
      let size = size_at (state_of word old) (block - 16) was.1.extent was.1.there in
      (omega (arith, at, was.1.low, low), omega (arith, at, size, was.1.low, was.1.holds, high))

  words_by_old : KeepsBlocks (extents_in (state_of word old)) (word old.system) (word new.system) → (k : ℕ) → block ≤ k → k < block + usable (state_of word old) block → k % 8 ≡ 0 → word new.system k ≡ word old.system k
  words_by_old kept k low high whole = let inside = in_block k low high in kept.words was.1.extent (there (state_of word old) block was) was.1.used k inside.0 inside.1 whole

  words_by_new : KeepsBlocks (extents_in (state_of word new)) (word old.system) (word new.system) → (k : ℕ) → block ≤ k → k < block + usable (state_of word old) block → k % 8 ≡ 0 → word new.system k ≡ word old.system k
  words_by_new kept k low high whole = let inside = in_block k low high in kept.words was.1.extent is was.1.used k inside.0 inside.1 whole

module _ {A : Type 0} (word : A → ℕ → ℕ) where
  same_bytes : (heap : Dlmalloc A) (These : ℕ → Type 0) → KeepBytes word heap heap These
  same_bytes heap These = record { sizes = λ block is. refl; words = λ block k is low high whole. refl }

  -- what is kept of blocks of a heap is kept of any of them
  pub less_bytes : (old new : Dlmalloc A) (These Fewer : ℕ → Type 0) → ((block : ℕ) → Fewer block → These block) → KeepBytes word old new These → KeepBytes word old new Fewer
  less_bytes old new These Fewer among kept = record {
    sizes = λ block is. kept.sizes block (among block is);
    words = λ block k is low high whole. kept.words block k (among block is) low high whole;
  }

  bytes_then : (old middle new : Dlmalloc A) (These Then : ℕ → Type 0) → ((block : ℕ) → These block → Then block) → KeepBytes word old middle These → KeepBytes word middle new Then → KeepBytes word old new These
  bytes_then old middle new These Then on one two = record {
    sizes = λ block is. two.sizes block (on block is) ∙ one.sizes block is;
    words = λ block k is low high whole.
        let size = one.sizes block is in
        two.words block k (on block is) low (omega (arith, high, size)) whole ∙ one.words block k is low high whole;
  }

  more_bytes : (old new : Dlmalloc A) (at : ℕ) → HasOneMore (state_of word old) (state_of word new) at → KeepsBlocks (extents_in (state_of word old)) (word old.system) (word new.system) →
      KeepBytes word old new (HasBlock (state_of word old))
  more_bytes old new at more kept = record {
    sizes = λ block was. same_size word old new block was (still block was);
    words = λ block k was low high whole. words_by_old word old new block was (still block was) kept k low high whole;
  }
    where
      still : (block : ℕ) (was : HasBlock (state_of word old) block) → extent_at was.1.extent.at (extents_in (state_of word new)) ≡ Some was.1.extent
      still block was = more.kept was.1.extent was.1.used (there (state_of word old) block was)

  less_heap_bytes : (old new : Dlmalloc A) (at : ℕ) → HasOneMore (state_of word new) (state_of word old) at → KeepsBlocks (extents_in (state_of word new)) (word old.system) (word new.system) →
      KeepBytes word old new (HasBlock (state_of word new))
  less_heap_bytes old new at less kept = record {
    sizes = λ block is. sym (same_size word new old block is (was block is));
    words = λ block k is low high whole.
        let size = same_size word new old block is (was block is) in
        let inside = in_block word new old block is (was block is) k low (omega (arith, high, size)) in
        kept.words is.1.extent (there (state_of word new) block is) is.1.used k inside.0 inside.1 whole;
  }
    where
      was : (block : ℕ) (is : HasBlock (state_of word new) block) → extent_at is.1.extent.at (extents_in (state_of word old)) ≡ Some is.1.extent
      was block is = less.kept is.1.extent is.1.used (there (state_of word new) block is)

  -- ---- calls

  pub stays_same : (heap : Dlmalloc A) (rows : List ℕ) → StaysForCallers word heap rows heap rows
  stays_same heap rows = record { live = λ address. (λ live. live, λ live. live); bytes = same_bytes heap (IsLive (state_of word heap) rows) }

  pub stays_kept : (old : Dlmalloc A) (rows : List ℕ) (new : Dlmalloc A) (rows' : List ℕ) → KeepsLive word old rows new rows' → StaysForCallers word old rows new rows'
  stays_kept old rows new rows' kept = record {
    live = same_live word old rows new rows' kept;
    bytes = record {
      sizes = λ block live. same_size word old new block live.0 (still block live);
      words = λ block k live low high whole. words_by_new word old new block live.0 (still block live) kept.bytes k low high whole;
    };
  }
    where
      still : (block : ℕ) (live : IsLive (state_of word old) rows block) → extent_at live.0.1.extent.at (extents_in (state_of word new)) ≡ Some live.0.1.extent
      still block live =
          let end : live.0.1.extent.at + 16 ≡ block = omega (arith, place (state_of word old) block live.0, live.0.1.low) in
          kept.stays live.0.1.extent live.0.1.used (there (state_of word old) block live.0) (λ on. live.1 (subst (λ (k : ℕ). IsHeld rows k) end on))

  pub stays_then : (old : Dlmalloc A) (rows : List ℕ) (middle : Dlmalloc A) (rows' : List ℕ) (new : Dlmalloc A) (rows'' : List ℕ) → StaysForCallers word old rows middle rows' →
      StaysForCallers word middle rows' new rows'' → StaysForCallers word old rows new rows''
  stays_then old rows middle rows' new rows'' one two = record {
    live = λ address. (λ live. (two.live address).0 ((one.live address).0 live), λ live. (one.live address).1 ((two.live address).1 live));
    bytes = bytes_then old middle new (IsLive (state_of word old) rows) (IsLive (state_of word middle) rows') (λ block live. (one.live block).0 live) one.bytes two.bytes;
  }

  -- where the same extents are in use and keep their words
  pub stays_used : (old new : Dlmalloc A) (rows : List ℕ) → HasSameUsed (state_of word old) (state_of word new) → KeepsBlocks (extents_in (state_of word old)) (word old.system) (word new.system) → StaysForCallers word old rows new rows
  stays_used old new rows used kept = record {
    live = λ address. (
      λ live. (moved (state_of word old) (state_of word new) address live.0 (still address live), live.1),
      λ live. (moved (state_of word new) (state_of word old) address live.0 (used.before live.0.1.extent live.0.1.used (there (state_of word new) address live.0)), live.1),
    );
    bytes = record {
      sizes = λ block live. same_size word old new block live.0 (still block live);
      words = λ block k live low high whole. words_by_old word old new block live.0 (still block live) kept k low high whole;
    };
  }
    where
      still : (block : ℕ) (live : IsLive (state_of word old) rows block) → extent_at live.0.1.extent.at (extents_in (state_of word new)) ≡ Some live.0.1.extent
      still block live = used.still live.0.1.extent live.0.1.used (there (state_of word old) block live.0)

  pub gained_then : (old : Dlmalloc A) (rows : List ℕ) (middle : Dlmalloc A) (rows' : List ℕ) (address : ℕ) (new : Dlmalloc A) (rows'' : List ℕ) → StaysForCallers word old rows middle rows' →
      IsGained word middle rows' address new rows'' → IsGained word old rows address new rows''
  gained_then old rows middle rows' address new rows'' one two = record {
    live = record {
      new = λ live. two.live.new ((one.live address).0 live);
      here = two.live.here;
      kept = λ other live. two.live.kept other ((one.live other).0 live);
      only = λ other live differ. (one.live other).1 (two.live.only other live differ);
    };
    bytes = bytes_then old middle new (IsLive (state_of word old) rows) (IsLive (state_of word middle) rows') (λ block live. (one.live block).0 live) one.bytes two.bytes;
  }

  pub gained_popped : (heap : Dlmalloc A) (rows rows' : List ℕ) (class address : ℕ) → AreWithin rows → class < 66 → IsPopped rows class address rows' → AreHeld (state_of word heap) rows →
      IsGained word heap rows address heap rows'
  gained_popped heap rows rows' class address within low popped held = record {
    live = popped_live (state_of word heap) rows rows' class address within low popped held;
    bytes = same_bytes heap (IsLive (state_of word heap) rows);
  }

  pub gained_more : (old new : Dlmalloc A) (rows : List ℕ) (address : ℕ) → AreHeld (state_of word old) rows → HasBlock (state_of word new) address → HasOneMore (state_of word old) (state_of word new) (address - 16) →
      KeepsBlocks (extents_in (state_of word old)) (word old.system) (word new.system) → IsGained word old rows address new rows
  gained_more old new rows address held block more kept = record {
    live = handed_live (state_of word old) (state_of word new) rows address held block more;
    bytes = less_bytes old new (HasBlock (state_of word old)) (IsLive (state_of word old) rows) (λ block live. live.0) (more_bytes old new (address - 16) more kept);
  }

  pub given_up_pushed : (heap : Dlmalloc A) (rows rows' : List ℕ) (class address : ℕ) → AreWithin rows → AreWithin rows' → class < 66 → IsPushed rows class address rows' → IsLive (state_of word heap) rows address →
      IsGivenUp word heap rows address heap rows'
  given_up_pushed heap rows rows' class address within within' low pushed live = record {
    live = pushed_live (state_of word heap) rows rows' class address within within' low pushed live;
    bytes = same_bytes heap (IsLive (state_of word heap) rows');
  }

  pub given_up_less : (old new : Dlmalloc A) (rows : List ℕ) (address : ℕ) → AreHeld (state_of word old) rows → IsLive (state_of word old) rows address → HasOneMore (state_of word new) (state_of word old) (address - 16) →
      KeepsBlocks (extents_in (state_of word new)) (word old.system) (word new.system) → IsGivenUp word old rows address new rows
  given_up_less old new rows address held live less kept = record {
    live = handed_live (state_of word new) (state_of word old) rows address (less_held (state_of word new) address held live.0.1.low live.1 less) live.0 less;
    bytes = less_bytes old new (HasBlock (state_of word new)) (IsLive (state_of word new) rows) (λ block live. live.0) (less_heap_bytes old new (address - 16) less kept);
  }

-- ---- requests

-- with nothing on stacks, nothing is held
none_held : (rows : List ℕ) (address : ℕ) → AreEmpty rows → IsHeld rows address → ⊥
none_held rows address empty on = omega (arith, empty on.0 on.1, on.2.some, on.2.low)

pub empty_held : (heap : HeapState) (rows : List ℕ) → AreEmpty rows → AreHeld heap rows
empty_held heap rows empty = record {
  blocks = λ class address low on. absurd (none_held rows address empty (class, low, on));
  once = λ one other address one_low other_low a b. absurd (none_held rows address empty (one, one_low, a));
}

module _ {A : Type 0} (regions : A → List Grant) (word : A → ℕ → ℕ) (zeros : A → Bool) (follows : A → List Event → A → Type 0) (refuses : A → A → Type 0) (denies : A → ℕ → GrantFault → Type 0)
    (frees parts : A → Bool) (unit : A → ℕ) where
  gained_handed : (old new : Dlmalloc A) (rows : List ℕ) (size align address : ℕ) → AreHeld (state_of word old) rows → IsBlockHandedOut regions word zeros follows old size align false address new →
      IsGained word old rows address new rows
  gained_handed old new rows size align address held out = gained_more word old new rows address held (size, out.handed.block) out.handed.more out.handed.kept

  gained_emptied : (old new : Dlmalloc A) (rows rows' : List ℕ) (size align address : ℕ) → IsServedEmptied regions word zeros follows refuses denies frees parts unit old rows size align address new rows' →
      IsGained word old rows address new rows'
  gained_emptied old new rows rows' size align address is =
      let first = is.1.first in
      let one = live_refused_one regions word zeros follows refuses denies old first rows size align is.1.error is.1.refused in
      gained_then word old rows is.0 rows' address new rows' (stays_kept word old rows is.0 rows' (live_then word old rows first rows is.0 rows' one is.1.gone.live))
      (gained_handed is.0 new rows' size align address (empty_held (state_of word is.0) rows' is.1.empty) is.2)

  pub gained_served : (old new : Dlmalloc A) (rows rows' : List ℕ) (size address : ℕ) → AreWithin rows → AreHeld (state_of word old) rows →
      IsServed regions word zeros follows refuses denies frees parts unit old rows size address new rows' → IsGained word old rows address new rows'
  gained_served old new rows rows' size address within held (inl (inl reused)) =
      subst (λ (heap : Dlmalloc A). IsGained word old rows address heap rows') (sym reused.same)
      (gained_popped word old rows rows' _ address within reused.low reused.popped held)
  gained_served old new rows rows' size address within held (inl (inr given)) =
      subst (λ (now : List ℕ). IsGained word old rows address new now) (sym given.2) (gained_handed old new rows size 16 address held given.1)
  gained_served old new rows rows' size address within held (inr emptied) = gained_emptied old new rows rows' size 16 address emptied.1

  pub gained : (old new : Dlmalloc A) (rows rows' : List ℕ) (size : ℕ) → AreWithin rows → AreHeld (state_of word old) rows → (answer : Result ℕ HeapError) →
      IfOk answer (λ address. IsServed regions word zeros follows refuses denies frees parts unit old rows size address new rows') → IfOk answer (λ address. IsGained word old rows address new rows')
  gained old new rows rows' size within held (Ok address) served = gained_served old new rows rows' size address within held served
  gained old new rows rows' size within held (Err error) served = tt

  pub gained_aligned : (old new : Dlmalloc A) (rows rows' : List ℕ) (size align : ℕ) → AreHeld (state_of word old) rows → (address : ℕ) →
      IsServedAligned regions word zeros follows refuses denies frees parts unit old rows size align address new rows' → IsGained word old rows address new rows'
  gained_aligned old new rows rows' size align held address (inl given) =
      subst (λ (now : List ℕ). IsGained word old rows address new now) (sym given.1) (gained_handed old new rows size align address held given.0)
  gained_aligned old new rows rows' size align held address (inr emptied) = gained_emptied old new rows rows' size align address emptied

  pub gained_all_aligned : (old new : Dlmalloc A) (rows rows' : List ℕ) (size align : ℕ) → AreHeld (state_of word old) rows → (answer : Result ℕ HeapError) →
      IfOk answer (λ address. IsServedAligned regions word zeros follows refuses denies frees parts unit old rows size align address new rows') → IfOk answer (λ address. IsGained word old rows address new rows')
  gained_all_aligned old new rows rows' size align held (Ok address) served = gained_aligned old new rows rows' size align held address served
  gained_all_aligned old new rows rows' size align held (Err error) served = tt

  pub stays_refused : (old new : Dlmalloc A) (rows rows' : List ℕ) (answer : Result ℕ HeapError) → IfErr answer (λ error. KeepsLive word old rows new rows') → IfErr answer (λ error. StaysForCallers word old rows new rows')
  stays_refused old new rows rows' (Ok address) kept = tt
  stays_refused old new rows rows' (Err error) kept = stays_kept word old rows new rows' kept

  -- a block that was given back
  pub given_up : (old new : Dlmalloc A) (rows rows' : List ℕ) (address : ℕ) → AreWithin rows → AreWithin rows' → AreHeld (state_of word old) rows → IsLive (state_of word old) rows address →
      IsGivenBack regions word follows (frees old.system) (parts old.system) (unit old.system) old rows address new rows' → IsGivenUp word old rows address new rows'
  given_up old new rows rows' address within within' held live (inl pushed) =
      subst (λ (heap : Dlmalloc A). IsGivenUp word old rows address heap rows') (sym pushed.2)
      (given_up_pushed word old rows rows' _ address within within' pushed.0 pushed.1 live)
  given_up old new rows rows' address within within' held live (inr freed) =
      subst (λ (now : List ℕ). IsGivenUp word old rows address new now) (sym freed.2) (given_up_less word old new rows address held live freed.1.less freed.1.kept)

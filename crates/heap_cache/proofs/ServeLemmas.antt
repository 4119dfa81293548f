-- Requests that are refused, and asked once more.
use Rattle.std.proofs.Common.{◌≡◌, ℕ, ◌+◌, ◌-◌, ◌/◌, ◌%◌, ◌<◌, ◌≤◌, List, Bool, true, false, Some, Result, Ok, Err, IfOk, IsTrue, inl, inr, arith, subst, sym, refl, ap, ◌∙◌}
use Rattle.std.proofs.lemmas.Bool.{false≢true}
use Rattle.std.specs.Prelude.{IfErr}
use Rattle.heap_memory.specs.declared.grant.Grant.{Grant}
use Rattle.heap_memory.specs.declared.grant.GrantFault.{GrantFault}
use Rattle.heap_memory.specs.Events.{Event}
use Rattle.heap_memory.specs.Regions.{is_granted}
use Rattle.dlmalloc_chunks.specs.declared.extent.Extent.{Extent}
use Rattle.dlmalloc_chunks.specs.declared.extent.Kind.TheVariants.{Used}
use Rattle.dlmalloc.specs.Extents.{extent_at}
use Rattle.dlmalloc.specs.State.{HeapState, extents_in}
use Rattle.dlmalloc.specs.Heap.{state_of}
use Rattle.dlmalloc.specs.Blocks.{IsBlock, usable}
use Rattle.dlmalloc.specs.Grown.{IsAsItWas}
use Rattle.dlmalloc.specs.Requested.{asked}
use Rattle.dlmalloc.specs.Served.{refused_events}
use Rattle.dlmalloc.specs.declared.heap.Dlmalloc.{Dlmalloc}
use Rattle.dlmalloc.proofs.Laws.{used_inside}
use Rattle.dlmalloc.proofs.Resizing.InPlaceOrElsewhere.{size_at}
use Rattle.sound_heap.specs.Heap.{IsRequestRefused}
use Rattle.sound_heap.specs.declared.heap_error.HeapError.{HeapError}
use Rattle.sound_heap.specs.declared.heap_error.HeapError.TheVariants.{BadAlign, NoBlock, Refused}
use Rattle.dlmalloc.specs.declared.malloc_error.MallocError.TheVariants.{TooLarge, System}
use Rattle.heap_cache.specs.Held.{HasNoneFor}
use Rattle.heap_cache.specs.Emptied.{KeepsLive}
use Rattle.heap_cache.specs.Served.{is_of_request, HasEmptied, IsServedEmptied, IsRefusedEmptied, IsAskedEmptied, IsAskedAgain, IsServed, IsServedAligned, IsRefused}
use Rattle.heap_cache.proofs.EmptyLemmas.{live_same, live_then}

module _ {A : Type 0} (regions : A → List Grant) (word : A → ℕ → ℕ) (zeros : A → Bool) (follows : A → List Event → A → Type 0) (refuses : A → A → Type 0) (denies : A → ℕ → GrantFault → Type 0) where
  -- all is as it was, so what callers have is
  live_as_it_was : (events : List Event) (old new : Dlmalloc A) (rows : List ℕ) → IsAsItWas regions word follows refuses events old new → KeepsLive word old rows new rows
  live_as_it_was events old new rows same = record {
    stays = λ used is there live. subst (λ (heap : HeapState). extent_at used.at (extents_in heap) ≡ Some used) (sym same.state) there;
    were = λ used is there. subst (λ (heap : HeapState). extent_at used.at (extents_in heap) ≡ Some used) same.state there;
    only = λ used is there live. live;
    held = λ address on. on;
    bytes = record {
      words = λ block there is k low high whole. same.words k (record { granted = granted block there is k (omega (arith, low)) (omega (arith, high)); aligned = whole });
      heads = λ block there is.
          let inside = used_inside regions word new same.sound block is there in
          ap (λ w. w / 2) (same.words (block.at + 8) (record { granted = granted block there is (block.at + 8) (omega arith) (omega arith); aligned = omega (arith, inside.whole) }));
    };
  }
    where
      granted : (block : Extent) → extent_at block.at (extents_in (state_of word new)) ≡ Some block → block.kind ≡ Used → (k : ℕ) → block.at ≤ k → k < block.at + block.size + 16 → IsTrue (is_granted (regions old.system) k)
      granted block there is k low high = subst (λ (all : List Grant). IsTrue (is_granted all k)) same.regions_same ((used_inside regions word new same.sound block is there).granted k low high)

  pub live_refused_one : (old new : Dlmalloc A) (rows : List ℕ) (size align : ℕ) (error : HeapError) → IsRequestRefused regions word follows refuses denies old size align error new → KeepsLive word old rows new rows
  live_refused_one old new rows size align BadAlign refused = subst (λ (heap : Dlmalloc A). KeepsLive word old rows heap rows) (sym refused.1) (live_same word old rows)
  live_refused_one old new rows size align NoBlock refused = absurd refused
  live_refused_one old new rows size align (Refused error) refused = live_as_it_was (refused_events (state_of word old) (asked size align) error) old new rows refused.1.same

  pub live_refused : (old new : Dlmalloc A) (rows : List ℕ) (size align : ℕ) (answer : Result ℕ HeapError) → IfErr answer (λ error. IsRequestRefused regions word follows refuses denies old size align error new) →
      IfErr answer (λ error. KeepsLive word old rows new rows)
  live_refused old new rows size align (Ok address) refused = tt
  live_refused old new rows size align (Err error) refused = live_refused_one old new rows size align error refused

  pub both_refused : (old new : Dlmalloc A) (rows : List ℕ) (size align : ℕ) (answer : Result ℕ HeapError) → IfErr answer (λ error. IsRequestRefused regions word follows refuses denies old size align error new) →
      IfErr answer (λ error. IsRequestRefused regions word follows refuses denies old size align error new × KeepsLive word old rows new rows)
  both_refused old new rows size align (Ok address) refused = tt
  both_refused old new rows size align (Err error) refused = (refused, live_refused_one old new rows size align error refused)

  -- what is refused for itself leaves the heap as it was
  untouched : (old new : Dlmalloc A) (size align : ℕ) (error : HeapError) → is_of_request error ≡ true → IsRequestRefused regions word follows refuses denies old size align error new → new ≡ old
  untouched old new size align BadAlign of refused = refused.1
  untouched old new size align NoBlock of refused = absurd refused
  untouched old new size align (Refused TooLarge) of refused = refused.1.untouched refl
  untouched old new size align (Refused (System fault)) of refused = absurd (false≢true of)

  -- the heap was asked once, refused, and was asked again
  module _ (frees parts : A → Bool) (unit : A → ℕ) (old first new : Dlmalloc A) (rows rows' : List ℕ) (size align : ℕ) (error : HeapError)
      (refused : IsRequestRefused regions word follows refuses denies old size align error first) where
    has_emptied : (answer : Result ℕ HeapError) → is_of_request error ≡ false → (is : IsAskedEmptied regions word zeros follows refuses denies frees parts unit first rows size align answer new rows') →
        HasEmptied regions word follows refuses denies frees parts unit old rows size align is.0 rows'
    has_emptied answer for_memory is = record { error = error; for_memory = for_memory; first = first; refused = refused; gone = is.1; empty = is.2 }

    pub served_again : (answer : Result ℕ HeapError) → IsAskedAgain regions word zeros follows refuses denies frees parts unit first rows size align error answer new rows' →
        IfOk answer (λ address. IsServedEmptied regions word zeros follows refuses denies frees parts unit old rows size align address new rows')
    served_again (Ok address) (inl is) = absurd is.1
    served_again (Ok address) (inr is) = (is.1.0, has_emptied (Ok address) is.0 is.1, is.1.3)
    served_again (Err again) is = tt

    pub refused_again : (answer : Result ℕ HeapError) → IsAskedAgain regions word zeros follows refuses denies frees parts unit first rows size align error answer new rows' →
        IfErr answer (λ again. IsRefusedEmptied regions word follows refuses denies frees parts unit old rows size align again new rows')
    refused_again (Ok address) is = tt
    refused_again (Err again) (inl is) =
        let was = untouched old first size align error is.0 refused in
        subst (λ (cause : HeapError). IsRefusedEmptied regions word follows refuses denies frees parts unit old rows size align cause new rows') (sym is.2)
        (inl (is.0, subst (λ (heap : Dlmalloc A). IsRequestRefused regions word follows refuses denies old size align error heap) (sym is.3) refused, is.3 ∙ was, is.4))
    refused_again (Err again) (inr is) = inr (is.1.0, has_emptied (Err again) is.0 is.1, is.1.4.0)

    pub live_again : (answer : Result ℕ HeapError) → IsAskedAgain regions word zeros follows refuses denies frees parts unit first rows size align error answer new rows' →
        IfErr answer (λ again. KeepsLive word old rows new rows')
    live_again (Ok address) is = tt
    live_again (Err again) (inl is) =
        subst (λ (now : List ℕ). KeepsLive word old rows new now) (sym is.4)
        (subst (λ (heap : Dlmalloc A). KeepsLive word old rows heap rows) (sym is.3) (live_refused_one old first rows size align error refused))
    live_again (Err again) (inr is) =
        live_then word old rows first rows new rows' (live_refused_one old first rows size align error refused) (live_then word first rows is.1.0 rows' new rows' is.1.1.live is.1.4.1)

    pub served_after_none : HasNoneFor rows size → align ≡ 16 → (answer : Result ℕ HeapError) → IsAskedAgain regions word zeros follows refuses denies frees parts unit first rows size align error answer new rows' →
        IfOk answer (λ address. IsServed regions word zeros follows refuses denies frees parts unit old rows size address new rows')
    served_after_none none at (Ok address) is =
        inr (none, subst (λ (a : ℕ). IsServedEmptied regions word zeros follows refuses denies frees parts unit old rows size a address new rows') at (served_again (Ok address) is))
    served_after_none none at (Err again) is = tt

    pub refused_after_none : HasNoneFor rows size → align ≡ 16 → (answer : Result ℕ HeapError) → IsAskedAgain regions word zeros follows refuses denies frees parts unit first rows size align error answer new rows' →
        IfErr answer (λ again. IsRefused regions word follows refuses denies frees parts unit old rows size again new rows')
    refused_after_none none at (Ok address) is = tt
    refused_after_none none at (Err again) is =
        (none, subst (λ (a : ℕ). IsRefusedEmptied regions word follows refuses denies frees parts unit old rows size a again new rows') at (refused_again (Err again) is))

-- ---- what was handed out is a block

pub block_enough : (heap : HeapState) (address size : ℕ) → IsBlock heap address size → size ≤ usable heap address
block_enough heap address size block = let is = size_at heap (address - 16) block.extent block.there in omega (arith, is, block.holds)

module _ {A : Type 0} (regions : A → List Grant) (word : A → ℕ → ℕ) (zeros : A → Bool) (follows : A → List Event → A → Type 0) (refuses : A → A → Type 0) (denies : A → ℕ → GrantFault → Type 0)
    (frees parts : A → Bool) (unit : A → ℕ) (old : Dlmalloc A) (rows : List ℕ) (size : ℕ) (new : Dlmalloc A) (rows' : List ℕ) where
  pub served_block : (address : ℕ) → IsServed regions word zeros follows refuses denies frees parts unit old rows size address new rows' → IsBlock (state_of word new) address size
  served_block address (inl (inl reused)) = reused.block
  served_block address (inl (inr given)) = given.1.handed.block
  served_block address (inr emptied) = emptied.1.2.handed.block

  pub aligned_block : (align address : ℕ) → IsServedAligned regions word zeros follows refuses denies frees parts unit old rows size align address new rows' → IsBlock (state_of word new) address size
  aligned_block align address (inl given) = given.0.handed.block
  aligned_block align address (inr emptied) = emptied.2.handed.block

  pub aligned_multiple : (align address : ℕ) → IsServedAligned regions word zeros follows refuses denies frees parts unit old rows size align address new rows' → address % align ≡ 0
  aligned_multiple align address (inl given) = given.0.handed.multiple
  aligned_multiple align address (inr emptied) = emptied.2.handed.multiple

-- so it holds of each answer
pub on_ok : {T E : Type 0} (P Q : T → Type 0) → ((value : T) → P value → Q value) → (answer : Result T E) → IfOk answer P → IfOk answer Q
on_ok P Q leads (Ok value) holds = leads value holds
on_ok P Q leads (Err error) holds = tt

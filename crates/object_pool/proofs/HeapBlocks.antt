-- Blocks of a heap before and after its calls, with their bytes.
use Rattle.std.proofs.Common.{◌≡◌, ◌≢◌, ℕ, ◌+◌, ◌-◌, ◌*◌, ◌%◌, ◌<◌, ◌≤◌, ◌⊎◌, inl, inr, Bool, true, false, ◌==◌, if◌then◌else◌, List, [], ◌∷◌, slice_index, refl, sym, ap, ◌∙◌, subst, arith, Some}
use Rattle.std.specs.Int.{w64, to_le_bytes}
use Rattle.std.proofs.lemmas.Bool.Decides.{nat_tests}
use Rattle.heap_memory.specs.declared.grant.Grant.{Grant}
use Rattle.heap_memory.specs.Events.{Event}
use Rattle.heap_memory.specs.Regions.{IsWordOf}
use Rattle.dlmalloc_chunks.specs.declared.extent.Extent.{Extent}
use Rattle.dlmalloc.specs.Extents.{extent_at}
use Rattle.dlmalloc.specs.State.{HeapState, Segment, extents_in}
use Rattle.dlmalloc.specs.Blocks.{IsBlock, ArePlaced, BlocksAreApart, KeepsBlocks}
use Rattle.dlmalloc.specs.Heap.{state_of, IsSound}
use Rattle.dlmalloc.specs.Grown.{IsAsItWas}
use Rattle.dlmalloc.specs.Requested.{IsHandedOut, IsServedAt}
use Rattle.dlmalloc.specs.AfterFree.{IsFreed}
use Rattle.dlmalloc.specs.Order.{KeepsOrder, KeepsIndex}
use Rattle.dlmalloc.specs.Resting.{regions_in, KeepsRegions, OnlyBlocksChange, RestsOutside, OrderRestsOutside}
use Rattle.dlmalloc.specs.Served.{IsObtained}
use Rattle.dlmalloc.specs.Binned.{IsBinned}
use Rattle.dlmalloc.specs.declared.heap.Dlmalloc.{Dlmalloc}
use Rattle.dlmalloc_chunks.specs.Request.{padded}
use Rattle.object_pool.specs.Bytes.{byte_in, IsWritten}
use Rattle.object_pool.specs.Pool.{IsBlockKept, KeepsAll, HasServed}
use Rattle.object_pool.proofs.Numbers.{same_or_other}

-- ---- a block and its extent

-- an extent that is found begins there
found_place : (at : ℕ) (extents : List Extent) (extent : Extent) → extent_at at extents ≡ Some extent → extent.at ≡ at
found_place at [] extent there = absurd (cc)
found_place at (first ∷ extents) extent there = go (first.at == at) refl there (found_place at extents extent)
  where
    go : (b : Bool) → (first.at == at) ≡ b → (if b then Some first else extent_at at extents) ≡ Some extent →
        (extent_at at extents ≡ Some extent → extent.at ≡ at) → extent.at ≡ at
    go true test is later = (let same : first ≡ extent = cc in let place : first.at ≡ at = grind (arith, nat_tests) in
        sym (ap (λ (e : Extent). e.at) same) ∙ place)
    go false test is later = later is

module _ (heap : HeapState) (address size : ℕ) (block : IsBlock heap address size) where
  -- the block stands 16 bytes behind the beginning of its extent
  pub block_place : address ≡ block.extent.at + 16
  block_place = let low = block.low in let at = found_place (address - 16) (extents_in heap) block.extent block.there in omega arith

  pub block_there : extent_at block.extent.at (extents_in heap) ≡ Some block.extent
  block_there = subst (λ (at : ℕ). extent_at at (extents_in heap) ≡ Some block.extent)
      (sym (found_place (address - 16) (extents_in heap) block.extent block.there)) block.there

  -- a heap that has its extent has the block
  pub block_moved : (new : HeapState) → extent_at block.extent.at (extents_in new) ≡ Some block.extent → IsBlock new address size
  block_moved new there = record {
    extent = block.extent;
    there = ap (λ (at : ℕ). extent_at at (extents_in new)) (sym (found_place (address - 16) (extents_in heap) block.extent block.there)) ∙ there;
    low = block.low;
    used = block.used;
    holds = block.holds;
    little = block.little;
  }

-- a block has its bytes where its words are kept
byte_kept : (heap : HeapState) (extents : List Extent) (old new : ℕ → ℕ) (address size : ℕ)
    (block : IsBlock heap address size) → address % 16 ≡ 0 → KeepsBlocks extents old new →
    extent_at block.extent.at extents ≡ Some block.extent → (k : ℕ) → k < size → byte_in new (address + k) ≡ byte_in old (address + k)
byte_kept heap extents old new address size block aligned keeps there k less =
    let place = block_place heap address size block in
    let holds = block.holds in
    let a : ℕ = address + k in
    let same : new (address + k - (address + k) % 8) ≡ old (address + k - (address + k) % 8) =
    keeps.words block.extent there block.used (address + k - (address + k) % 8) (omega arith) (omega arith) (omega arith) in
    ap (λ w. slice_index (to_le_bytes w64 w) ((address + k) % 8)) same

module _ {A : Type 0} (regions : A → List Grant) (word : A → ℕ → ℕ) (follows : A → List Event → A → Type 0) (old new : Dlmalloc A) where
  -- ---- a block more

  module _ (size align address : ℕ) (placed : ArePlaced (regions old.system) (state_of word old))
      (out : IsHandedOut regions word follows old size align address new) where
    pub handed_keeps : KeepsAll word old new
    handed_keeps at n block = record {
      block = block_moved (state_of word old) at n block (state_of word new)
          (out.more.kept block.extent block.used (block_there (state_of word old) at n block));
      bytes = byte_kept (state_of word old) (extents_in (state_of word old)) (word old.system) (word new.system) at n block
          (placed at n block).aligned out.kept (block_there (state_of word old) at n block);
    }

    -- it was none before
    pub handed_fresh : (n : ℕ) → IsBlock (state_of word old) address n → ⊥
    handed_fresh n block =
        let place = block_place (state_of word old) address n block in
        out.more.new block.extent block.used (block_there (state_of word old) address n block) (omega arith)

    -- it is the one that came
    pub handed_only : (at n : ℕ) → IsBlock (state_of word new) at n → IsBlock (state_of word old) at n ⊎ (at ≡ address)
    handed_only at n block =
        let place = block_place (state_of word new) at n block in
        let low = out.low in
        elim (same_or_other at address) [
          | inl same ↦ inr same
          | inr differ ↦ inl (block_moved (state_of word new) at n block (state_of word old)
              (out.more.only block.extent block.used (block_there (state_of word new) at n block) (λ e. differ (omega (arith, place, low, e)))))
        ]

  -- at alignment 16 the chunk of the block is cut for its padded size
  served_cut : (zeros : A → Bool) (size address : ℕ) → IsServedAt regions word zeros follows old size 16 address new →
      IsObtained follows regions old.system (state_of word old) (padded size) (address - 16) new.system (state_of word new)
  served_cut zeros size address served = elim served [ inl here ↦ here.1.cut | inr more ↦ absurd (let over = more.0 in omega (arith, over)) ]

  pub served_once : (zeros : A → Bool) (size address : ℕ) → IsServedAt regions word zeros follows old (64 * size) 16 address
      new → HasServed regions word follows old size address new
  unfolding HasServed
  served_once zeros size address served = served_cut zeros (64 * size) address served

  -- which leaves the bins in order
  pub order_once : (zeros : A → Bool) (size address : ℕ) → IsServedAt regions word zeros follows old size 16 address new → KeepsOrder regions word old new
  order_once zeros size address served = elim served [ inl here ↦ here.1.order | inr more ↦ absurd (let over = more.0 in omega (arith, over)) ]

  -- ---- a block less

  module _ (frees parts : Bool) (unit : ℕ) (address : ℕ) (placed : ArePlaced (regions old.system) (state_of word old))
      (low : 16 ≤ address) (back : IsFreed regions word follows frees parts unit old address new) where
    pub freed_keeps : (at n : ℕ) → IsBlock (state_of word old) at n → at ≢ address → IsBlockKept word old at n new
    freed_keeps at n block apart =
        let place = block_place (state_of word old) at n block in
        let there = back.less.only block.extent block.used (block_there (state_of word old) at n block) (λ e. apart (omega arith)) in
        record {
          block = block_moved (state_of word old) at n block (state_of word new) there;
          bytes = byte_kept (state_of word old) (extents_in (state_of word new)) (word old.system) (word new.system) at n
              block (placed at n block).aligned back.kept there;
        }

    pub freed_only : (at n : ℕ) → IsBlock (state_of word new) at n → IsBlock (state_of word old) at n × (at ≢ address)
    freed_only at n block =
        let place = block_place (state_of word new) at n block in (
          block_moved (state_of word new) at n block (state_of word old) (back.less.kept block.extent block.used (block_there (state_of word new) at n block)),
          λ same. back.less.new block.extent block.used (block_there (state_of word new) at n block) (omega arith),
        )

  -- ---- nothing was granted

  module _ (refuses : A → A → Type 0) (placed : ArePlaced (regions old.system) (state_of word old)) {events : List Event}
      (same : IsAsItWas regions word follows refuses events old new) where
    pub refused_keeps : KeepsAll word old new
    refused_keeps at n block = record {
      block = subst (λ (h : HeapState). IsBlock h at n) (sym same.state) block;
      bytes = λ k less. (
          let aligned = (placed at n block).aligned in
          let there : IsWordOf (regions old.system) (at + k - (at + k) % 8) =
          record {
            granted = (placed at n block).granted (at + k - (at + k) % 8) (omega arith) (omega arith);
            aligned =
                omega arith;
          } in
          ap (λ w. slice_index (to_le_bytes w64 w) ((at + k) % 8)) (same.words (at + k - (at + k) % 8) there));
    }

-- ---- bytes of a block

-- a system with the same regions keeps those of the segments
same_regions : {A : Type 0} (regions : A → List Grant) (heap : HeapState) (old new : A) → regions new ≡ regions old →
    KeepsRegions heap.segments (regions old) (regions new)
same_regions regions heap old new same = subst (KeepsRegions heap.segments (regions old)) (sym same) (each heap.segments)
  where
    each : (segments : List Segment) → Rattle.std.specs.List.AllByRecursion
        (λ (segment : Segment). regions_in segment (regions old) ≡ regions_in segment (regions old)) segments
    each [] = tt
    each (segment ∷ segments) = (refl, each segments)

module _ {A : Type 0} (regions : A → List Grant) (word : A → ℕ → ℕ) (heap : Dlmalloc A) (system : A) (address size : ℕ)
    (block : IsBlock (state_of word heap) address size) (placed : ArePlaced (regions heap.system) (state_of word heap))
    (at : ℕ) (bytes : List ℕ) (count : ℕ) (from : address ≤ at) (to : at + count ≤ address + size)
    (written : IsWritten (regions heap.system) (word heap.system) at bytes count (word system)) where
  -- no word outside of the block is changed
  outside : OnlyBlocksChange (regions heap.system) (state_of word heap) (word heap.system) (word system)
  outside k granted there beside =
      let place = block_place (state_of word heap) address size block in
      let holds = block.holds in
      let aligned = (placed address size block).aligned in
      let whole = granted.aligned in
      written.words k granted (elim (beside block.extent block.used (block_there (state_of word heap) address size block)) [
        | inl low ↦ inl (omega (arith, place, from, aligned, whole, low))
        | inr high ↦ inr (omega (arith, place, to, holds, high))
      ])

  -- so the heap is sound, in its state, and its bins are linked
  pub written_rests : RestsOutside regions word heap → IsSound regions word heap → regions system ≡ regions heap.system →
      IsSound regions word (record heap { system = system }) × (state_of word (record heap { system = system }) ≡ state_of
      word heap) × (IsBinned regions word heap → IsBinned regions word (record heap { system = system }))
  written_rests rests sound same = rests sound system (same_regions regions (state_of word heap) heap.system system same) outside

  -- and they have their order
  pub written_index : OrderRestsOutside regions word heap → IsSound regions word heap →
      regions system ≡ regions heap.system → KeepsIndex regions word heap (record heap { system = system })
  written_index rests sound same = rests sound system (same_regions regions (state_of word heap) heap.system system same) outside

module _ {A : Type 0} (regions : A → List Grant) (word : A → ℕ → ℕ) (heap new : Dlmalloc A) (address size : ℕ)
    (block : IsBlock (state_of word heap) address size) (placed : ArePlaced (regions heap.system) (state_of word heap))
    (at : ℕ) (bytes : List ℕ) (count : ℕ) (from : address ≤ at) (to : at + count ≤ address + size)
    (written : IsWritten (regions heap.system) (word heap.system) at bytes count (word new.system)) where
  -- every other block has the bytes that it had
  pub written_keeps : BlocksAreApart (state_of word heap) → state_of word new ≡ state_of word heap → (other n : ℕ) →
      IsBlock (state_of word heap) other n → other ≢ address → IsBlockKept word heap other n new
  written_keeps apart state other n b differ = record {
    block = subst (λ (h : HeapState). IsBlock h other n) (sym state) b;
    bytes = λ k less. written.elsewhere (other + k) ((placed other n b).granted (other + k) (omega arith) (omega arith))
        (elim (apart other n address size b block differ) [ inl before ↦ inl (omega arith) | inr behind ↦ inr (omega arith) ]);
  }

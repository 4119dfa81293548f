-- The blocks of a machine and the extents of its heap, before and after a call of the heap.
use Rattle.std.specs.Prelude.{Result, Ok, Err, OnErr}
use Rattle.std.proofs.Common.{◌≡◌, ◌≢◌, ℕ, ◌+◌, ◌-◌, ◌^◌, inl, inr, Bool, true, false, ◌==◌, if◌then◌else◌, List, [], ◌∷◌, ◌++◌, length, map, slice_set, refl, sym, ap, ◌∙◌, subst, arith, Option, Some, None}
use Rattle.std.specs.List.{AllByRecursion}
use Rattle.std.specs.Int.{IsPowerOfTwo}
use Rattle.std.proofs.lemmas.Bool.Decides.{nat_tests}
use Rattle.dlmalloc_chunks.specs.Request.{padded}
use Rattle.dlmalloc_chunks.specs.declared.extent.Extent.{Extent}
use Rattle.dlmalloc.specs.Extents.{extent_at}
use Rattle.dlmalloc.specs.State.{HeapState, Segment, extents_in}
use Rattle.dlmalloc.specs.Blocks.{IsBlock}
use Rattle.dlmalloc.specs.Freed.{freed}
use Rattle.dlmalloc.specs.declared.heap.Dlmalloc.{Dlmalloc}
use Rattle.dlmalloc.specs.declared.malloc_error.MallocError.{MallocError}
use Rattle.sound_heap.specs.Heap.{IsIntact}
use Rattle.machine_model.specs.declared.live.Live.{Live}
use Rattle.machine_model.proofs.Placed.{appended, stays, last_at}
use Rattle.machine_model.proofs.Ended.{left_at}
use Rattle.machine_model.proofs.Resized.{replaced_at, replaced_stays, replaced_here}
use Rattle.paged_systems.specs.Beside.{KeepsHeapWords}
use Rattle.paged_systems.specs.Words.{heap_regions, grant_of, grants_of}
use Rattle.paged_systems.specs.System.{paged}
use Rattle.kernel_heap.specs.Heap.{follows, refuses, denies, regions, word, heap_state}
use Rattle.dlmalloc.specs.Requested.{asked, IsHandedOut}
use Rattle.dlmalloc.specs.Moved.{IsGivenSize}
use Rattle.dlmalloc.specs.AfterFree.{after_free, IsFreed}
use Rattle.dlmalloc.specs.Served.{IsRefusedWith, regions_in, KeepsRegions, OnlyBlocksChange, RestsOutside, OrderRestsOutside}
use Rattle.kernel_heap.specs.Machine.{seen_of}
use Rattle.kernel_heap.specs.Numbered.{live_at}
use Rattle.kernel_heap.specs.LaidOut.{HaveRegions, IsLive, IsLaidOut}
use Rattle.kernel_heap.specs.Moves.{KeepsStateAndBins, IsKeptBeside}
use Rattle.paged_systems.specs.declared.paged_system.PagedSystem.{PagedSystem}
use Rattle.paged_systems.proofs.Numbers.{same_or_other}
use Rattle.kernel_heap.proofs.SegmentRegions.{have_found}
use Rattle.kernel_heap.proofs.SegmentsLeft.{have_all, have_freed}

-- ---- a block and its extent

-- an extent that is found begins there
found_place : (at : ℕ) (extents : List Extent) (extent : Extent) → extent_at at extents ≡ Some extent → extent.at ≡ at
found_place at [] extent there = absurd (cc)
found_place at (first ∷ extents) extent there = go (first.at == at) refl there (found_place at extents extent)
  where
    go : (b : Bool) → (first.at == at) ≡ b → (if b then Some first else extent_at at extents) ≡ Some extent →
        (extent_at at extents ≡ Some extent → extent.at ≡ at) → extent.at ≡ at
    go true test is later = (let same : first ≡ extent = cc in let place : first.at ≡ at = grind (arith, nat_tests) in
        sym (ap (λ (e : Extent). e.at) same) ∙ place)
    go false test is later = later is

module _ (heap : HeapState) (address size : ℕ) (block : IsBlock heap address size) where
  -- the block stands 16 bytes behind the beginning of its extent
  pub block_place : address ≡ block.extent.at + 16
  block_place = let low = block.low in let at = found_place (address - 16) (extents_in heap) block.extent block.there in omega arith

  pub block_there : extent_at block.extent.at (extents_in heap) ≡ Some block.extent
  block_there = subst (λ (at : ℕ). extent_at at (extents_in heap) ≡ Some block.extent)
      (sym (found_place (address - 16) (extents_in heap) block.extent block.there)) block.there

  -- the extent that begins there is the block's
  pub block_is : (extent : Extent) → address ≡ extent.at + 16 → extent_at extent.at (extents_in heap) ≡ Some extent → block.extent ≡ extent
  block_is extent place there = let same : Some block.extent ≡ Some extent = sym block_there
      ∙ (ap (λ at. extent_at at (extents_in heap)) (let p = block_place in omega arith) ∙ there) in cc

  -- a heap that has its extent has the block
  pub block_moved : (new : HeapState) → extent_at block.extent.at (extents_in new) ≡ Some block.extent → IsBlock new address size
  block_moved new there = record {
    extent = block.extent;
    there = ap (λ (at : ℕ). extent_at at (extents_in new)) (sym (found_place (address - 16) (extents_in heap) block.extent block.there)) ∙ there;
    low = block.low;
    used = block.used;
    holds = block.holds;
    little = block.little;
  }

-- ---- a block more

-- the block as the machine keeps it
abbrev pub next_live : ℕ → ℕ → ℕ → Live
next_live address size align = record { address = address; size = size; align = align }

module _ (heap new : Dlmalloc PagedSystem) (blocks : List (Option Live)) (size align address : ℕ)
    (laid : IsLaidOut heap blocks) (out : IsHandedOut regions word follows heap size align address new) where
  -- a live block has its extent still
  pub live_kept : (number : ℕ) (live : Live) → live_at blocks number ≡ Some live → IsLive (heap_state new) live
  live_kept number live is =
      let was = laid.lives number live is in
      let b = was.block in
      record {
        block = block_moved (heap_state heap) live.address live.size b (heap_state new)
            (out.more.kept b.extent b.used (block_there (heap_state heap) live.address live.size b));
        align = was.align;
      }

  -- and another place than the new one
  pub live_apart : (number : ℕ) (live : Live) → live_at blocks number ≡ Some live → live.address ≢ address
  live_apart number live is same =
      let b = (laid.lives number live is).block in
      let place = block_place (heap_state heap) live.address live.size b in
      out.more.new b.extent b.used (block_there (heap_state heap) live.address live.size b) (omega arith)

  pub laid_handed : IsPowerOfTwo align → IsLaidOut new (blocks ++ Some (next_live address size align) ∷ [])
  laid_handed power = record {
    has = have_found heap new (padded (asked size align)) out.found laid.has;
    lives = λ number live is. elim (appended blocks (Some (next_live address size align)) number live is) [
      | inl old ↦ live_kept number live old
      | inr last ↦ (let same : next_live address size align ≡ live = cc in
          subst (λ (l : Live). IsLive (heap_state new) l) same (record { block = out.block; align = power }))
    ];
    used = λ extent used there. elim (same_or_other extent.at (address - 16)) [
      | inl same ↦ (let low = out.low in record {
        number = length blocks;
        live = next_live address size align;
        is =
            last_at blocks (Some (next_live address size align));
        place = omega arith;
      })
      | inr other ↦ (let was = laid.used extent used (out.more.only extent used there other) in
          record {
            number = was.number;
            live = was.live;
            is = stays blocks (Some (next_live address size align)) was.number
                was.live was.is;
            place = was.place;
          })
    ];
    distinct = λ i j a b is_a is_b differ. elim (appended blocks (Some (next_live address size align)) i a is_a) [
      | inl old_a ↦ elim (appended blocks (Some (next_live address size align)) j b is_b) [
        | inl old_b ↦ laid.distinct i j a b old_a old_b differ
        | inr new_b ↦ (let same : next_live address size align ≡ b = cc in let at : address ≡ b.address =
            ap (λ (l : Live). l.address) same in λ e. live_apart i a old_a (e ∙ sym at))
      ]
      | inr new_a ↦ elim (appended blocks (Some (next_live address size align)) j b is_b) [
        | inl old_b ↦ (let same : next_live address size align ≡ a = cc in let at : address ≡ a.address =
            ap (λ (l : Live). l.address) same in λ e. live_apart j b old_b (sym e ∙ sym at))
        | inr new_b ↦ absurd (differ (new_a.0 ∙ sym new_b.0))
      ]
    ];
  }

-- ---- a block is freed

-- the segments have all regions still
pub have_ended : (heap new : Dlmalloc PagedSystem) (address : ℕ) → IsFreed regions word follows true true 4096 heap address
    new → HaveRegions (heap_state heap).segments (regions heap.system) →
    HaveRegions (heap_state new).segments (regions new.system)
have_ended heap new address back have =
    subst (λ (h : HeapState). HaveRegions h.segments (regions new.system)) (sym back.state)
    (subst (HaveRegions (after_free true true 4096 (freed (heap_state heap) (address - 16)) (address - 16)).segments) (sym back.regions_are)
    (have_freed true true 4096 (heap_state heap) (address - 16) (regions heap.system)
    (have_all 0 (2 ^ 64) (paged heap.system).regions heap.system.kept.laid (heap_state heap).segments have)))

-- ---- a block with another size

module _ (heap new : Dlmalloc PagedSystem) (blocks : List (Option Live)) (number : ℕ) (live : Live) (size align address : ℕ) (laid : IsLaidOut heap blocks)
    (is : live_at blocks number ≡ Some live) (out : IsGivenSize regions word follows true true 4096 heap live.address live.size align size address new) where
  place_before : live.address ≡ (laid.lives number live is).block.extent.at + 16
  place_before = block_place (heap_state heap) live.address live.size (laid.lives number live is).block

  -- another live block begins elsewhere
  elsewhere : (i : ℕ) (it : Live) → i ≢ number → (at : live_at blocks i ≡ Some it) → (laid.lives i it at).block.extent.at ≢ live.address - 16
  elsewhere i it differ at same =
      let place = block_place (heap_state heap) it.address it.size (laid.lives i it at).block in
      let here = place_before in
      laid.distinct i number it live at is differ (omega arith)

  -- it has its extent still
  pub live_stays : (i : ℕ) (it : Live) → i ≢ number → live_at blocks i ≡ Some it → IsLive (heap_state new) it
  live_stays i it differ at =
      let was = laid.lives i it at in
      let b = was.block in
      record {
        block = block_moved (heap_state heap) it.address it.size b (heap_state new)
            (out.moved.kept b.extent b.used (elsewhere i it differ at) (block_there (heap_state heap) it.address it.size
            b));
        align = was.align;
      }

  -- and another place than the block has now
  pub live_beside : (i : ℕ) (it : Live) → i ≢ number → live_at blocks i ≡ Some it → it.address ≢ address
  live_beside i it differ at same =
      let b = (laid.lives i it at).block in
      let place = block_place (heap_state heap) it.address it.size b in
      out.moved.apart b.extent b.used (elsewhere i it differ at) (block_there (heap_state heap) it.address it.size b) (omega arith)

  -- the segments have all regions, where the old block was freed too
  have_resized : HaveRegions (heap_state new).segments (regions new.system)
  have_resized =
      let found = have_found heap out.middle (padded (asked size align)) out.found laid.has in
      elim (same_or_other address live.address) [
        | inl same ↦ subst (λ (h : Dlmalloc PagedSystem). HaveRegions (heap_state h).segments (regions h.system)) (sym (out.here same).0) found
        | inr other ↦ have_ended out.middle new live.address (out.elsewhere other) found
      ]

  pub laid_resized : IsPowerOfTwo align → IsLaidOut new (slice_set blocks number (Some (next_live address size align)))
  laid_resized power = record {
    has = have_resized;
    lives = λ i it at. elim (replaced_at blocks number (next_live address size align) i it at) [
      | inl same ↦ subst (λ (l : Live). IsLive (heap_state new) l) same.1 (record { block = out.block; align = power })
      | inr other ↦ live_stays i it other.0 other.1
    ];
    used = λ extent used there. elim (same_or_other extent.at (address - 16)) [
      | inl same ↦ (let low = out.low in record {
        number = number;
        live = next_live address size align;
        is =
            replaced_here blocks number live (next_live address size align) is;
        place = omega arith;
      })
      | inr other ↦ (
          let was = laid.used extent used (out.moved.only extent used other there) in
          let place = was.place in
          let here = place_before in
          let apart = out.moved.gone extent used other there in
          record {
            number = was.number;
            live = was.live;
            is = replaced_stays blocks number was.number was.live (Some (next_live address size align))
                (λ e. (let same : was.live ≡ live = cc (was.is, is, e) in let at = ap (λ (l : Live). l.address) same in apart (omega arith))) was.is;
            place = was.place;
          })
    ];
    distinct = λ i j a b is_a is_b differ. elim (replaced_at blocks number (next_live address size align) i a is_a) [
      | inl same_a ↦ elim (replaced_at blocks number (next_live address size align) j b is_b) [
        | inl same_b ↦ absurd (differ (same_a.0 ∙ sym same_b.0))
        | inr other_b ↦ (let at : address ≡ a.address = ap (λ (l : Live). l.address) same_a.1 in λ e. live_beside j b other_b.0 other_b.1 (sym e ∙ sym at))
      ]
      | inr other_a ↦ elim (replaced_at blocks number (next_live address size align) j b is_b) [
        | inl same_b ↦ (let at : address ≡ b.address = ap (λ (l : Live). l.address) same_b.1 in λ e. live_beside i a other_a.0 other_a.1 (e ∙ sym at))
        | inr other_b ↦ laid.distinct i j a b other_a.1 other_b.1 differ
      ]
    ];
  }

-- ---- no block more

-- the blocks stay laid out where the regions stay, and the heap stays in its state
pub laid_still : (heap new : Dlmalloc PagedSystem) (blocks : List (Option Live)) → IsLaidOut heap blocks →
    regions new.system ≡ regions heap.system → heap_state new ≡ heap_state heap → IsLaidOut new blocks
laid_still heap new blocks laid same state = record {
  has = subst (λ (h : HeapState). HaveRegions h.segments (regions new.system)) (sym state) (subst (HaveRegions (heap_state heap).segments) (sym same) laid.has);
  lives = λ number live is. subst (λ (h : HeapState). IsLive h live) (sym state) (laid.lives number live is);
  used = λ extent used there. laid.used extent used (subst (λ (h : HeapState). extent_at extent.at (extents_in h) ≡ Some extent) state there);
  distinct = laid.distinct;
}

module _ (heap new : Dlmalloc PagedSystem) (blocks : List (Option Live)) (size : ℕ) (error : MallocError)
    (denied : IsRefusedWith regions word follows refuses denies heap size error new) where
  -- a refused request leaves the machine as it was
  pub seen_denied : (top : ℕ) → seen_of top new blocks ≡ seen_of top heap blocks
  seen_denied top i = record {
    paged = denied.same.refused i;
    granularity =
        (ap (λ (h : HeapState). h.granularity) denied.same.state) i;
    blocks = blocks;
    top = top;
  }

  pub laid_denied : IsLaidOut heap blocks → IsLaidOut new blocks
  laid_denied laid = laid_still heap new blocks laid (ap grants_of denied.same.refused) denied.same.state

-- ---- a block less

module _ (heap new : Dlmalloc PagedSystem) (blocks : List (Option Live)) (number : ℕ) (live : Live) (laid : IsLaidOut heap blocks)
    (is : live_at blocks number ≡ Some live) (back : IsFreed regions word follows true true 4096 heap live.address new) where
  pub granularity_ended : new.granularity ≡ heap.granularity
  granularity_ended = back.granularity

  -- every other live block has its extent still
  pub live_left : (other : ℕ) (it : Live) → other ≢ number → live_at blocks other ≡ Some it → IsLive (heap_state new) it
  live_left other it differ at =
      let was = laid.lives other it at in
      let b = was.block in
      let place = block_place (heap_state heap) it.address it.size b in
      let low = (laid.lives number live is).block.low in
      let apart = laid.distinct other number it live at is differ in
      record {
        block = block_moved (heap_state heap) it.address it.size b (heap_state new)
            (back.less.only b.extent b.used (block_there (heap_state heap) it.address it.size b) (λ e. apart (omega arith)));
        align = was.align;
      }

  pub laid_ended : IsLaidOut new (slice_set blocks number None)
  laid_ended = record {
    has = have_ended heap new live.address back laid.has;
    lives = λ other it at. (let was = left_at blocks number other it at in live_left other it was.0 was.1);
    used = λ extent used there. (
        let was = laid.used extent used (back.less.kept extent used there) in
        let place = was.place in
        let apart = back.less.new extent used there in
        record {
          number = was.number;
          live = was.live;
          is = replaced_stays blocks number was.number was.live None (λ e.
              (let same : was.live ≡ live = cc (was.is, is, e) in let at = ap (λ (l : Live). l.address) same in
              apart (omega arith))) was.is;
          place = was.place;
        });
    distinct = λ i j a b is_a is_b differ. laid.distinct i j a b (left_at blocks number i a is_a).1 (left_at blocks number j b is_b).1 differ;
  }

-- ---- beside the heap

-- a system with the same regions keeps those of the segments
same_regions : (heap : Dlmalloc PagedSystem) → (system : PagedSystem) → regions system ≡ regions heap.system →
    KeepsRegions (heap_state heap).segments (regions heap.system) (regions system)
same_regions heap system same = subst (KeepsRegions (heap_state heap).segments (regions heap.system)) (sym same) (each (heap_state heap).segments)
  where
    each : (segments : List Segment) → AllByRecursion (λ (segment : Segment).
        regions_in segment (regions heap.system) ≡ regions_in segment (regions heap.system)) segments
    each [] = tt
    each (segment ∷ segments) = (refl, each segments)

-- A heap is as it was where the regions of its system stay, and of their words those of blocks alone are changed.
module _ (heap : Dlmalloc PagedSystem) (intact : IsIntact regions word heap) (system : PagedSystem) (same : regions system ≡ regions heap.system)
    (outside : OnlyBlocksChange (regions heap.system) (heap_state heap) (word heap.system) (word system)) (rests : RestsOutside regions word heap) where
  pub intact_outside : IsIntact regions word (record heap { system = system })
  intact_outside = let rest = rests intact.sound system (same_regions heap system same) outside in record { sound = rest.0; linked = rest.2 intact.linked }

  pub kept_outside : OrderRestsOutside regions word heap → IsKeptBeside heap (record heap { system = system })
  kept_outside order = record {
    rest = refl;
    regions_same = same;
    still = ((rests intact.sound system (same_regions heap system same) outside).1, order intact.sound system (same_regions heap system same) outside);
  }

-- so it is if something was done beside it
module _ (heap : Dlmalloc PagedSystem) (intact : IsIntact regions word heap) (system : PagedSystem)
    (beside : KeepsHeapWords (paged heap.system) (paged system)) (rests : RestsOutside regions word heap) where
  pub intact_beside : IsIntact regions word (record heap { system = system })
  intact_beside = intact_outside heap intact system beside.regions (λ k granted there outside. beside.words k granted) rests

  pub kept_beside : OrderRestsOutside regions word heap → IsKeptBeside heap (record heap { system = system })
  kept_beside order = kept_outside heap intact system beside.regions (λ k granted there outside. beside.words k granted) rests order

-- what is seen of the machine is different in the system alone
pub seen_beside : (top : ℕ) (heap new : Dlmalloc PagedSystem) (blocks : List (Option Live)) → IsKeptBeside heap new →
    seen_of top new blocks ≡ record (seen_of top heap blocks) { paged = paged new.system }
seen_beside top heap new blocks kept i = record { paged = paged new.system; granularity = (kept.rest i).granularity; blocks = blocks; top = top }

-- and in nothing if the system is as it was
pub seen_refused : (top : ℕ) (heap new : Dlmalloc PagedSystem) (blocks : List (Option Live)) → IsKeptBeside heap new →
    paged new.system ≡ paged heap.system → seen_of top new blocks ≡ seen_of top heap blocks
seen_refused top heap new blocks kept same = seen_beside top heap new blocks kept ∙ ap (λ p. record (seen_of top heap blocks) { paged = p }) same

-- one stay behind another
pub still_none : (heap : Dlmalloc PagedSystem) → KeepsStateAndBins heap heap
still_none heap = (refl, λ before. (before, λ n. refl))

-- also where a call ends for want of memory
pub still_err : {T E : Type 0} (result : Result T E) (heap : Dlmalloc PagedSystem) →
    OnErr result (KeepsStateAndBins heap heap)
still_err (Ok value) heap = tt
still_err (Err error) heap = still_none heap

pub still_on : (old middle new : Dlmalloc PagedSystem) → KeepsStateAndBins old middle → KeepsStateAndBins middle new →
    KeepsStateAndBins old new
still_on old middle new first second = (
  second.0 ∙ first.0,
  λ before. (let one = first.1 before in let two = second.1 one.0 in (two.0, λ n. two.1 n ∙ one.1 n)),
)

-- ---- no block

pub laid_new : (heap : Dlmalloc PagedSystem) → (heap_state heap).segments ≡ [] → (paged heap.system).regions ≡ [] → IsLaidOut heap []
laid_new heap none empty = record {
  has = subst (λ list. HaveRegions (heap_state heap).segments (map grant_of (heap_regions list))) (sym empty) tt;
  lives = λ number live is. absurd (cc);
  used = λ extent used there. absurd (let gone : extent_at extent.at [] ≡ Some extent =
      subst (λ (segments : List Segment). extent_at extent.at (Rattle.std.specs.List.flat_map
      (λ (segment : Segment). segment.extents) segments) ≡ Some extent) none there in cc);
  distinct = λ i j a b is_a is_b differ. absurd (cc);
}

-- The settings of a heap: its extents stay, and so do the blocks and what is seen of the system.
use Rattle.std.proofs.Common.{◌≡◌, ℕ, List, Option, sym, ap, ◌∙◌, subst}
use Rattle.dlmalloc.specs.Extents.{extent_at}
use Rattle.dlmalloc.specs.State.{Segment, extents_in}
use Rattle.dlmalloc.specs.declared.heap.Dlmalloc.{Dlmalloc}
use Rattle.machine_model.specs.declared.live.Live.{Live}
use Rattle.paged_systems.specs.System.{paged}
use Rattle.kernel_heap.specs.Heap.{regions, heap_state}
use Rattle.kernel_heap.specs.Machine.{seen_of}
use Rattle.kernel_heap.specs.LaidOut.{HaveRegions, IsLaidOut}
use Rattle.paged_systems.specs.declared.paged_system.PagedSystem.{PagedSystem}
use Rattle.kernel_heap.proofs.Laid.{block_there, block_moved}

module _ (heap new : Dlmalloc PagedSystem) (blocks : List (Option Live)) (system : new.system ≡ heap.system) where
  -- the machine is seen with the new granularity
  pub seen_set : (top granularity : ℕ) → new.granularity ≡ granularity → seen_of top new blocks ≡ record (seen_of top heap blocks) { granularity = granularity }
  seen_set top granularity is i = record { paged = paged (system i); granularity = is i; blocks = blocks; top = top }

  module _ (laid : IsLaidOut heap blocks) (same : (heap_state new).segments ≡ (heap_state heap).segments) where
    extents_same : (at : ℕ) → extent_at at (extents_in (heap_state new)) ≡ extent_at at (extents_in (heap_state heap))
    extents_same at = ap (λ (segments : List Segment). extent_at at (extents_in (record (heap_state heap) { segments = segments }))) same

    pub laid_set : IsLaidOut new blocks
    laid_set = record {
      has = subst (λ (p : PagedSystem). HaveRegions (heap_state new).segments (regions p)) (sym system)
          (subst (λ (segments : List Segment). HaveRegions segments (regions heap.system)) (sym same) laid.has);
      lives = λ number live is. (let was = laid.lives number live is in record {
        block = block_moved (heap_state heap) live.address live.size was.block (heap_state new)
            (extents_same was.block.extent.at ∙ block_there (heap_state heap) live.address live.size was.block);
        align = was.align;
      });
      used = λ extent used there. laid.used extent used (sym (extents_same extent.at) ∙ there);
      distinct = laid.distinct;
    }

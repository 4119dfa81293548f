-- Memory of the heap goes back to the system: the answer is allowed, and the machine stands for the state with the regions
-- that are left.
use Rattle.std.proofs.Common.{◌≡◌, ◌≢◌, ℕ, ◌+◌, ◌-◌, ◌^◌, ◌<◌, ◌≤◌, inl, inr, Bool, true, false, nat_lt, List, [], ◌∷◌, length, refl, sym, ap, ◌∙◌, subst, arith, Option, Some, None, is_some, IsTrue}
use Rattle.std.specs.Prelude.{if◌then◌else◌}
use Rattle.std.specs.List.{list_any}
use Rattle.paging_core.specs.Walk.{reached}
use Rattle.dlmalloc.specs.State.{HeapState, Segment, extents_in}
use Rattle.dlmalloc.specs.Blocks.{ArePlaced}
use Rattle.dlmalloc.specs.Released.{passed}
use Rattle.dlmalloc.specs.Trimmed.{cut_top, cut_of, is_cut, gives_back, top_bytes, is_trimmed, trimmed, trim_releases, regions_trimmed}
use Rattle.dlmalloc.specs.Shortened.{IsTrimmed}
use Rattle.dlmalloc.specs.declared.heap.Dlmalloc.{Dlmalloc}
use Rattle.machine_model.specs.declared.live.Live.{Live}
use Rattle.machine_model.specs.declared.region.Region.{Region}
use Rattle.machine_model.specs.declared.call.Call.TheVariants.{Trim}
use Rattle.machine_model.specs.declared.answer.Reply.TheVariants.{Trimmed}
use Rattle.machine_model.specs.State.{State, Block, block_at, cover, is_within, total_pages}
use Rattle.machine_model.specs.Place.{meets_any}
use Rattle.machine_model.specs.Cut.{AreCut}
use Rattle.machine_model.specs.Memory.{HoldsBytes}
use Rattle.machine_model.specs.Run.{IsGood, IsHeapRegion}
use Rattle.machine_model.specs.Machine.{Stands, IsStep, outline}
use Rattle.machine_model.proofs.Cut.{none_cut}
use Rattle.machine_model.proofs.Known.{known_within}
use Rattle.machine_model.proofs.Placed.{outline_of}
use Rattle.machine_model.proofs.Shortened.{length_cut, none_gone, good_cut}
use Rattle.machine_model.proofs.Slots.{settled_same}
use Rattle.paged_systems.specs.System.{paged, pageless_frames}
use Rattle.kernel_heap.specs.Moves.{marks_of, AreRegionsTold}
use Rattle.paged_systems.specs.Words.{heap_regions}
use Rattle.kernel_heap.specs.Heap.{regions, word, follows, heap_state}
use Rattle.kernel_heap.specs.Machine.{seen_of}
use Rattle.kernel_heap.specs.Numbered.{live_at}
use Rattle.kernel_heap.specs.LaidOut.{has_region, HaveRegions, IsLive, IsLaidOut}
use Rattle.paged_systems.specs.declared.paged_system.PagedSystem.{PagedSystem}
use Rattle.kernel_heap.proofs.BlockPlaces.{byte_kept}
use Rattle.kernel_heap.proofs.Ended.{trim_gives_back}
use Rattle.paged_systems.proofs.HeapRegions.{all_more}
use Rattle.kernel_heap.proofs.Laid.{block_there, block_moved}
use Rattle.paged_systems.proofs.Numbers.{same_or_other}
use Rattle.kernel_heap.proofs.KeptEnd.{IsHeadAt, trim_part, part_stays}
use Rattle.kernel_heap.proofs.ShortenedRegions.{AreShortened}
use Rattle.kernel_heap.proofs.ReleasedRegions.{IsShortenedBy, follows_shortened}
use Rattle.kernel_heap.proofs.ReleasedState.{left_state, regions_cut, frames_left, enough_left, stands_left}
use Rattle.paged_systems.proofs.Still.{granted_within}
use Rattle.kernel_heap.proofs.SegmentsLeft.{Has, have_all, have_trimmed}

-- ---- the granularity stays

cut_granularity : (less : ℕ) (heap : HeapState) (segments : List Segment) → (cut_top less (record heap { segments = segments })).granularity ≡ heap.granularity
cut_granularity less heap [] = refl
cut_granularity less heap (segment ∷ segments) = refl

module _ (pad : ℕ) (heap : HeapState) where
  abbrev after : Bool → HeapState
  after d = passed true true (if d then cut_top (cut_of heap pad) heap else heap)

  cut : (d : Bool) → (after d).granularity ≡ heap.granularity
  cut true = cut_granularity (cut_of heap pad) heap heap.segments
  cut false = refl

  trimmed_granularity : (trimmed true true 4096 pad heap).granularity ≡ heap.granularity
  trimmed_granularity =
      go (is_trimmed pad heap) (gives_back true true 4096 pad heap) (is_cut true 4096 pad heap)
      (nat_lt (after (is_cut true 4096 pad heap)).trim_check (top_bytes (after (is_cut true 4096 pad heap))))
    where
      go : (b c d e : Bool) → (if b then (if c then after d else (if e then record (after d) { trim_check = 2 ^ 64 - 1 }
          else after d)) else heap).granularity ≡ heap.granularity
      go false c d e = refl
      go true true d e = cut d
      go true false d true = cut d
      go true false d false = cut d

-- ---- the machine

module _ (heap new : Dlmalloc PagedSystem) (blocks : List (Option Live)) (pad : ℕ) (answer : Bool)
    (laid : IsLaidOut heap blocks) (out : IsTrimmed regions word follows true true 4096 heap pad answer new) where
  -- a live block has its extent still
  live_now : (number : ℕ) (live : Live) → live_at blocks number ≡ Some live → IsLive (heap_state new) live
  live_now number live is =
      let was = laid.lives number live is in
      let b = was.block in
      record {
        block = block_moved (heap_state heap) live.address live.size b (heap_state new)
            (out.used.still b.extent b.used (block_there (heap_state heap) live.address live.size b));
        align = was.align;
      }

  pub laid_trimmed : IsLaidOut new blocks
  laid_trimmed = record {
    has = subst (λ (h : HeapState). HaveRegions h.segments (regions new.system)) (sym out.state)
        (subst (HaveRegions (trimmed true true 4096 pad (heap_state heap)).segments) (sym out.regions_are)
        (all_more (Has (trimmed true true 4096 pad (heap_state heap)).segments)
        (λ region. IsTrue (list_any (has_region region) (trimmed true true 4096 pad (heap_state heap)).segments))
        (λ region is. is.1)
        (regions_trimmed true true 4096 pad (heap_state heap) (regions heap.system))
        (have_trimmed true true 4096 pad (heap_state heap) (regions heap.system)
        (have_all 0 (2 ^ 64) (paged heap.system).regions heap.system.kept.laid (heap_state heap).segments laid.has))));
    lives = live_now;
    used = λ extent used there. laid.used extent used (out.used.before extent used there);
    distinct = laid.distinct;
  }

  by : IsShortenedBy (paged heap.system) (paged new.system) (trim_releases true true 4096 pad (heap_state heap))
  by = follows_shortened (paged heap.system) (paged new.system) (trim_releases true true 4096 pad (heap_state heap))
      heap.system.kept (trim_gives_back true true 4096 pad (heap_state heap)) out.followed

  short : AreShortened (paged heap.system) (paged new.system) by.slot
  short = by.short

  part_left : (one : ℕ) → by.slot ≡ Some one → IsTrue (meets_any one 512 (paged new.system).regions)
  part_left = part_stays (paged heap.system) new (trim_releases true true 4096 pad (heap_state heap)) out.sound by
      (λ at size left more is some. subst (λ (h : HeapState). IsHeadAt h at left) (sym out.state) (trim_part pad (heap_state heap) at size left more some is))

  pub few_left : length (paged new.system).regions ≤ length (paged heap.system).regions
  few_left = length_cut (paged heap.system).regions (paged new.system).regions short.cut

  module _ (placed_before : ArePlaced (regions heap.system) (heap_state heap))
      (placed_now : ArePlaced (regions new.system) (heap_state new)) {top : ℕ} (s : State) (good : IsGood s)
      (stands : Stands (seen_of top heap blocks) s) where
    abbrev left : List Region
    left = heap_regions (paged new.system).regions

    live_of : (i : ℕ) (it : Block) → block_at s.blocks i ≡ Some it → live_at blocks i ≡ Some (outline it)
    live_of i it is = outline_of s.blocks blocks (sym stands.blocks) i it is

    -- what was known of the blocks holds still
    held : HoldsBytes (reached (paged new.system).words (paged new.system).root) s.blocks
    held = record {
      known = λ i k byte it is cell.
          let at = live_of i it is in
          let b = (laid.lives i (outline it) at).block in
          let b' = (live_now i (outline it) at).block in
          let many = (good.each i it is).cells in
          let less = known_within it.cells k byte cell in
          byte_kept heap new placed_before placed_now (extents_in (heap_state heap)) out.kept it.address it.size b b'
          (block_there (heap_state heap) it.address it.size b) k (omega arith)
          ∙ stands.bytes.known i k byte it is cell;
    }

    granted_now : (number : ℕ) (block : Block) → block_at s.blocks number ≡ Some block → (k : ℕ) → k < cover block →
        IsTrue (list_any (is_within (block.address + k)) left)
    granted_now number block is k less =
        granted_within (paged new.system) (block.address + k)
        ((placed_now block.address block.size (live_now number (outline block) (live_of number block is)).block).granted
        (block.address + k) (omega arith) (omega arith))

    cut_now : AreCut s.heap left
    cut_now = regions_cut (seen_of top heap blocks) (paged new.system) s by.slot good stands heap.system.kept.mapped new.system.kept.mapped short part_left

    abbrev s_left : State
    s_left = left_state s left s.blocks

    good_now : IsGood s_left
    good_now = good_cut s left good cut_now granted_now (enough_left (seen_of top heap blocks) (paged new.system) s by.slot
        good stands heap.system.kept.mapped new.system.kept.mapped short part_left s.blocks)

    stands_now : Stands (seen_of top new blocks) s_left
    stands_now =
        let same : new.granularity ≡ heap.granularity = ap (λ (h : HeapState). h.granularity) out.state ∙ trimmed_granularity pad (heap_state heap) in
        subst (λ g. Stands (record (seen_of top new blocks) { granularity = g }) s_left) (sym same)
        (stands_left (seen_of top heap blocks) (paged new.system) s by.slot good stands heap.system.kept.mapped
        new.system.kept.mapped short part_left blocks s.blocks stands.blocks held)

    pages_left : pageless_frames (paged new.system) + total_pages left ≡ pageless_frames (paged heap.system) + total_pages s.heap
    pages_left = frames_left (seen_of top heap blocks) (paged new.system) s by.slot good stands heap.system.kept.mapped new.system.kept.mapped short part_left

    same_left : pageless_frames (paged new.system) ≡ pageless_frames (paged heap.system) → left ≡ s.heap
    same_left is =
        let pages = pages_left in
        none_gone s.heap left (all_more (IsHeapRegion s) (λ region. 0 < region.pages) (λ region whole. whole.0.1.some)
        s.heap good.heap) cut_now (omega (arith, pages, is))

    other_left : pageless_frames (paged new.system) ≢ pageless_frames (paged heap.system) → left ≢ s.heap
    other_left differ same = differ (let pages = pages_left in let total = ap total_pages same in omega (arith, pages, total))

    -- the regions are listed where another number of frames has no page
    pub step_trimmed : (answered : Option (List Region)) → AreRegionsTold (paged new.system) (marks_of (paged heap.system)) answered →
        IsStep s (Trim pad) (record { reply = Trimmed (is_some answered); regions = answered; large = None }) (seen_of top new blocks)
    step_trimmed answered told = elim (same_or_other (pageless_frames (paged new.system)) (pageless_frames (paged heap.system))) [
      | inl is ↦ subst (λ (a : Option (List Region)). IsStep s (Trim pad)
          (record { reply = Trimmed (is_some a); regions = a; large = None }) (seen_of top new blocks))
          (sym (told.none short.joins is)) (record {
            allowed = record { reply = (refl, (none_cut s.heap, refl)); listed = tt; large = tt };
            good = good;
            stands = subst (Stands (seen_of top new blocks)) (ap (λ (list : List Region). left_state s list s.blocks)
                (same_left is) ∙ settled_same s good.slots) stands_now;
          })
      | inr differ ↦ subst (λ (a : Option (List Region)). IsStep s (Trim pad)
          (record { reply = Trimmed (is_some a); regions = a; large = None }) (seen_of top new blocks))
          (sym (told.changed (λ joins few. differ few))) (record {
            allowed = record { reply = (refl, (cut_now, refl)); listed = other_left differ; large = tt };
            good = good_now;
            stands = stands_now;
          })
    ]

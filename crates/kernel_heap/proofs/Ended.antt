-- A block ends: the machine stands for the state without it, and with the regions that are left.
use Rattle.std.proofs.Common.{◌≡◌, ◌≢◌, ℕ, ◌+◌, ◌-◌, ◌<◌, inl, inr, Bool, true, false, if◌then◌else◌, List, [], ◌∷◌, ◌++◌, slice_set, refl, sym, ap, ◌∙◌, subst, arith, IsTrue, Option, Some, None}
use Rattle.std.specs.List.{list_any}
use Rattle.paging_core.specs.Walk.{reached}
use Rattle.dlmalloc.specs.Extents.{extent_at}
use Rattle.dlmalloc.specs.State.{HeapState, Segment, extents_in}
use Rattle.dlmalloc.specs.Freed.{freed}
use Rattle.dlmalloc.specs.Released.{handed_out, taken_back, releases, left_by_count}
use Rattle.dlmalloc.specs.Trimmed.{cut_of, end_released, cut_off, is_cut, is_trimmed, trim_releases}
use Rattle.dlmalloc.specs.AfterFree.{is_above_check, free_releases, IsFreed}
use Rattle.dlmalloc.specs.declared.heap.Dlmalloc.{Dlmalloc}
use Rattle.machine_model.specs.declared.live.Live.{Live}
use Rattle.machine_model.specs.declared.region.Region.{Region}
use Rattle.machine_model.specs.declared.call.Call.TheVariants.{Free}
use Rattle.machine_model.specs.declared.answer.Reply.TheVariants.{Done}
use Rattle.machine_model.specs.State.{State, Block, block_at, cover, is_within, total_pages}
use Rattle.machine_model.specs.Place.{meets_any}
use Rattle.machine_model.specs.Memory.{HoldsBytes}
use Rattle.machine_model.specs.Refusal.{refuse_block}
use Rattle.machine_model.specs.Answer.{without_block}
use Rattle.machine_model.specs.Cut.{AreCut}
use Rattle.machine_model.specs.Run.{IsGood, IsHeapRegion}
use Rattle.machine_model.specs.Machine.{Paged, Seen, Stands, IsStep, outline}
use Rattle.machine_model.proofs.Cut.{none_cut}
use Rattle.machine_model.proofs.Known.{known_within}
use Rattle.machine_model.proofs.Placed.{outline_of}
use Rattle.machine_model.proofs.Ended.{left_at, outline_left, good_ended}
use Rattle.machine_model.proofs.Shortened.{none_gone, good_cut}
use Rattle.machine_model.proofs.Slots.{settled_same}
use Rattle.paged_systems.specs.System.{paged, pageless_frames}
use Rattle.kernel_heap.specs.Moves.{marks_of, AreRegionsTold}
use Rattle.paged_systems.specs.Words.{heap_regions}
use Rattle.kernel_heap.specs.Heap.{regions, word, follows, heap_state}
use Rattle.dlmalloc.specs.Blocks.{ArePlaced}
use Rattle.kernel_heap.specs.Machine.{seen_of}
use Rattle.kernel_heap.specs.Numbered.{live_at}
use Rattle.kernel_heap.specs.LaidOut.{IsLaidOut}
use Rattle.paged_systems.specs.declared.paged_system.PagedSystem.{PagedSystem}
use Rattle.paged_systems.proofs.Numbers.{same_or_other}
use Rattle.kernel_heap.proofs.BlockPlaces.{byte_kept}
use Rattle.kernel_heap.proofs.Full.{behind}
use Rattle.paged_systems.proofs.HeapRegions.{all_more, granted_same}
use Rattle.kernel_heap.proofs.Laid.{block_place, block_there, live_left}
use Rattle.kernel_heap.proofs.KeptEnd.{IsHeadAt, free_part, part_stays}
use Rattle.kernel_heap.proofs.ShortenedRegions.{AreShortened}
use Rattle.kernel_heap.proofs.ReleasedRegions.{AreWholeReleases, AreReleases, IsShortenedBy, follows_shortened}
use Rattle.kernel_heap.proofs.ReleasedState.{left_state, regions_cut, frames_left, enough_left, stands_left}

-- ---- what a free does further grants nothing

pub whole_releases : (segments : List Segment) → AreWholeReleases (releases segments)
whole_releases [] = tt
whole_releases (segment ∷ segments) = (refl, whole_releases segments)

pub all_releases : (segments : List Segment) → AreReleases (releases segments)
all_releases [] = tt
all_releases (segment ∷ segments) = whole_releases segments

-- a trim cuts the end of the head segment first
pub trim_gives_back : (frees parts : Bool) (unit pad : ℕ) (heap : HeapState) → AreReleases (trim_releases frees parts unit pad heap)
trim_gives_back frees parts unit pad heap = trim (is_trimmed pad heap)
  where
    end : (segments : List Segment) → AreReleases (end_released (cut_of heap pad) segments ++ releases (taken_back frees (handed_out parts heap.segments)))
    end [] = all_releases (taken_back frees (handed_out parts heap.segments))
    end (head ∷ rest) = whole_releases (taken_back frees (handed_out parts heap.segments))

    cut : (b : Bool) → AreReleases ((if b then end_released (cut_of heap pad) heap.segments else []) ++ releases
        (taken_back frees (handed_out parts heap.segments)))
    cut true = end heap.segments
    cut false = all_releases (taken_back frees (handed_out parts heap.segments))

    trim : (b : Bool) → AreReleases (if b then cut_off parts unit pad heap ++ releases (taken_back frees (handed_out parts heap.segments)) else [])
    trim true = cut (is_cut parts unit pad heap)
    trim false = tt

pub free_gives_back : (frees parts : Bool) (unit : ℕ) (heap : HeapState) (at : ℕ) → AreReleases (free_releases frees parts unit heap at)
free_gives_back frees parts unit heap at = above (is_above_check heap at)
  where
    above : (b : Bool) → AreReleases (if b then trim_releases frees parts unit 0 heap else releases (left_by_count frees parts heap at))
    above true = trim_gives_back frees parts unit 0 heap
    above false = all_releases (left_by_count frees parts heap at)

-- so a free cuts the regions
pub free_shortened : (heap new : Dlmalloc PagedSystem) (address : ℕ) → IsFreed regions word follows true true 4096 heap address new →
    IsShortenedBy (paged heap.system) (paged new.system) (free_releases true true 4096 (freed (heap_state heap) (address - 16)) (address - 16))
free_shortened heap new address back = follows_shortened (paged heap.system) (paged new.system)
    (free_releases true true 4096 (freed (heap_state heap) (address - 16)) (address - 16)) heap.system.kept
    (free_gives_back true true 4096 (freed (heap_state heap) (address - 16)) (address - 16)) back.followed

-- and leaves a part of the slot that is cut by it
pub free_leaves_part : (old : Paged) (heap new : Dlmalloc PagedSystem) (address : ℕ) → IsFreed regions word follows true true 4096 heap address new →
    (by : IsShortenedBy old (paged new.system) (free_releases true true 4096 (freed (heap_state heap) (address - 16)) (address - 16))) →
    (one : ℕ) → by.slot ≡ Some one → IsTrue (meets_any one 512 (paged new.system).regions)
free_leaves_part old heap new address back by = part_stays old new (free_releases true true 4096
    (freed (heap_state heap) (address - 16)) (address - 16)) back.sound by
    (λ at size left more is some. subst (λ (h : HeapState). IsHeadAt h at left) (sym back.state)
    (free_part (freed (heap_state heap) (address - 16)) (address - 16) at size left more some is))

-- ---- the step

module _ {top : ℕ} (heap new : Dlmalloc PagedSystem) (blocks : List (Option Live)) (number : ℕ) (live : Live) (laid : IsLaidOut heap blocks)
    (is : live_at blocks number ≡ Some live) (back : IsFreed regions word follows true true 4096 heap live.address new)
    (placed_before : ArePlaced (regions heap.system) (heap_state heap)) (placed_now : ArePlaced (regions new.system) (heap_state new))
    (s : State) (good : IsGood s) (stands : Stands (seen_of top heap blocks) s) where
  abbrev m : Seen
  m = seen_of top heap blocks

  abbrev m' : Seen
  m' = seen_of top new (slice_set blocks number None)

  abbrev left : List Region
  left = heap_regions (paged new.system).regions

  by : IsShortenedBy (paged heap.system) (paged new.system) (free_releases true true 4096 (freed (heap_state heap) (live.address - 16)) (live.address - 16))
  by = free_shortened heap new live.address back

  short : AreShortened (paged heap.system) (paged new.system) by.slot
  short = by.short

  part_left : (one : ℕ) → by.slot ≡ Some one → IsTrue (meets_any one 512 (paged new.system).regions)
  part_left = free_leaves_part (paged heap.system) heap new live.address back by

  -- what was known of the other blocks holds still
  holds : HoldsBytes (reached (paged new.system).words (paged new.system).root) (without_block s.blocks number)
  holds = record {
    known = λ i k byte it at cell.
        let was = left_at s.blocks number i it at in
        let there = outline_of s.blocks blocks (sym stands.blocks) i it was.1 in
        let b = (laid.lives i (outline it) there).block in
        let b' = (live_left heap new blocks number live laid is back i (outline it) was.0 there).block in
        let many = (good.each i it was.1).cells in
        let less = known_within it.cells k byte cell in
        let kept : extent_at b.extent.at (extents_in (heap_state new)) ≡ Some b.extent = still i it was.0 there in
        byte_kept heap new placed_before placed_now (extents_in (heap_state new)) back.kept it.address it.size b b' kept k (omega arith)
        ∙ stands.bytes.known i k byte it was.1 cell;
  }
    where
      still : (i : ℕ) (it : Block) → i ≢ number → (there : live_at blocks i ≡ Some (outline it)) →
          extent_at (laid.lives i (outline it) there).block.extent.at (extents_in (heap_state new)) ≡ Some (laid.lives i (outline it) there).block.extent
      still i it differ there =
          let b = (laid.lives i (outline it) there).block in
          let place = block_place (heap_state heap) it.address it.size b in
          let low = (laid.lives number live is).block.low in
          let apart = laid.distinct i number (outline it) live there is differ in
          back.less.only b.extent b.used (block_there (heap_state heap) it.address it.size b) (λ e. apart (omega arith))

  -- and they lie in the regions that are left
  in_left : (i : ℕ) (it : Block) → block_at (without_block s.blocks number) i ≡ Some it → (k : ℕ) → k < cover it →
      IsTrue (list_any (is_within (it.address + k)) left)
  in_left i it at k less =
      let was = left_at s.blocks number i it at in
      let there = outline_of s.blocks blocks (sym stands.blocks) i it was.1 in
      let b' = (live_left heap new blocks number live laid is back i (outline it) was.0 there).block in
      sym (granted_same left (it.address + k)) ∙ (placed_now it.address it.size b').granted (it.address + k) (omega arith) (omega (arith, less))

  known : refuse_block (block_at s.blocks number) ≡ None
  known = ap refuse_block (behind heap blocks laid s good stands number live is).1

  cut : AreCut s.heap left
  cut = regions_cut m (paged new.system) s by.slot good stands heap.system.kept.mapped new.system.kept.mapped short part_left

  abbrev s_left : State
  s_left = left_state s left (without_block s.blocks number)

  good_left : IsGood s_left
  good_left = good_cut (record s { blocks = without_block s.blocks number }) left (good_ended s number good) cut in_left
      (enough_left m (paged new.system) s by.slot good stands heap.system.kept.mapped new.system.kept.mapped short part_left (without_block s.blocks number))

  stands_now : Stands m' s_left
  stands_now = subst (λ g. Stands (record m' { granularity = g }) s_left) (sym back.granularity)
      (stands_left m (paged new.system) s by.slot good stands heap.system.kept.mapped new.system.kept.mapped short part_left
      (slice_set blocks number None) (without_block s.blocks number)
      (ap (λ list. slice_set list number None) stands.blocks ∙ sym (outline_left s.blocks number)) holds)

  pages_left : pageless_frames (paged new.system) + total_pages left ≡ pageless_frames (paged heap.system) + total_pages s.heap
  pages_left = frames_left m (paged new.system) s by.slot good stands heap.system.kept.mapped new.system.kept.mapped short part_left

  -- where as many frames have no page, no region was cut
  step_kept : pageless_frames (paged new.system) ≡ pageless_frames (paged heap.system) →
      IsStep s (Free number) (record { reply = Done; regions = None; large = None }) m'
  step_kept few =
      let pages = pages_left in
      let same : left ≡ s.heap = none_gone s.heap left (all_more (IsHeapRegion s) (λ region. 0 < region.pages)
      (λ region whole. whole.0.1.some) s.heap good.heap) cut (omega (arith, pages, few)) in
      let ended = good_ended s number good in
      record {
        allowed = record { reply = (known, none_cut s.heap); listed = tt; large = tt };
        good = ended;
        stands = subst (Stands m') (ap (λ (list : List Region). left_state s list (without_block s.blocks number)) same
            ∙ settled_same (record s { blocks = without_block s.blocks number }) ended.slots) stands_now;
      }

  -- else the regions that are left are listed
  step_cut : pageless_frames (paged new.system) ≢ pageless_frames (paged heap.system) →
      IsStep s (Free number) (record { reply = Done; regions = Some left; large = None }) m'
  step_cut more = record {
    allowed = record {
      reply = (known, cut);
      listed = λ same. more (let pages = pages_left in let total =
          ap total_pages same in omega (arith, pages, total));
      large = tt;
    };
    good = good_left;
    stands = stands_now;
  }

  pub step_ended : (answered : Option (List Region)) → AreRegionsTold (paged new.system) (marks_of (paged heap.system)) answered →
      IsStep s (Free number) (record { reply = Done; regions = answered; large = None }) m'
  step_ended answered told = elim (same_or_other (pageless_frames (paged new.system)) (pageless_frames (paged heap.system))) [
    | inl few ↦ subst (λ (list : Option (List Region)). IsStep s (Free number)
        (record { reply = Done; regions = list; large = None }) m') (sym (told.none short.joins few)) (step_kept few)
    | inr more ↦ subst (λ (list : Option (List Region)). IsStep s (Free number)
        (record { reply = Done; regions = list; large = None }) m') (sym (told.changed (λ joins few. more few))) (step_cut more)
  ]

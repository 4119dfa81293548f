-- A block gets another size, where it is or elsewhere: the answer is allowed, and the machine stands for the state with it.
use Rattle.std.proofs.Common.{◌≡◌, ◌≢◌, ℕ, ◌+◌, ◌-◌, ◌%◌, ◌<◌, ◌≤◌, inl, inr, List, [], ◌∷◌, map, slice_set, refl, sym, ap, ◌∙◌, subst, arith, Bool, true, false, not, ◌==◌, if◌then◌else◌, Option, Some, None, option_map, IsTrue}
use Rattle.std.specs.Prelude.{slice_index}
use Rattle.std.specs.List.{list_any}
use Rattle.std.specs.Int.{w64, to_le_bytes, is_power_of_two, IsPowerOfTwo}
use Rattle.paging_core.specs.Prefix.{Prefix}
use Rattle.paging_core.specs.Walk.{reached}
use Rattle.dlmalloc_chunks.specs.Request.{limit, wanted}
use Rattle.heap_memory.specs.declared.grant.Grant.{Grant}
use Rattle.heap_memory.specs.Regions.{with_grant}
use Rattle.dlmalloc_chunks.proofs.PowersOfTwo.{test_of_power}
use Rattle.dlmalloc_chunks.specs.declared.extent.Extent.{Extent}
use Rattle.dlmalloc.specs.Extents.{extent_at}
use Rattle.dlmalloc.specs.State.{extents_in}
use Rattle.std.proofs.lemmas.Bool.Decides.{nat_tests}
use Rattle.dlmalloc.specs.Blocks.{ArePlaced, BlocksAreApart}
use Rattle.dlmalloc.specs.Heap.{IsGranularity}
use Rattle.dlmalloc.specs.Requested.{asked, IsFound, IsMemberServed}
use Rattle.dlmalloc.specs.Moved.{others_at, IsGivenSize, HasByteOf}
use Rattle.dlmalloc.specs.Served.{IsRefusedWith}
use Rattle.dlmalloc.specs.declared.malloc_error.MallocError.{MallocError}
use Rattle.machine_model.specs.declared.answer.Refusal.{Refusal}
use Rattle.dlmalloc.specs.declared.heap.Dlmalloc.{Dlmalloc}
use Rattle.machine_model.specs.declared.live.Live.{Live}
use Rattle.machine_model.specs.declared.region.Region.{Region}
use Rattle.machine_model.specs.declared.answer.Reply.TheVariants.{Block as Placed}
use Rattle.machine_model.specs.declared.answer.Refusal.TheVariants.{UnknownBlock}
use Rattle.machine_model.specs.State.{State, Known, Block, block_at, cell_at, is_within}
use Rattle.machine_model.specs.Place.{meets_any}
use Rattle.machine_model.specs.Memory.{HoldsBytes}
use Rattle.machine_model.specs.Room.{IsGrowth}
use Rattle.machine_model.specs.Refusal.{own_align, least_align, refuse_resizing, must_refuse, wanted_by}
use Rattle.machine_model.specs.Answer.{with_block, resized_block, IsResizing, IsCallServed, changed, without_block}
use Rattle.machine_model.specs.Run.{IsGood}
use Rattle.machine_model.specs.Machine.{Paged, Stands, IsStep, outline}
use Rattle.machine_model.proofs.Ended.{left_at}
use Rattle.machine_model.proofs.Known.{known_within}
use Rattle.machine_model.proofs.Placed.{outline_of, outline_at}
use Rattle.machine_model.proofs.Resized.{length-resized, outline_changed, good_resized, holds_resized}
use Rattle.machine_model.proofs.Shortened.{good_there, good_over}
use Rattle.paged_systems.specs.Follows.{still_none}
use Rattle.paged_systems.specs.System.{paged}
use Rattle.paged_systems.specs.Words.{heap_regions}
use Rattle.mapped_regions.specs.Mapped.{word_reached}
use Rattle.kernel_heap.specs.Heap.{regions, word, follows, refuses, denies, heap_state}
use Rattle.kernel_heap.specs.Machine.{seen_of}
use Rattle.kernel_heap.specs.Numbered.{live_at}
use Rattle.kernel_heap.specs.LaidOut.{IsLaidOut}
use Rattle.kernel_heap.specs.Refusing.{refusal_of}
use Rattle.kernel_heap.specs.Blocks.{resizing, align_kept, IsResizedTo}
use Rattle.kernel_heap.specs.Moves.{marks_of, AreRegionsTold, IsToldFrom, AreSlotsTold, HeapMoves}
use Rattle.kernel_heap.specs.declared.numbered_heap.NumberedHeap.{NumberedHeap}
use Rattle.paged_systems.specs.declared.paged_system.PagedSystem.{PagedSystem}
use Rattle.kernel_heap.proofs.BlockPlaces.{byte_kept, bytes_within}
use Rattle.paged_systems.proofs.Bytes.{reached_byte}
use Rattle.kernel_heap.proofs.Ended.{free_shortened, free_leaves_part}
use Rattle.kernel_heap.proofs.Found.{step_found}
use Rattle.kernel_heap.proofs.Full.{behind}
use Rattle.kernel_heap.proofs.Laid.{next_live, block_place, block_there, live_stays, live_beside}
use Rattle.kernel_heap.proofs.Refused.{refused_with, step_refused, step_denied, wanted_asked, large_resizing, not_refused_resizing}
use Rattle.paged_systems.proofs.Numbers.{same_or_other}
use Rattle.kernel_heap.proofs.ShortenedRegions.{AreShortened, shortened_still}
use Rattle.paged_systems.proofs.Still.{granted_within}

-- an extent that is found elsewhere is found among the others
other_there : (at : ℕ) (extent : Extent) (extents : List Extent) → extent.at ≢ at →
    extent_at extent.at extents ≡ Some extent → extent_at extent.at (others_at at extents) ≡ Some extent
other_there at extent [] apart there = there
other_there at extent (first ∷ extents) apart there = go (first.at == at) refl (first.at == extent.at) refl there
    (λ later. other_there at extent extents apart later)
  where
    go : (b : Bool) → (first.at == at) ≡ b → (c : Bool) → (first.at == extent.at) ≡ c → (if c then Some first else extent_at extent.at extents) ≡ Some extent →
        (extent_at extent.at extents ≡ Some extent → extent_at extent.at (others_at at extents) ≡ Some extent) →
        extent_at extent.at (if not b then first ∷ others_at at extents else others_at at extents) ≡ Some extent
    go true is true same found later = absurd (let one : first.at ≡ at = grind (arith, nat_tests) in
        let two : first.at ≡ extent.at = grind (arith, nat_tests) in apart (sym two ∙ one))
    go true is false other found later = later found
    go false is true same found later = rw same found
    go false is false other found later = rw other (later found)

-- the alignment that a block of the state has then
abbrev align_then : Bool → Block → ℕ
align_then true = own_align
align_then false = least_align

changed_resizing : (keeps : Bool) (s : State) (number size given address : ℕ) →
    changed s (resizing keeps number size) (Placed given address) ≡ record s {
      blocks =
          with_block s.blocks number (resized_block address size (align_then keeps));
    }
changed_resizing true s number size given address = refl
changed_resizing false s number size given address = refl

pub refused_resizing : (keeps : Bool) (s : State) (number size : ℕ) →
    must_refuse s (resizing keeps number size) ≡ refuse_resizing s.granularity size (align_then keeps)
    (block_at s.blocks number)
refused_resizing true s number size = refl
refused_resizing false s number size = refl

wanted_resizing : (keeps : Bool) (s : State) (number size : ℕ) → wanted_by s (resizing keeps number size) ≡ option_map
    (λ (b : Block). wanted size (align_then keeps b)) (block_at s.blocks number)
wanted_resizing true s number size = refl
wanted_resizing false s number size = refl

serves_resizing : (keeps : Bool) (s : State) (number size address : ℕ) (block : Block) (list : Option (List Region)) →
    block_at s.blocks number ≡ Some block → IsResizing s block (wanted size (align_then keeps block)) address list →
    IsCallServed s (resizing keeps number size) (Placed number address) list
serves_resizing true s number size address block list is h = rw is (refl, h)
serves_resizing false s number size address block list is h = rw is (refl, h)

-- Where a block moved, the old one was freed behind the moment at which there was room: regions are cut, and of a slot that is cut
-- by it a part is left.
pub record IsCutBehind (middle new : Paged) : Type 0 where
  pub slot : Option ℕ
  pub short : AreShortened middle new slot
  pub part : (one : ℕ) → slot ≡ Some one → IsTrue (meets_any one 512 new.regions)

pub moved_shortened : (heap new : Dlmalloc PagedSystem) (from held align size address : ℕ)
    (out : IsGivenSize regions word follows true true 4096 heap from held align size address new) →
    IsCutBehind (paged out.middle.system) (paged new.system)
moved_shortened heap new from held align size address out = elim (same_or_other address from) [
  | inl same ↦ subst (λ (h : Dlmalloc PagedSystem). IsCutBehind (paged out.middle.system) (paged h.system)) (sym (out.here same).0) (record {
    slot = None;
    short = shortened_still (paged out.middle.system) (paged out.middle.system) out.middle.system.kept.laid (still_none (paged out.middle.system));
    part = λ one is. absurd (let no : None ≡ Some one = is in cc);
  })
  | inr other ↦ (let by = free_shortened out.middle new from (out.elsewhere other) in record {
    slot = by.slot;
    short = by.short;
    part = free_leaves_part (paged out.middle.system) out.middle new from (out.elsewhere other) by;
  })
]

module _ {top : ℕ} (heap new : Dlmalloc PagedSystem) (blocks : List (Option Live)) (number : ℕ) (live : Live) (keeps : Bool)
    (size address : ℕ) (laid : IsLaidOut heap blocks)
    (is : live_at blocks number ≡ Some live) (out : IsGivenSize regions word follows true true 4096 heap live.address
    live.size (align_kept keeps live) size address new)
    (placed_before : ArePlaced (regions heap.system) (heap_state heap))
    (placed_now : ArePlaced (regions new.system) (heap_state new)) (blocks_apart : BlocksAreApart (heap_state new))
    (s : State) (good : IsGood s) (stands : Stands (seen_of top heap blocks) s) where
  abbrev align : ℕ
  align = align_kept keeps live

  -- the block of the state
  old : (block : Block) × (block_at s.blocks number ≡ Some block) × (outline block ≡ live)
  old = behind heap blocks laid s good stands number live is

  abbrev block : Block
  block = old.0

  block_address : block.address ≡ live.address
  block_address = ap (λ (l : Live). l.address) old.2

  block_size : block.size ≡ live.size
  block_size = ap (λ (l : Live). l.size) old.2

  block_align : block.align ≡ live.align
  block_align = ap (λ (l : Live). l.align) old.2

  abbrev change : Block → Block
  change = resized_block address size (align_then keeps)

  -- the alignment that the block has then is the one that the machine keeps
  align_same : align_then keeps block ≡ align
  align_same = same keeps
    where
      same : (keeps : Bool) → align_then keeps block ≡ align_kept keeps live
      same true = block_align
      same false = refl

  abbrev after_it : List (Option Block)
  after_it = with_block s.blocks number change

  abbrev blocks' : List (Option Live)
  blocks' = slice_set blocks number (Some (next_live address size align))

  live_of : (i : ℕ) (it : Block) → block_at s.blocks i ≡ Some it → live_at blocks i ≡ Some (outline it)
  live_of i it at = outline_of s.blocks blocks (sym stands.blocks) i it at

  -- ---- bytes

  -- what was known of the other blocks holds still
  others : (i k byte : ℕ) (it : Block) → i ≢ number → block_at s.blocks i ≡ Some it → cell_at it.cells k ≡ Known byte →
      reached (paged new.system).words (paged new.system).root (it.address + k) ≡ Some byte
  others i k byte it differ at cell =
      let there = live_of i it at in
      let b = (laid.lives i (outline it) there).block in
      let b' = (live_stays heap new blocks number live size align address laid is out i (outline it) differ there).block in
      let many = (good.each i it at).cells in
      let less = known_within it.cells k byte cell in
      let place = block_place (heap_state heap) it.address it.size b in
      let here = block_place (heap_state heap) live.address live.size (laid.lives number live is).block in
      let apart = laid.distinct i number (outline it) live there is differ in
      byte_kept heap new placed_before placed_now (others_at (live.address - 16) (extents_in (heap_state heap))) out.kept it.address it.size b b'
      (other_there (live.address - 16) b.extent (extents_in (heap_state heap)) (λ e. apart (omega arith))
      (block_there (heap_state heap) it.address it.size b)) k (omega arith)
      ∙ stands.bytes.known i k byte it at cell

  -- and of those of the block that both sizes have
  here : (k byte : ℕ) → k < size → cell_at block.cells k ≡ Known byte → reached (paged new.system).words (paged new.system).root (address + k) ≡ Some byte
  here k byte less cell =
      let many = (good.each number block old.1).cells in
      let within = known_within block.cells k byte cell in
      let aligned = (placed_before live.address live.size (laid.lives number live is).block).aligned in
      let whole = out.aligned in
      let in_old = bytes_within heap placed_before live.address live.size (laid.lives number live is).block
      (live.address + k) (omega arith) (omega (arith, block_size)) in
      let in_new = bytes_within new placed_now address size out.block (address + k) (omega arith) (omega arith) in
      let same : word_reached (paged new.system) (address + (k - k % 8)) ≡ word_reached (paged heap.system)
      (live.address + (k - k % 8)) = out.contents (k - k % 8) (omega (arith, block_size)) (omega arith) in
      let one : address + k - (address + k) % 8 ≡ address + (k - k % 8) = omega arith in
      let two : live.address + k - (live.address + k) % 8 ≡ live.address + (k - k % 8) = omega arith in
      let rest : (address + k) % 8 ≡ (live.address + k) % 8 = omega arith in
      let words : word_reached (paged new.system) (address + k - (address + k) % 8) ≡ word_reached (paged heap.system)
      (live.address + k - (live.address + k) % 8) =
      ap (word_reached (paged new.system)) one ∙ (same ∙ ap (word_reached (paged heap.system)) (sym two)) in
      reached_byte (paged new.system) (address + k) new.system.kept in_new
      ∙ (ap (λ w. Some (slice_index (to_le_bytes w64 w) ((address + k) % 8))) words
      ∙ (ap (λ b. Some (slice_index (to_le_bytes w64 (word_reached (paged heap.system) (live.address + k - (live.address + k) % 8))) b)) rest
      ∙ (sym (reached_byte (paged heap.system) (live.address + k) heap.system.kept in_old)
      ∙ (ap (λ a. reached (paged heap.system).words (paged heap.system).root (a + k)) (sym block_address)
      ∙ stands.bytes.known number k byte block old.1 cell))))

  holds : HoldsBytes (reached (paged new.system).words (paged new.system).root) after_it
  holds = holds_resized (reached (paged new.system).words (paged new.system).root) s.blocks number address size (align_then keeps) block old.1 others here

  lives_same : blocks' ≡ map (option_map outline) after_it
  lives_same = ap (λ list. slice_set list number (Some (next_live address size align))) stands.blocks
      ∙ (ap (λ a. slice_set (map (option_map outline) s.blocks) number (Some (next_live address size a))) (sym align_same)
      ∙ sym (outline_changed s.blocks number change block old.1))

  -- ---- the state

  -- the alignment that it keeps, or 16, divides its address
  multiple : address % align ≡ 0
  multiple = out.multiple (aligned_before keeps)
    where
      aligned_before : (keeps : Bool) → live.address % align_kept keeps live ≡ 0
      aligned_before true = ap (λ (l : Live). l.address % l.align) (sym old.2) ∙ (good.each number block old.1).aligned
      aligned_before false = ap (λ a. a % 16) (sym block_address) ∙ (good.each number block old.1).aligned_16

  -- and so are the others, in the regions that are left
  good_others : (list : List Region) (tables : List Prefix) (large : List ℕ) →
      list ≡ heap_regions (paged new.system).regions → IsGood (record s {
        heap = list;
        tables = tables;
        large = large;
        blocks = [];
      }) →
      IsGood (record s { heap = list; tables = tables; large = large; blocks = without_block s.blocks number })
  good_others list tables large same bare = good_over (record s { heap = list; tables = tables; large = large }) (without_block s.blocks number) bare
      (λ i it at.
      let was = left_at s.blocks number i it at in
      good_there s.heap list it (good.each i it was.1) (λ k less. ap (list_any (is_within (it.address + k))) same
      ∙ granted_within (paged new.system) (it.address + k) ((placed_now it.address it.size
      (live_stays heap new blocks number live size align address laid is out i (outline it) was.0
      (live_of i it was.1)).block).granted (it.address + k) (omega arith) (omega (arith, less)))))
      (λ i j a b is_a is_b differ. good.apart i j a b (left_at s.blocks number i a is_a).1 (left_at s.blocks number j b is_b).1 differ)

  good_blocks : (list : List Region) (tables : List Prefix) (large : List ℕ) →
      list ≡ heap_regions (paged new.system).regions → IsGood (record s {
        heap = list;
        tables = tables;
        large = large;
        blocks = [];
      }) →
      IsGood (record s { heap = list; tables = tables; large = large; blocks = after_it })
  good_blocks list tables large same bare = good_resized (record s { heap = list; tables = tables; large = large }) number
      change block (good_others list tables large same bare) old.1
      (record {
        aligned = ap (λ a. address % a) align_same ∙ multiple;
        aligned_16 = out.aligned;
        cells = length-resized size block.cells;
        granted = λ k less. ap (list_any (is_within (address + k))) same
            ∙ granted_within (paged new.system) (address + k) (out.granted (address + k) (omega arith) (omega arith));
      })
      (λ i it differ at.
      let there = live_of i it at in
      elim (blocks_apart it.address it.size address size (live_stays heap new blocks number live size align address laid is
      out i (outline it) differ there).block out.block
      (live_beside heap new blocks number live size align address laid is out i (outline it) differ there))
      [ inl before ↦ inl (omega arith) | inr after ↦ inr (omega arith) ])

  -- ---- the step

  pub step_resized : IsPowerOfTwo align → ((grant : Grant) → 0 < grant.size →
      regions out.middle.system ≡ with_grant grant (regions heap.system) → HasByteOf grant (regions new.system)) →
      (answered : Option (List Region)) (large : Option (List ℕ)) →
      AreRegionsTold (paged new.system) (marks_of (paged heap.system)) answered → AreSlotsTold heap new large →
      IsStep s (resizing keeps number size) (record { reply = Placed number address; regions = answered; large = large }) (seen_of top new blocks')
  step_resized is_power stays answered large told slots =
      let moved = moved_shortened heap new live.address live.size align size address out in
      let power : is_power_of_two align ≡ true = test_of_power align is_power in
      let small : asked size align < limit s.granularity = subst (λ g. asked size align < limit g) stands.granularity out.small in
      let must : must_refuse s (resizing keeps number size) ≡ None =
      refused_resizing keeps s number size ∙ (ap (refuse_resizing s.granularity size (align_then keeps)) old.1
      ∙ not_refused_resizing s.granularity size (align_then keeps) block
      (subst (λ a. asked size a < limit s.granularity) (sym align_same) small)) in
      let wants : wanted_by s (resizing keeps number size) ≡ Some (wanted size align) =
      wanted_resizing keeps s number size ∙ (ap (option_map (λ (b : Block). wanted size (align_then keeps b))) old.1
      ∙ ap (λ a. Some (wanted size a)) align_same) in
      (step_found heap out.middle new blocks blocks' laid (wanted size align)
      (subst (λ n. IsFound follows regions heap.system (heap_state heap) n out.middle.system (heap_state out.middle))
      (wanted_asked size align power) out.found) moved.slot moved.short moved.part
      out.granularity stays s good stands (resizing keeps number size) number address after_it (changed_resizing keeps s number size number address) must wants
      (λ list grown growth cut whole still. serves_resizing keeps s number size address block list old.1 (record {
        here = λ at. still (out.here (at ∙ block_address)).1;
        growth = record { grown = grown; growth = subst (λ a. IsGrowth s (wanted size a) grown) (sym align_same) growth; cut = cut };
      }))
      lives_same holds good_blocks answered large told slots).0

-- no block has the number
pub step_unknown : {top : ℕ} → (heap : Dlmalloc PagedSystem) (blocks : List (Option Live)) (number size : ℕ) (keeps : Bool)
    (s : State) → IsGood s → Stands (seen_of top heap blocks) s → live_at blocks number ≡ None →
    IsStep s (resizing keeps number size) (refused_with UnknownBlock) (seen_of top heap blocks)
step_unknown {top = top} heap blocks number size keeps s good stands none =
    step_refused (seen_of top heap blocks) s (resizing keeps number size) UnknownBlock
    (refused_resizing keeps s number size ∙ ap (refuse_resizing s.granularity size (align_then keeps))
    (no_outline (block_at s.blocks number) (sym (outline_at s.blocks number)
    ∙ (ap (λ list. live_at list number) (sym stands.blocks) ∙ none)))) good stands
  where
    no_outline : (found : Option Block) → option_map outline found ≡ None → found ≡ None
    no_outline None is = refl
    no_outline (Some block) is = cc

-- the alignment that a block has then is a power of two
pub kept_power : (keeps : Bool) (live : Live) → IsPowerOfTwo live.align → IsPowerOfTwo (align_kept keeps live)
kept_power true live power = power
kept_power false live power = (4, refl)

-- the heap refuses the size
pub step_not_resized : {top : ℕ} → (heap new : Dlmalloc PagedSystem) → IsGranularity heap.granularity →
    (blocks : List (Option Live)) (number size : ℕ) (keeps : Bool) (live : Live) (laid : IsLaidOut heap blocks) →
    live_at blocks number ≡ Some live →
    (s : State) (good : IsGood s) (stands : Stands (seen_of top heap blocks) s) → IsPowerOfTwo (align_kept keeps live) →
    (error : MallocError) → IsRefusedWith regions word follows refuses denies heap (asked size (align_kept keeps live))
    error new →
    (refusal : Refusal) → refusal_of error ≡ Some refusal → IsStep s (resizing keeps number size) (refused_with refusal) (seen_of top new blocks)
step_not_resized {top = top} heap new granularity blocks number size keeps live laid is s good stands power error denied refusal given =
    let old = behind heap blocks laid s good stands number live is in
    let align : align_then keeps old.0 ≡ align_kept keeps live = same keeps old.0 old.2 in
    step_denied heap new granularity blocks laid s good stands (resizing keeps number size)
    (asked size (align_kept keeps live)) (wanted size (align_kept keeps live))
    (wanted_asked size (align_kept keeps live) (test_of_power (align_kept keeps live) power))
    (λ most. refused_resizing keeps s number size ∙ (ap (refuse_resizing s.granularity size (align_then keeps)) old.1
    ∙ large_resizing s.granularity size (align_then keeps) old.0 (subst (λ a. limit s.granularity ≤ asked size a)
    (sym align) most)))
    (λ less. refused_resizing keeps s number size ∙ (ap (refuse_resizing s.granularity size (align_then keeps)) old.1
    ∙ not_refused_resizing s.granularity size (align_then keeps) old.0
    (subst (λ a. asked size a < limit s.granularity) (sym align) less)))
    (wanted_resizing keeps s number size ∙ (ap (option_map (λ (b : Block). wanted size (align_then keeps b))) old.1 ∙ ap (λ a. Some (wanted size a)) align))
    error denied refusal given
  where
    same : (keeps : Bool) (block : Block) → outline block ≡ live → align_then keeps block ≡ align_kept keeps live
    same true block is = ap (λ (l : Live). l.align) is
    same false block is = refl

-- how the heap moves is told by the call
pub moves_resizing : (keeps : Bool) (old : NumberedHeap) (number size address : ℕ) (live : Live) (large : Option (List ℕ))
    (new : NumberedHeap) → live_at old.blocks.items number ≡ Some live →
    (heap : Dlmalloc PagedSystem) → IsResizedTo keeps old.heap live size address heap → IsToldFrom heap new.heap → AreSlotsTold old.heap heap large →
    (address ≢ live.address → IsMemberServed regions word old.heap size (align_kept keeps live) address) →
    HeapMoves old (resizing keeps number size) (Placed number address) large new
moves_resizing true old number size address live large new is heap resized told slots member = rw is (heap, resized, told, slots, member)
moves_resizing false old number size address live large new is heap resized told slots member = rw is (heap, resized, told, slots, member)

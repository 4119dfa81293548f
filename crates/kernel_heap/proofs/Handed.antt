-- A block is handed out: the answer is allowed, and the machine stands for the state with the block.
use Rattle.std.proofs.Common.{◌≡◌, ℕ, ◌+◌, ◌-◌, ◌%◌, ◌<◌, inl, inr, List, [], ◌∷◌, ◌++◌, length, map, replicate, refl, sym, ap, ◌∙◌, subst, arith, Bool, true, false, Option, Some, None, option_map, IsTrue}
use Rattle.std.specs.List.{list_any}
use Rattle.std.specs.Int.{is_power_of_two}
use Rattle.std.proofs.Math.ListN.{length-replicate}
use Rattle.paging_core.specs.Prefix.{Prefix}
use Rattle.paging_core.specs.Walk.{reached}
use Rattle.heap_memory.specs.declared.grant.Grant.{Grant}
use Rattle.heap_memory.specs.Regions.{is_granted, with_grant}
use Rattle.heap_memory.specs.RegionLaws.{granted_new}
use Rattle.dlmalloc.specs.Moved.{HasByteOf}
use Rattle.dlmalloc_chunks.specs.Request.{limit, wanted}
use Rattle.dlmalloc.specs.State.{extents_in}
use Rattle.dlmalloc.specs.Blocks.{ArePlaced, BlocksAreApart}
use Rattle.dlmalloc.specs.Requested.{asked, IsFound, IsHandedOut}
use Rattle.dlmalloc.specs.declared.heap.Dlmalloc.{Dlmalloc}
use Rattle.machine_model.specs.declared.live.Live.{Live}
use Rattle.machine_model.specs.declared.region.Region.{Region}
use Rattle.machine_model.specs.declared.call.Call.TheVariants.{Malloc, Calloc}
use Rattle.machine_model.specs.declared.answer.Reply.TheVariants.{Block as Placed}
use Rattle.machine_model.specs.State.{State, Cell, Fresh, Known, Block, block_at, is_within}
use Rattle.machine_model.specs.Place.{meets_any}
use Rattle.machine_model.specs.Memory.{HoldsBytes}
use Rattle.machine_model.specs.Refusal.{refuse_request}
use Rattle.machine_model.specs.Run.{IsGood}
use Rattle.machine_model.specs.Machine.{Seen, Stands, IsStep, outline}
use Rattle.machine_model.specs.Room.{IsGrowth}
use Rattle.machine_model.proofs.Known.{known_within}
use Rattle.machine_model.proofs.Shortened.{good_there, good_over}
use Rattle.machine_model.proofs.Placed.{outline_of, outline_push, length_outline, known_alike, holds_pushed, good_placed}
use Rattle.paged_systems.specs.System.{paged}
use Rattle.kernel_heap.specs.Moves.{marks_of, AreRegionsTold, AreSlotsTold}
use Rattle.paged_systems.specs.Words.{heap_regions}
use Rattle.kernel_heap.specs.Heap.{regions, word, follows, heap_state}
use Rattle.kernel_heap.specs.Machine.{seen_of}
use Rattle.kernel_heap.specs.Numbered.{live_at}
use Rattle.kernel_heap.specs.LaidOut.{IsLaidOut}
use Rattle.sound_heap.specs.Heap.{AreZero}
use Rattle.kernel_heap.specs.Blocks.{request}
use Rattle.kernel_heap.specs.Kept.{lasting_pages, AreRunsUsedFor}
use Rattle.paged_systems.specs.declared.paged_system.PagedSystem.{PagedSystem}
use Rattle.kernel_heap.proofs.BlockPlaces.{byte_kept, bytes_within}
use Rattle.paged_systems.proofs.Bytes.{zero_reached}
use Rattle.kernel_heap.proofs.Found.{step_found}
use Rattle.kernel_heap.proofs.Laid.{next_live, block_there, live_kept, live_apart}
use Rattle.kernel_heap.proofs.Refused.{not_refused, wanted_asked}
use Rattle.paged_systems.specs.Follows.{still_none}
use Rattle.kernel_heap.proofs.ShortenedRegions.{AreShortened, shortened_still}
use Rattle.paged_systems.proofs.Still.{granted_within}

-- the block that is handed out, as the state has it
abbrev pub next_block : ℕ → ℕ → ℕ → Cell → Block
next_block address size align cell = record { address = address; size = size; align = align; cells = replicate size cell }

module _ {top : ℕ} (heap new : Dlmalloc PagedSystem) (blocks : List (Option Live)) (size align address : ℕ)
    (laid : IsLaidOut heap blocks) (out : IsHandedOut regions word follows heap size align address new)
    (placed_before : ArePlaced (regions heap.system) (heap_state heap))
    (placed_now : ArePlaced (regions new.system) (heap_state new)) (blocks_apart : BlocksAreApart (heap_state new))
    (s : State) (good : IsGood s) (stands : Stands (seen_of top heap blocks) s) where
  number : length blocks ≡ length s.blocks
  number = ap length stands.blocks ∙ length_outline s.blocks

  not_at_once : is_power_of_two align ≡ true → refuse_request s.granularity size align ≡ None
  not_at_once power = not_refused s.granularity size align power (subst (λ g. asked size align < limit g) stands.granularity out.small)

  -- what was known of the blocks holds still
  live_of : (i : ℕ) (it : Block) → block_at s.blocks i ≡ Some it → live_at blocks i ≡ Some (outline it)
  live_of i it is = outline_of s.blocks blocks (sym stands.blocks) i it is

  held : HoldsBytes (reached (paged new.system).words (paged new.system).root) s.blocks
  held = record {
    known = λ i k byte it is cell.
        let at = live_of i it is in
        let b = (laid.lives i (outline it) at).block in
        let b' = (live_kept heap new blocks size align address laid out i (outline it) at).block in
        let many = (good.each i it is).cells in
        let less = known_within it.cells k byte cell in
        byte_kept heap new placed_before placed_now (extents_in (heap_state heap)) out.kept it.address it.size b b'
        (block_there (heap_state heap) it.address it.size b) k (omega arith)
        ∙ stands.bytes.known i k byte it is cell;
  }

  abbrev m' : Seen
  m' = seen_of top new (blocks ++ Some (next_live address size align) ∷ [])

  -- the chunk that was found is the one that is wanted
  found : is_power_of_two align ≡ true → IsFound follows regions heap.system (heap_state heap) (wanted size align) new.system (heap_state new)
  found power = subst (λ n. IsFound follows regions heap.system (heap_state heap) n new.system (heap_state new)) (wanted_asked size align power) out.found

  module _ (cell : Cell) where
    abbrev after_it : List (Option Block)
    after_it = s.blocks ++ Some (next_block address size align cell) ∷ []

    holds : ((k byte : ℕ) → k < size → cell ≡ Known byte → reached (paged new.system).words (paged new.system).root (address + k) ≡ Some byte) →
        HoldsBytes (reached (paged new.system).words (paged new.system).root) after_it
    holds filled = holds_pushed (reached (paged new.system).words (paged new.system).root) s.blocks (next_block address size align cell) held
        (λ k byte is. let alike = known_alike size k byte cell is in filled k byte alike.0 alike.1)

    lives_same : blocks ++ Some (next_live address size align) ∷ [] ≡ map (option_map outline) after_it
    lives_same = ap (λ list. list ++ Some (next_live address size align) ∷ []) stands.blocks
        ∙ sym (outline_push s.blocks (Some (next_block address size align cell)))

    -- the block is good among the regions of the machine
    good_blocks : (list : List Region) (tables : List Prefix) (large : List ℕ) →
        list ≡ heap_regions (paged new.system).regions → IsGood (record s {
          heap = list;
          tables = tables;
          large = large;
          blocks = [];
        }) →
        IsGood (record s { heap = list; tables = tables; large = large; blocks = after_it })
    good_blocks list tables large same bare =
        let good' : IsGood (record s { heap = list; tables = tables; large = large }) =
        good_over (record s { heap = list; tables = tables; large = large }) s.blocks bare
        (λ i it is. good_there s.heap list it (good.each i it is) (λ k less. ap (list_any (is_within (it.address + k))) same
        ∙ granted_within (paged new.system) (it.address + k) ((placed_now it.address it.size
        (live_kept heap new blocks size align address laid out i (outline it) (live_of i it is)).block).granted
        (it.address + k) (omega arith) (omega (arith, less)))))
        good.apart in
        good_placed (record s { heap = list; tables = tables; large = large }) (next_block address size align cell) good'
        (record {
          aligned = out.multiple;
          aligned_16 = out.aligned;
          cells = length-replicate size cell;
          granted = λ k less. ap (list_any (is_within (address + k))) same
              ∙ granted_within (paged new.system) (address + k) (out.granted (address + k) (omega arith) (omega arith));
        })
        (λ i old is.
        let at = live_of i old is in
        elim (blocks_apart old.address old.size address size (live_kept heap new blocks size align address laid out i (outline old) at).block out.block
        (live_apart heap new blocks size align address laid out i (outline old) at)) [ inl before ↦ inl (omega arith) | inr behind ↦ inr (omega arith) ])

  -- nothing goes back
  whole : AreShortened (paged new.system) (paged new.system) None
  whole = shortened_still (paged new.system) (paged new.system) new.system.kept.laid (still_none (paged new.system))

  stays : (grant : Grant) → 0 < grant.size → regions new.system ≡ with_grant grant (regions heap.system) → HasByteOf grant (regions new.system)
  stays grant some with_it = (
    grant.base,
    omega arith,
    omega (arith, some),
    subst (λ (list : List Grant). IsTrue (is_granted list grant.base)) (sym with_it)
        (granted_new grant (regions heap.system) grant.base (omega arith) (omega (arith, some))),
  )

  no_part : (one : ℕ) → None ≡ Some one → IsTrue (meets_any one 512 (paged new.system).regions)
  no_part one is = absurd (let no : None ≡ Some one = is in cc)

  module _ (power : is_power_of_two align ≡ true) (answered : Option (List Region)) (large : Option (List ℕ))
      (told : AreRegionsTold (paged new.system) (marks_of (paged heap.system)) answered) (slots : AreSlotsTold heap new large) where
    -- what an answer to a request is, and what is said of its new pages
    abbrev IsRequestStep : Bool → Type 0
    IsRequestStep cleared =
        IsStep s (request cleared size align) (record { reply = Placed (length blocks) address; regions = answered; large = large }) m'
        × AreRunsUsedFor (paged heap.system) (paged new.system) (lasting_pages s (request cleared size align)
        (record { reply = Placed (length blocks) address; regions = answered; large = large }))

    -- nothing is known of its bytes
    step_handed : IsRequestStep false
    step_handed =
        let fresh : (k byte : ℕ) → k < size → Fresh ≡ Known byte → reached (paged new.system).words (paged new.system).root
        (address + k) ≡ Some byte = λ k byte less is. absurd (cc) in
        step_found heap new new blocks (blocks ++ Some (next_live address size align) ∷ []) laid (wanted size align)
        (found power) None whole no_part out.granularity stays s good stands
        (Malloc size align) (length blocks) address (after_it Fresh) refl (not_at_once power) refl
        (λ list grown growth cut same still. (number, subst (IsGrowth s (wanted size align)) (sym (same refl)) growth))
        (lives_same Fresh) (holds Fresh fresh) (good_blocks Fresh) answered large told slots

    -- its bytes are zero
    step_cleared : ((k : ℕ) → k < size → reached (paged new.system).words (paged new.system).root (address + k) ≡ Some 0) →
        IsRequestStep true
    step_cleared cleared =
        let zero_there : (k byte : ℕ) → k < size → Known 0 ≡ Known byte → reached (paged new.system).words (paged new.system).root (address + k) ≡ Some byte =
        λ k byte less is. cleared k less ∙ ap Some (cc is) in
        step_found heap new new blocks (blocks ++ Some (next_live address size align) ∷ []) laid (wanted size align)
        (found power) None whole no_part out.granularity stays s good stands
        (Calloc size align) (length blocks) address (after_it (Known 0)) refl (not_at_once power) refl
        (λ list grown growth cut same still. (number, subst (IsGrowth s (wanted size align)) (sym (same refl)) growth))
        (lives_same (Known 0)) (holds (Known 0) zero_there) (good_blocks (Known 0)) answered large told slots

    pub step_request : (cleared : Bool) → (cleared ≡ true → AreZero (word new.system) address size) → IsRequestStep cleared
    step_request false zeros = step_handed
    step_request true zeros = step_cleared (λ k less.
        let whole = out.aligned in
        zero_reached (paged new.system) (address + k) new.system.kept (bytes_within new placed_now address size out.block
        (address + k) (omega arith) (omega arith))
        (zeros refl (address + k - (address + k) % 8) (omega arith) (omega arith) (omega arith)))

-- The answers of a run fit: their numbers are below 2 ^ 64, their bytes are bytes, and their regions are the heap's.
use Rattle.std.proofs.Common.{◌≡◌, ℕ, zero, suc, ◌+◌, ◌-◌, ◌*◌, ◌/◌, ◌%◌, ◌^◌, ◌<◌, ◌≤◌, ◌⊎◌, inl, inr, ◌==◌, List, [], ◌∷◌, ◌++◌, length, Bool, true, false, cond, Option, None, Some, is_some, MatchOption, option_map, slice_set, refl, sym, ◌∙◌, ap, subst, arith, lit<, length-append}
use Rattle.std.specs.Prelude.{⊤}
use Rattle.std.specs.List.{list_any, onto_first, AllByRecursion}
use Rattle.std.proofs.lemmas.List.{length-map, length-set}
use Rattle.std.proofs.lemmas.Bool.Decides.{nat_tests, Decides-eqb}
use native.Mathlib.Decide.{dec_lt}
use Rattle.hex.specs.Hex.{IsBytes}
use Rattle.paging_core.specs.Address.{is_canonical, IsCanonicalRange}
use Rattle.dlmalloc_chunks.specs.declared.extent.Extent.{Extent}
use Rattle.dlmalloc_chunks.specs.declared.extent.Kind.{Kind}
use Rattle.dlmalloc_chunks.specs.declared.extent.Kind.TheVariants.{Used, Free as Binned, Victim, Top, Record, Foot}
use Rattle.dlmalloc_chunks.specs.Request.{wanted}
use Rattle.dlmalloc_chunks.specs.Tiling.{IsSize, has_byte}
use Rattle.machine_model.specs.declared.answer.Answer.{Answer}
use Rattle.machine_model.specs.declared.answer.Reply.{Reply}
use Rattle.machine_model.specs.declared.answer.Reply.TheVariants.{Block as Placed, Done, Bytes, Byte, Fault, Trimmed, Accepted, Released, Extents as Listed, Refused}
use Rattle.paging_core.specs.declared.processor_access.AccessKind.{AccessKind}
use Rattle.paging_core.specs.declared.processor_access.AccessKind.TheVariants.{Read as Reading, Write as Writing, Fetch as Fetching}
use Rattle.machine_model.specs.declared.call.Call.{Call}
use Rattle.machine_model.specs.declared.call.Call.TheVariants.{Malloc, Calloc, Realloc, CRealloc, Free, Write, Read, Probe, SetGranularity, Reset, Extents, Map, Unmap}
use Rattle.machine_model.specs.declared.region.Region.{Region}
use Rattle.machine_model.specs.State.{State, Block, Cell, Fresh, Known, block_at, is_within}
use Rattle.machine_model.specs.Extents.{IsTiling}
use Rattle.machine_model.specs.Probe.{rights_at}
use Rattle.paging_core.specs.ProcessorAccess.{fault_code}
use Rattle.machine_model.specs.Answer.{AreBytes, all_ended, seen_block, IsReply, IsResizing, changed, new_block, with_block, resized_block, NewPages, new_pages, with_regions, slots_of, AreNewSlots, after}
use Rattle.machine_model.specs.Refusal.{own_align, least_align}
use Rattle.machine_model.specs.Slots.{IsSlotOf}
use Rattle.machine_model.specs.Run.{IsGood, IsHeapRegion, IsItem, next, IsAllowedRun, last_state}
use Rattle.machine_model.proofs.Booleans.{or_left, or_right, or_cases}
use Rattle.machine_model.proofs.Regions.{within, within_bounds}
use Rattle.machine_model.proofs.Resized.{replaced_here}
use Rattle.heap_program.specs.Lines.{lines_of, items_of}
use Rattle.heap_program.specs.Spelling.{SlotsFit, ExtentFits, ReplyFits, RegionFits, RegionsFit, AnswerFits, RunsSpellOne}
use Rattle.heap_program.proofs.Spellings.{spells_one}

-- ---- addresses of the heap

-- an address of one of the two canonical halves
abbrev InHalf : ℕ → Type 0
InHalf address = (address < 2 ^ 47) ⊎ ((2 ^ 64 - 2 ^ 47 ≤ address) × (address < 2 ^ 64))

in_half-small : (address : ℕ) → InHalf address → address < 2 ^ 64
in_half-small address (inl low) = omega arith
in_half-small address (inr high) = high.1

canonical_half : (address : ℕ) → is_canonical address ≡ true → (address / 2 ^ 47 ≡ 0) ⊎ (address / 2 ^ 47 ≡ 2 ^ 17 - 1)
canonical_half address is = elim (or_cases (address / 2 ^ 47 == 0) (address / 2 ^ 47 == 2 ^ 17 - 1) is) [
  | inl low ↦ inl ((Decides-eqb (address / 2 ^ 47) 0).0 low)
  | inr high ↦ inr ((Decides-eqb (address / 2 ^ 47) (2 ^ 17 - 1)).0 high)
]

-- a range of pages in one canonical half
range_half : (start pages address : ℕ) → start % 4096 ≡ 0 → IsCanonicalRange (start / 4096) pages → start ≤ address →
    address < start + 4096 * pages → InHalf address
range_half start pages address whole range above below =
    let some = range.some in
    let half = range.one_half in
    elim (canonical_half (start / 4096 * 4096) range.canonical) [
      | inl low ↦ inl (omega arith)
      | inr high ↦ inr (omega arith, omega arith)
    ]

region_half : (s : State) (region : Region) (address : ℕ) → IsHeapRegion s region → is_within address region ≡ true → InHalf address
region_half s region address is inside =
    let bounds = within_bounds address region inside in
    range_half region.start region.pages address is.0.0 is.0.1 bounds.0 bounds.1

heap_half : (s : State) (heap : List Region) (address : ℕ) → AllByRecursion (IsHeapRegion s) heap → list_any (is_within address) heap ≡ true → InHalf address
heap_half s [] address all inside = absurd (cc inside)
heap_half s (region ∷ heap) address all inside = elim (or_cases (is_within address region) (list_any (is_within address) heap) inside) [
  | inl here ↦ region_half s region address all.0 here
  | inr later ↦ heap_half s heap address all.1 later
]

-- ---- regions

region_fits : (s : State) (region : Region) → IsHeapRegion s region → RegionFits region
region_fits s region is =
    let some = is.0.1.some in
    let first = in_half-small region.start (region_half s region region.start is (within region.start region (omega arith) (omega arith))) in
    let end = region.start + 4096 * region.pages - 1 in
    let last = in_half-small end (region_half s region end is (within end region (omega arith) (omega arith))) in
    (first, omega (arith, last), is.3)

regions_fit : (s : State) (list : List Region) → AllByRecursion (IsHeapRegion s) list → AllByRecursion RegionFits list
regions_fit s [] all = tt
regions_fit s (region ∷ list) all = (region_fits s region all.0, regions_fit s list all.1)

-- ---- extents

size_some : (kind : Kind) (size : ℕ) → IsSize kind size → 16 ≤ size
size_some Used size is = omega arith
size_some Binned size is = omega arith
size_some Victim size is = omega arith
size_some Top size is = omega arith
size_some Record size (inl is) = omega arith
size_some Record size (inr is) = omega arith
size_some Foot size is = omega arith

has : (address : ℕ) (extent : Extent) → extent.at ≤ address → address < extent.at + extent.size → has_byte address extent ≡ true
has address extent above below = grind (arith, nat_tests)

extent_fits : (extent : Extent) → 16 ≤ extent.size → ((address : ℕ) → has_byte address extent ≡ true → InHalf address) → ExtentFits extent
extent_fits extent some inside = (
  in_half-small extent.at first,
  elim (dec_lt extent.size (2 ^ 64))
      [ yes less ↦ less | no more ↦ absurd (never first (omega arith)) ],
)
  where
    first : InHalf extent.at
    first = inside extent.at (has extent.at extent (omega arith) (omega arith))

    -- it would reach into the gap between the halves, or past the end of the address space
    middle : 2 ^ 64 ≤ extent.size → extent.at < 2 ^ 47 → InHalf (2 ^ 63) → ⊥
    middle large low (inl is) = omega arith
    middle large low (inr is) = omega arith

    never : InHalf extent.at → 2 ^ 64 ≤ extent.size → ⊥
    never (inl low) large = middle large low (inside (2 ^ 63) (has (2 ^ 63) extent (omega arith) (omega arith)))
    never (inr high) large =
        let end = extent.at + extent.size - 1 in
        let last = in_half-small end (inside end (has end extent (omega arith) (omega arith))) in
        omega (arith, last)

extents_fit : (extents : List Extent) → AllByRecursion (λ extent. IsSize extent.kind extent.size) extents →
    ((address : ℕ) → list_any (has_byte address) extents ≡ true → InHalf address) → AllByRecursion ExtentFits extents
extents_fit [] sizes inside = tt
extents_fit (extent ∷ extents) sizes inside = (
  extent_fits extent (size_some extent.kind extent.size sizes.0) (λ address is.
      inside address (or_left (has_byte address extent) (list_any (has_byte address) extents) is)),
  extents_fit extents sizes.1 (λ address is. inside address (or_right (has_byte address extent) (list_any (has_byte address) extents) is)),
)

-- ---- replies

bytes_fit : (bytes : List ℕ) → AreBytes bytes → IsBytes bytes
bytes_fit [] all i = lit< tt
bytes_fit (byte ∷ bytes) all zero = all.0
bytes_fit (byte ∷ bytes) all (suc i) = bytes_fit bytes all.1 i

-- the block behind those that there are
last_block : (blocks : List (Option Block)) (last : Option Block) → block_at (blocks ++ last ∷ []) (length blocks) ≡ last
last_block [] last = refl
last_block (block ∷ blocks) last = last_block blocks last

block_small : (s : State) (number : ℕ) (block : Block) → IsGood s → block_at s.blocks number ≡ Some block → block.address < 2 ^ 64
block_small s number block good is =
    let inside = (good.each number block is).granted 0 (omega arith) in
    let small = in_half-small (block.address + 0) (heap_half s s.heap (block.address + 0) good.heap inside) in
    omega (arith, small)

-- a good state with more or fewer heap regions has its blocks where they are
placed_small : (s : State) (address size align : ℕ) (cell : Cell) (regions : Option (List Region)) (new : Option NewPages) (slots : List ℕ) →
    IsGood (with_regions (record s { blocks = s.blocks ++ new_block address size align cell ∷ [] }) regions new slots) → address < 2 ^ 64
placed_small s address size align cell None None slots good = block_small _ (length s.blocks) _ good (last_block s.blocks (new_block address size align cell))
placed_small s address size align cell None (Some new) slots good = block_small _ (length s.blocks) _ good
    (last_block s.blocks (new_block address size align cell))
placed_small s address size align cell (Some list) None slots good = block_small _ (length s.blocks) _ good
    (last_block s.blocks (new_block address size align cell))
placed_small s address size align cell (Some list) (Some new) slots good =
    block_small _ (length s.blocks) _ good (last_block s.blocks (new_block address size align cell))

-- and so has it a block with another size
resized_small : (s : State) (number : ℕ) (change : Block → Block) (block : Block) (regions : Option (List Region))
    (new : Option NewPages) (slots : List ℕ) → block_at s.blocks number ≡ Some block →
    IsGood (with_regions (record s { blocks = with_block s.blocks number change }) regions new slots) → (change block).address < 2 ^ 64
resized_small s number change block regions new slots is good = go regions new good
  where
    there : block_at (with_block s.blocks number change) number ≡ Some (change block)
    there = ap (λ (found : Option Block). block_at (slice_set s.blocks number (option_map change found)) number) is
        ∙ replaced_here s.blocks number block (change block) is

    go : (regions : Option (List Region)) (new : Option NewPages) → IsGood
        (with_regions (record s { blocks = with_block s.blocks number change }) regions new slots) →
        (change block).address < 2 ^ 64
    go None None good = block_small _ number (change block) good there
    go None (Some new) good = block_small _ number (change block) good there
    go (Some list) None good = block_small _ number (change block) good there
    go (Some list) (Some new) good = block_small _ number (change block) good there

-- its number is one of the numbers given
block_within : (blocks : List (Option Block)) (number : ℕ) (block : Block) → block_at blocks number ≡ Some block → number < length blocks
block_within [] number block is = cc
block_within (first ∷ rest) zero block is = omega arith
block_within (first ∷ rest) (suc number) block is = let later = block_within rest number block is in omega arith

-- a reply that gives a block another size, where the block is one
resized_fits : (s : State) (number given size address : ℕ) (n : Block → ℕ) (align : Block → ℕ) (found : Option Block)
    (regions : Option (List Region)) (new : Option NewPages) (slots : List ℕ) → length s.blocks < 2 ^ 64 →
    block_at s.blocks number ≡ found → given ≡ number →
    MatchOption found ⊥ (λ block. IsResizing s block (n block) address regions) →
    IsGood (with_regions (record s { blocks = with_block s.blocks number (resized_block address size align) }) regions
    new slots) → ReplyFits (Placed given address)
resized_fits s number given size address n align None regions new slots few at same is good = absurd is
resized_fits s number given size address n align (Some block) regions new slots few at same is good = (
  let within = block_within s.blocks number block at in omega arith,
  resized_small s number (resized_block address size align) block regions new slots at good,
)

tiling_fits : (s : State) (extents : List Extent) → IsGood s → IsTiling s extents → AllByRecursion ExtentFits extents
tiling_fits s extents good tiling =
    extents_fit extents tiling.extents_are.sizes (λ address is. heap_half s s.heap address good.heap (sym (tiling.bytes address) ∙ is))

-- the code of a fault is small
code_small : (mapped : Bool) (access : AccessKind) (user : Bool) → fault_code mapped false access user < 2 ^ 64
code_small true Reading true = lit< tt
code_small true Reading false = lit< tt
code_small true Writing true = lit< tt
code_small true Writing false = lit< tt
code_small true Fetching true = lit< tt
code_small true Fetching false = lit< tt
code_small false Reading true = lit< tt
code_small false Reading false = lit< tt
code_small false Writing true = lit< tt
code_small false Writing false = lit< tt
code_small false Fetching true = lit< tt
code_small false Fetching false = lit< tt

reply_fits : (s : State) (call : Call) (reply : Reply) (regions : Option (List Region)) (large : Option (List ℕ)) →
    length s.blocks < 2 ^ 64 → IsReply s call reply regions →
    IsGood (after s call (record { reply = reply; regions = regions; large = large })) → ReplyFits reply
reply_fits s call (Refused why) regions large few is good = tt
reply_fits s call Done regions large few is good = tt
reply_fits s call (Trimmed released) regions large few is good = tt
reply_fits s call (Accepted accepted) regions large few is good = tt
reply_fits s (Malloc size align) (Placed number address) regions large few is good = (
  subst (λ n. n < 2 ^ 64) (sym is.1.0) few,
  placed_small s address size align Fresh regions
      (new_pages s (Malloc size align) (Placed number address) regions) (slots_of large) good,
)
reply_fits s (Calloc size align) (Placed number address) regions large few is good = (
  subst (λ n. n < 2 ^ 64) (sym is.1.0) few,
  placed_small s address size align (Known 0) regions
      (new_pages s (Calloc size align) (Placed number address) regions) (slots_of large) good,
)
reply_fits s (Realloc number size) (Placed given address) regions large few is good =
    resized_fits s number given size address (λ block. wanted size (own_align block)) own_align (block_at s.blocks number)
    regions (new_pages s (Realloc number size) (Placed given address) regions) (slots_of large) few refl is.1.0 is.1.1
    good
reply_fits s (CRealloc number size) (Placed given address) regions large few is good =
    resized_fits s number given size address (λ block. wanted size (least_align block)) least_align
    (block_at s.blocks number) regions (new_pages s (CRealloc number size) (Placed given address) regions)
    (slots_of large) few refl is.1.0 is.1.1 good
reply_fits s (Read number offset count) (Bytes bytes) regions large few is good = bytes_fit bytes is.1.2
reply_fits s (Probe at access user) (Byte byte) regions large few is good = bytes_fit (byte ∷ []) (is.1.2.small, tt)
reply_fits s (Probe at access user) (Fault code) regions large few is good =
    subst (λ n. n < 2 ^ 64) (sym is.1.2) (code_small (is_some (rights_at s at)) access user)
reply_fits s Reset (Released bytes) regions large few is good = is.1.2
reply_fits s Extents (Listed extents) regions large few is good =
    tiling_fits s extents (subst (λ (r : Option (List Region)). IsGood
    (with_regions s r (new_pages s Extents (Listed extents) r) (slots_of large))) is.1.0 good) is.1.1
reply_fits s call reply regions large few is good = absurd is.1

regions_listed : (s : State) (regions : Option (List Region)) (new : Option NewPages) (slots : List ℕ) →
    IsGood (with_regions s regions new slots) → RegionsFit regions
regions_listed s None new slots good = tt
regions_listed s (Some list) None slots good = regions_fit (with_regions s (Some list) None slots) list good.heap
regions_listed s (Some list) (Some new) slots good = regions_fit (with_regions s (Some list) (Some new) slots) list good.heap

-- ---- slots

-- a canonical address is one of 64 bits
slot_small : (slot : ℕ) → is_canonical slot ≡ true → slot < 2 ^ 64
slot_small slot is = elim (canonical_half slot is) [
  | inl low ↦ omega arith
  | inr high ↦ omega arith
]

slots_small : (address pages : ℕ) (slots : List ℕ) → AllByRecursion (IsSlotOf address pages) slots → AllByRecursion (λ slot. slot < 2 ^ 64) slots
slots_small address pages [] all = tt
slots_small address pages (slot ∷ slots) all = (slot_small slot all.0.is_slot.canonical, slots_small address pages slots all.1)

slots_fit : (s : State) (large : Option (List ℕ)) (new : Option NewPages) →
    MatchOption large ⊤ (λ slots. MatchOption new ⊥ (λ pages. AreNewSlots s pages slots)) → SlotsFit large
slots_fit s None new are = tt
slots_fit s (Some slots) None are = absurd are
slots_fit s (Some slots) (Some new) are = slots_small new.start new.pages slots are.within

-- ---- runs

item_fits : (s : State) (item : Option Call) (answer : Option Answer) → length s.blocks < 2 ^ 64 → IsItem s item answer → AnswerFits answer
item_fits s (Some call) (Some answer) few is = (
  reply_fits s call answer.reply answer.regions answer.large few is.0.reply is.1,
  regions_listed (changed s call answer.reply) answer.regions (new_pages s call answer.reply answer.regions) (slots_of answer.large) is.1,
  slots_fit s answer.large (new_pages s call answer.reply answer.regions) is.0.large,
)
item_fits s None None few is = tt
item_fits s (Some call) None few is = absurd is
item_fits s None (Some answer) few is = absurd is

-- a call adds one block at most
changed_blocks : (s : State) (call : Call) (reply : Reply) → length (changed s call reply).blocks ≤ length s.blocks + 1
changed_blocks s (Malloc size align) (Placed number address) = omega (arith, length-append s.blocks (new_block address size align Fresh ∷ []))
changed_blocks s (Calloc size align) (Placed number address) = omega (arith, length-append s.blocks (new_block address size align (Known 0) ∷ []))
changed_blocks s (Realloc number size) (Placed given address) = simp (length-set) (omega arith)
changed_blocks s (CRealloc number size) (Placed given address) = simp (length-set) (omega arith)
changed_blocks s (Free number) Done = simp (length-set) (omega arith)
changed_blocks s (Write number offset bytes) Done = simp (length-set) (omega arith)
changed_blocks s (Read number offset count) (Bytes bytes) = simp (length-set) (omega arith)
changed_blocks s (Map start pages rights) Done = omega arith
changed_blocks s (Unmap start pages) Done = omega arith
changed_blocks s (Probe at access user) (Byte byte) = omega (arith, length-map s.blocks (option_map (seen_block at byte)))
changed_blocks s (SetGranularity granularity) (Accepted true) = omega arith
changed_blocks s (SetGranularity granularity) (Accepted false) = omega arith
changed_blocks s Reset (Released bytes) = let same : length (all_ended s.blocks) ≡ length s.blocks = length-map s.blocks (λ block. None) in omega (arith, same)
changed_blocks s call reply = omega arith

regions_blocks : (s : State) (regions : Option (List Region)) (new : Option NewPages) (slots : List ℕ) → (with_regions s regions new slots).blocks ≡ s.blocks
regions_blocks s None None slots = refl
regions_blocks s None (Some new) slots = refl
regions_blocks s (Some list) None slots = refl
regions_blocks s (Some list) (Some new) slots = refl

next_blocks : (s : State) (item : Option Call) (answer : Option Answer) → length (next s item answer).blocks ≤ length s.blocks + 1
next_blocks s (Some call) (Some answer) =
    let more = changed_blocks s call answer.reply in
    let same = ap (λ bs. length bs) (regions_blocks (changed s call answer.reply) answer.regions
    (new_pages s call answer.reply answer.regions) (slots_of answer.large)) in
    omega (arith, more, same)
next_blocks s (Some call) None = omega arith
next_blocks s None answer = omega arith

pub run_fits : (s : State) (items : List (Option Call)) (answers : List (Option Answer)) →
    length s.blocks + length items ≤ 2 ^ 64 → IsAllowedRun s items answers → AllByRecursion AnswerFits answers
run_fits s [] [] few run = tt
run_fits s (item ∷ items) (answer ∷ answers) few run = (
  item_fits s item answer (omega arith) run.0,
  run_fits (next s item answer) items answers (let more = next_blocks s item answer in omega (arith, more)) run.1,
)
run_fits s [] (answer ∷ answers) few run = absurd run
run_fits s (item ∷ items) [] few run = absurd run

run_length : (s : State) (items : List (Option Call)) (answers : List (Option Answer)) → IsAllowedRun s items answers → length answers ≡ length items
run_length s [] [] run = refl
run_length s (item ∷ items) (answer ∷ answers) run = ap suc (run_length (next s item answer) items answers run.1)
run_length s [] (answer ∷ answers) run = absurd run
run_length s (item ∷ items) [] run = absurd run

pub runs_spell_one : RunsSpellOne
runs_spell_one s items xs ys d e few first second alike =
    let same = spells_one xs ys d e (run_length s items xs first.run ∙ sym (run_length s items ys second.run))
    (run_fits s items xs few first.run) (run_fits s items ys few second.run) alike in
    (same, first.last ∙ ap (λ answers. last_state s items answers) same ∙ sym second.last)

-- ---- lines

length-onto_first : (b : ℕ) (lines : List (List ℕ)) → length (onto_first b lines) ≤ length lines + 1
length-onto_first b [] = omega arith
length-onto_first b (line ∷ lines) = omega arith

-- there are no more lines than bytes
length-lines : (bytes : List ℕ) → length (lines_of bytes) ≤ length bytes
length-lines [] = omega arith
length-lines (b ∷ bytes) = go (b == 10) (length-lines bytes)
  where
    go : (is : Bool) → length (lines_of bytes) ≤ length bytes → length (cond is ([] ∷ lines_of bytes) (onto_first b (lines_of bytes))) ≤ suc (length bytes)
    go true less = omega arith
    go false less = let more = length-onto_first b (lines_of bytes) in omega arith

pub length-items : (bytes : List ℕ) → length (items_of bytes) ≤ length bytes
unfolding items_of
length-items bytes = let lines = length-lines bytes in simp length-map (omega arith)

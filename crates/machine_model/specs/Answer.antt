-- One call: which answers are allowed, and the state after each.
use Rattle.std.specs.Prelude.{◌≡◌, ◌≢◌, ℕ, zero, suc, ◌+◌, ◌-◌, ◌*◌, ◌^◌, ◌<◌, ◌≤◌, ◌↔◌, Bool, true, false, not, ◌==◌, ◌⊎◌, ⊤, nat_le, IsTrue, IsFalse, is_some, if◌then◌else◌, List, [], ◌∷◌, ◌++◌, length, map, filter, find, replicate, slice_index, slice_set, option_map, unwrap_or, Option, Some, None, MatchOption}
use Rattle.std.specs.List.{list_any, AllByRecursion}
use Rattle.std.specs.Int.{IsPowerOfTwo}
use Rattle.machine_model.specs.declared.region.Region.{Region}
use Rattle.machine_model.specs.declared.call.Call.{Call}
use Rattle.machine_model.specs.declared.call.Call.TheVariants.{Malloc, Calloc, Realloc, CRealloc, Free, Write, Read, Map, Unmap, Probe, Trim, SetRate, SetGranularity, Reset, Extents}
use Rattle.machine_model.specs.declared.answer.Reply.{Reply}
use Rattle.machine_model.specs.declared.answer.Reply.TheVariants.{Block as Placed, Done, Bytes, Byte, Fault, Trimmed, Accepted, Released, Extents as Listed, Refused}
use Rattle.machine_model.specs.declared.answer.Answer.{Answer}
use Rattle.dlmalloc_chunks.specs.Request.{wanted}
use Rattle.machine_model.specs.Request.{pages_for}
use Rattle.machine_model.specs.State.{State, Cell, Fresh, Known, Block, block_at, cell_at, with_bytes, total_pages}
use Rattle.machine_model.specs.Tables.{has_table, with_tables}
use Rattle.machine_model.specs.Slots.{slot_prefix, is_whole_in, is_part_in, AreAscending, IsSlotOf}
use Rattle.machine_model.specs.Place.{with_region, without_region, all_regions}
use Rattle.machine_model.specs.Cut.{AreCut}
use Rattle.machine_model.specs.Room.{user_region, IsGrowth, IsGrowthCut}
use Rattle.machine_model.specs.Extents.{IsTiling}
use Rattle.x86_flags.specs.PageFaultErrorCode.{page_fault_bits}
use Rattle.paging_core.specs.ProcessorAccess.{fault_code}
use Rattle.machine_model.specs.Probe.{rights_at, is_access_granted, IsByteAt}
use Rattle.machine_model.specs.Refusal.{own_align, least_align, must_refuse, MayRefuse, wanted_by}

-- a block of whose bytes the same is known
abbrev pub new_block : ℕ → ℕ → ℕ → Cell → Option Block
new_block address size align cell = Some (record { address = address; size = size; align = align; cells = replicate size cell })

-- the blocks, with another one at this number if it is live
abbrev pub with_block : List (Option Block) → ℕ → (Block → Block) → List (Option Block)
with_block blocks number change = slice_set blocks number (option_map change (block_at blocks number))

-- the blocks, without the one at this number; its number stays
abbrev pub without_block : List (Option Block) → ℕ → List (Option Block)
without_block blocks number = slice_set blocks number None

-- no block is live; their numbers stay
abbrev pub all_ended : List (Option Block) → List (Option Block)
all_ended blocks = map (λ block. None) blocks

-- the block, with these bytes known from an offset on
abbrev pub known_block : ℕ → List ℕ → Block → Block
known_block offset bytes block = record block { cells = with_bytes block.cells offset bytes }

-- a given number of cells: the first ones, and fresh ones after them if there are fewer
abbrev pub resized_cells : ℕ → List Cell → List Cell
resized_cells zero cells = []
resized_cells (suc n) [] = Fresh ∷ resized_cells n []
resized_cells (suc n) (cell ∷ cells) = cell ∷ resized_cells n cells

-- the block with another size, at the place and the alignment that it then has
abbrev pub resized_block : ℕ → ℕ → (Block → ℕ) → Block → Block
resized_block address size align block = record { address = address; size = size; align = align block; cells = resized_cells size block.cells }

-- the block, with the byte at an address known, if it is one of the block's
abbrev pub seen_block : ℕ → ℕ → Block → Block
seen_block address byte block = if nat_le block.address address then known_block (address - block.address) (byte ∷ []) block else block

-- A slot that one region has whole stays. One of which regions have only a part has a table from now on, and each other
-- leaves.
abbrev pub settled : State → State
settled s = record s { tables = s.tables ++ map slot_prefix (filter (is_part_in (all_regions s)) s.large); large = filter (is_whole_in (all_regions s)) s.large }

-- what the reply alone changes; every other reply, a refusal too, changes nothing
abbrev pub changed : State → Call → Reply → State
changed s (Malloc size align) (Placed number address) = record s { blocks = s.blocks ++ new_block address size align Fresh ∷ [] }
changed s (Calloc size align) (Placed number address) = record s { blocks = s.blocks ++ new_block address size align (Known 0) ∷ [] }
changed s (Realloc number size) (Placed given address) = record s { blocks = with_block s.blocks number (resized_block address size own_align) }
changed s (CRealloc number size) (Placed given address) = record s { blocks = with_block s.blocks number (resized_block address size least_align) }
changed s (Free number) Done = record s { blocks = without_block s.blocks number }
changed s (Write number offset bytes) Done = record s { blocks = with_block s.blocks number (known_block offset bytes) }
changed s (Read number offset count) (Bytes bytes) = record s { blocks = with_block s.blocks number (known_block offset bytes) }
changed s (Map start pages rights) Done = record s { users = with_region (user_region start pages rights) s.users }
changed s (Unmap start pages) Done = settled (record s { users = without_region start pages s.users })
changed s (Probe at access user) (Byte byte) = record s { blocks = map (option_map (seen_block at byte)) s.blocks }
changed s (SetGranularity granularity) (Accepted true) = record s { granularity = granularity }
changed s Reset (Released bytes) = record s { blocks = all_ended s.blocks }
changed s call reply = s

-- whether a region starts where none of these does
abbrev pub is_new : List Region → Region → Bool
is_new regions region = not (list_any (λ old. old.start == region.start) regions)

-- pages that an answer maps: `pages` of them, from an address on
pub record NewPages : Type 0 where
  pub start : ℕ
  pub pages : ℕ

-- those that were granted for a chunk of n bytes, and became a region
abbrev pub granted_pages : State → Option ℕ → Option Region → Option NewPages
granted_pages s (Some n) (Some region) = Some (record { start = region.start; pages = pages_for n s.granularity })
granted_pages s (Some n) None = None
granted_pages s None region = None

-- those of a map, or of the one region in the list that starts where no heap region did
abbrev pub new_pages : State → Call → Reply → Option (List Region) → Option NewPages
new_pages s (Map start pages rights) Done regions = Some (record { start = start; pages = pages })
new_pages s call reply None = None
new_pages s call reply (Some list) = granted_pages s (wanted_by s call) (find (is_new s.heap) list)

-- the state with new pages: their slots that are mapped by one entry, and tables for the others
abbrev pub with_pages : State → NewPages → List ℕ → State
with_pages s new slots = record s { tables = with_tables s.tables new.start new.pages slots; large = s.large ++ slots }

-- the state with the heap regions that the answer lists, and with new pages; what is large then settles
abbrev pub with_regions : State → Option (List Region) → Option NewPages → List ℕ → State
with_regions s None None slots = s
with_regions s None (Some new) slots = settled (with_pages s new slots)
with_regions s (Some list) None slots = settled (record s { heap = list })
with_regions s (Some list) (Some new) slots = settled (with_pages (record s { heap = list }) new slots)

-- the slots that an answer lists
abbrev pub slots_of : Option (List ℕ) → List ℕ
slots_of large = unwrap_or large []

-- the state after the call, which the answer determines
abbrev pub after : State → Call → Answer → State
after s call answer = with_regions (changed s call answer.reply) answer.regions (new_pages s call answer.reply answer.regions) (slots_of answer.large)

-- the heap regions after the answer
abbrev pub heap_after : State → Option (List Region) → List Region
heap_after s regions = unwrap_or regions s.heap

-- a byte of which something is known is the one known
abbrev pub AgreeWith : List Cell → ℕ → List ℕ → Type 0
AgreeWith cells offset bytes = (k byte : ℕ) → k < length bytes → cell_at cells (offset + k) ≡ Known byte → slice_index bytes k ≡ byte

-- each number is a byte
abbrev pub AreBytes : List ℕ → Type 0
AreBytes bytes = AllByRecursion (λ byte. byte < 2 ^ 8) bytes

-- A block that stays where it is lets the heap regions stay. Else they grow as for a request of n bytes, and then the old
-- block is freed.
pub record IsResizing (s : State) (block : Block) (n address : ℕ) (regions : Option (List Region)) : Type 0 where
  pub here : address ≡ block.address → regions ≡ None
  pub growth : IsGrowthCut s n (heap_after s regions)

-- the replies other than refusals
abbrev pub IsCallServed : State → Call → Reply → Option (List Region) → Type 0
IsCallServed s (Malloc size align) (Placed number address) regions = (number ≡ length s.blocks) × IsGrowth s (wanted size align) (heap_after s regions)
IsCallServed s (Calloc size align) (Placed number address) regions = (number ≡ length s.blocks) × IsGrowth s (wanted size align) (heap_after s regions)
IsCallServed s (Realloc number size) (Placed given address) regions = (given ≡ number) × MatchOption (block_at s.blocks number) ⊥ (λ block. IsResizing s block (wanted size (own_align block)) address regions)
IsCallServed s (CRealloc number size) (Placed given address) regions = (given ≡ number) × MatchOption (block_at s.blocks number) ⊥ (λ block. IsResizing s block (wanted size (least_align block)) address regions)
IsCallServed s (Free number) Done regions = AreCut s.heap (heap_after s regions)
IsCallServed s (Write number offset bytes) Done regions = regions ≡ None
IsCallServed s (Read number offset count) (Bytes bytes) regions = (regions ≡ None) × (length bytes ≡ count) × AreBytes bytes × ((block : Block) → block_at s.blocks number ≡ Some block → AgreeWith block.cells offset bytes)
IsCallServed s (Map start pages rights) Done regions = regions ≡ None
IsCallServed s (Unmap start pages) Done regions = regions ≡ None
IsCallServed s (Probe at access user) (Byte byte) regions = (regions ≡ None) × IsTrue (is_access_granted (rights_at s at) access user) × IsByteAt s at byte
IsCallServed s (Probe at access user) (Fault code) regions = (regions ≡ None) × IsFalse (is_access_granted (rights_at s at) access user) × (page_fault_bits code ≡ fault_code (is_some (rights_at s at)) false access user)
IsCallServed s (Trim pad) (Trimmed released) regions = AreCut s.heap (heap_after s regions) × (released ≡ is_some regions)
IsCallServed s (SetRate rate) Done regions = regions ≡ None
IsCallServed s (SetGranularity granularity) (Accepted accepted) regions = (regions ≡ None) × (IsTrue accepted ↔ (IsPowerOfTwo granularity × (16 ≤ granularity)))
IsCallServed s Reset (Released bytes) regions = (heap_after s regions ≡ []) × (bytes ≡ 4096 * total_pages s.heap) × (bytes < 2 ^ 64)
IsCallServed s Extents (Listed extents) regions = (regions ≡ None) × IsTiling s extents
IsCallServed s call reply regions = ⊥

-- a refusal is the one that must be given, or one that may be given if none must be; any other reply is given only if
-- no refusal must be
abbrev pub IsReply : State → Call → Reply → Option (List Region) → Type 0
IsReply s call (Refused refusal) regions = (regions ≡ None) × ((must_refuse s call ≡ Some refusal) ⊎ ((must_refuse s call ≡ None) × MayRefuse s (wanted_by s call) refusal))
IsReply s call reply regions = (must_refuse s call ≡ None) × IsCallServed s call reply regions

-- Slots that an answer lists lie whole in its new pages and had no table. They ascend, and there is at least one.
pub record AreNewSlots (s : State) (new : NewPages) (slots : List ℕ) : Type 0 where
  pub some : slots ≢ []
  pub ascending : AreAscending slots
  pub within : AllByRecursion (IsSlotOf new.start new.pages) slots
  pub no_table : AllByRecursion (λ slot. IsFalse (has_table s.tables (slot_prefix slot))) slots

-- the answer is one that the call may have; it lists the heap regions exactly if they changed, and only slots of its
-- new pages
pub record IsAllowed (s : State) (call : Call) (answer : Answer) : Type 0 where
  pub reply : IsReply s call answer.reply answer.regions
  pub listed : MatchOption answer.regions ⊤ (λ list. list ≢ s.heap)
  pub large : MatchOption answer.large ⊤ (λ slots. MatchOption (new_pages s call answer.reply answer.regions) ⊥ (λ new. AreNewSlots s new slots))

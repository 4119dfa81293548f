-- When a machine stands for a state.
use Rattle.std.specs.Prelude.{◌≡◌, ℕ, ◌+◌, ◌*◌, ◌/◌, ◌<◌, ◌≤◌, ◌↔◌, Bool, not, ◌&&◌, IsTrue, List, length, map, option_map, Option, Some, None, IsSome}
use Rattle.std.specs.List.{list_any, AllByRecursion}
use Rattle.paging_core.specs.declared.page_table.Rights.{Rights}
use Rattle.paging_core.specs.Address.{is_canonical}
use Rattle.paging_core.specs.Memory.{frame_count, word_at}
use Rattle.paging_core.specs.Walk.{Place, reach, large_of, walk_of, reached}
use Rattle.paging_core.specs.PageBits.{bits_of, bits_at}
use Rattle.paging_core.specs.Pool.{free_count}
use Rattle.paging_core.specs.Tree.{IsTree}
use Rattle.paging_core.specs.Missing.{missing_of}
use Rattle.page_ranges.specs.RangeMapping.{IsRangeMapped}
use Rattle.page_ranges.specs.RangeUnmapping.{AreUnmapped, cut_tables}
use Rattle.machine_model.specs.declared.live.Live.{Live}
use Rattle.machine_model.specs.declared.region.Region.{Region}
use Rattle.machine_model.specs.declared.call.Call.{Call}
use Rattle.machine_model.specs.declared.answer.Answer.{Answer}
use Rattle.machine_model.specs.State.{State, Block, is_within, region_at}
use Rattle.machine_model.specs.Tables.{has_table, free_frames}
use Rattle.machine_model.specs.Slots.{IsSlot, IsSlotOf, slot_number, has_slot, AreAscending}
use Rattle.machine_model.specs.Place.{all_regions}
use Rattle.machine_model.specs.Room.{heap_rights}
use Rattle.machine_model.specs.Memory.{HoldsBytes}
use Rattle.machine_model.specs.Answer.{IsAllowed, after}
use Rattle.machine_model.specs.Run.{IsGood}

-- a block without what is known of its bytes
abbrev pub outline : Block → Live
outline block = record { address = block.address; size = block.size; align = block.align }

-- what is seen of a paged system
pub record Paged : Type 0 where
  -- the window: its first address, and its pages
  pub base : ℕ
  pub pages : ℕ
  -- physical memory, word by word, and the frame of the root table
  pub words : List ℕ
  pub root : ℕ
  -- a flag for each frame, true if it is free
  pub free : List Bool
  -- the number of tables, with the root
  pub tables : ℕ
  -- how often a region joined, modulo 2 ^ 64
  pub joins : ℕ
  -- the regions, by address
  pub regions : List Region
  -- the slots that the region which joined last has in large pages, until they are asked for
  pub slots : List ℕ

-- The slots among these pages that are mapped by one entry, by ascending address.
pub record AreLargeSlots (words : List ℕ) (root address pages : ℕ) (slots : List ℕ) : Type 0 where
  pub ascending : AreAscending slots
  pub within : AllByRecursion (IsSlotOf address pages) slots
  pub exactly : (slot : ℕ) → IsSlotOf address pages slot → IsSome (large_of words root (slot_number slot)) ↔ IsTrue (has_slot slots slot)

-- Pages with these rights were added to a system from an address on, each at a new frame, with the tables that they lacked: slots
-- that lie whole among them by one entry each, as long as a run of frames was free.
pub record HasGotPages (old new : Paged) (address pages : ℕ) (rights : Rights) : Type 0 where
  pub base : new.base ≡ old.base
  pub pages_is : new.pages ≡ old.pages
  pub root : new.root ≡ old.root
  -- the slot, in counts of 2 MiB, before which all that could be were mapped like this
  pub stop : ℕ
  pub added : IsRangeMapped old.words new.words old.free new.free old.root (address / 4096) pages stop (bits_of rights)
  pub tables : new.tables + missing_of new.words old.root (address / 4096) pages ≡ old.tables + missing_of old.words old.root (address / 4096) pages
  pub slots : AreLargeSlots new.words old.root address pages new.slots

-- Pages left a system from an address on: they are no longer mapped and their frames are free, but for that of a table
-- for what is left of a large page in which they begin. Every byte that is still mapped stays.
pub record ArePagesGone (old new : Paged) (address pages : ℕ) : Type 0 where
  pub base : new.base ≡ old.base
  pub pages_is : new.pages ≡ old.pages
  pub root : new.root ≡ old.root
  pub joins : new.joins ≡ old.joins
  pub slots : new.slots ≡ old.slots
  pub tables : new.tables ≡ old.tables + cut_tables old.words old.root (address / 4096)
  pub gone : AreUnmapped old.words new.words old.free new.free old.root (address / 4096) pages
  pub tree : IsTree new.words old.root new.free
  pub unmapped : (k : ℕ) → k < pages → walk_of new.words old.root (address / 4096 + k) ≡ None
  pub others :
      (page : ℕ) → IsTrue (is_canonical (page * 4096)) → ((k : ℕ) → k < pages → page ≡ address / 4096 + k → ⊥) → walk_of new.words old.root page ≡ walk_of old.words old.root page
  pub bytes : (at : ℕ) → IsSome (walk_of new.words old.root (at / 4096)) → reached new.words old.root at ≡ reached old.words old.root at

-- the same of pages of the heap
abbrev pub IsPagedGrant : Paged → Paged → ℕ → ℕ → Type 0
IsPagedGrant old new address pages = HasGotPages old new address pages heap_rights

-- whether an address lies in a region of the user
abbrev pub is_of_user : List Region → ℕ → Bool
is_of_user regions address = list_any (λ region. not region.heap && is_within address region) regions

-- What stays of a system while nothing is granted, given back or mapped: all but the bytes of the heap's pages. No word
-- of a table is changed.
pub record OnlyHeapBytesChange (old new : Paged) : Type 0 where
  pub others : new ≡ record old { words = new.words }
  pub size : length new.words ≡ length old.words
  pub tree : IsTree old.words old.root old.free → IsTree new.words old.root old.free
  pub walks : (level number : ℕ) → level ≤ 4 → reach new.words old.root level number ≡ reach old.words old.root level number
  pub larges : (number : ℕ) → large_of new.words old.root number ≡ large_of old.words old.root number
  pub tables :
      (level number index : ℕ) (met : Place) → level < 4 → index < 512 → reach old.words old.root level number ≡ Some met →
      word_at new.words met.frame index ≡ word_at old.words met.frame index
  pub users : (address : ℕ) → IsTrue (is_of_user old.regions address) → reached new.words old.root address ≡ reached old.words old.root address

-- what is seen of a machine
pub record Seen : Type 0 where
  pub paged : Paged
  pub granularity : ℕ
  -- the live blocks, by number
  pub blocks : List (Option Live)
  -- the frame in CR3, from which the processor walks
  pub top : ℕ

-- what may be done at a page that the walk finds
abbrev pub rights_of : Place → Rights
rights_of place = record { write = place.write; user = place.user; fetch = place.fetch }

-- The machine stands for the state.
pub record Stands (m : Seen) (s : State) : Type 0 where
  -- the root is the frame in CR3
  pub root : m.paged.root ≡ m.top
  -- the tables form a tree, beside the free frames
  pub tree : IsTree m.paged.words m.paged.root m.paged.free
  pub free_frames : free_count m.paged.free ≡ free_frames s
  pub table_count : m.paged.tables ≡ 1 + length s.tables
  -- The walk finds a page exactly where a region holds it, with the region's rights: it is of type 0, as usual
  -- memory, and not global.
  pub pages_found :
      (page : ℕ) → IsTrue (is_canonical (4096 * page)) →
      option_map bits_at (walk_of m.paged.words m.paged.root page) ≡ option_map (λ region. bits_of region.rights) (region_at s (4096 * page))
  -- the walk meets a table below the root exactly at the prefixes of the state
  pub tables_met :
      (level number : ℕ) → 0 < level → level < 4 →
      IsSome (reach m.paged.words m.paged.root level number) ↔ IsTrue (has_table s.tables (record { level = level; number = number }))
  -- the walk ends at the third entry exactly in the slots of the state
  pub larges_met :
      (slot : ℕ) → IsSlot slot → IsSome (large_of m.paged.words m.paged.root (slot_number slot)) ↔ IsTrue (has_slot s.large slot)
  pub regions : m.paged.regions ≡ all_regions s
  pub blocks : m.blocks ≡ map (option_map outline) s.blocks
  pub base : m.paged.base ≡ s.base
  pub pages : m.paged.pages ≡ s.pages
  pub granularity : m.granularity ≡ s.granularity
  pub frames : frame_count m.paged.words ≡ s.frames
  -- each byte that is known is the one reached, and the bytes of user regions are 0
  pub bytes : HoldsBytes (reached m.paged.words m.paged.root) s.blocks
  pub zeros : (address : ℕ) → IsTrue (list_any (is_within address) s.users) → reached m.paged.words m.paged.root address ≡ Some 0

-- from a state for which it stood, the machine gave an answer that is allowed there, and stands for the state after it
pub record IsStep (s : State) (call : Call) (answer : Answer) (m : Seen) : Type 0 where
  pub allowed : IsAllowed s call answer
  pub good : IsGood (after s call answer)
  pub stands : Stands m (after s call answer)

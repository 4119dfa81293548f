-- What a processor finds in a machine's page tables, by its own walk from CR3, and what it leaves of them.
use Rattle.std.specs.Prelude.{◌≡◌, ℕ, ◌*◌, ◌^◌, ◌≤◌, ◌<◌, Bool, true, false, IsTrue, Some, option_map}
use Rattle.paging_core.specs.Address.{is_canonical}
use Rattle.paging_core.specs.Memory.{frame_count, word_at}
use Rattle.paging_core.specs.Entry.{has_bit}
use Rattle.paging_core.specs.Walk.{Place, reach}
use Rattle.paging_core.specs.PageBits.{bits_of, bits_at}
use Rattle.paging_core.specs.Plain.{marked}
use Rattle.paging_core.specs.ProcessorWalk.{processor_walk, page_of, is_refused}
use Rattle.machine_model.specs.State.{State, region_at}
use Rattle.machine_model.specs.Machine.{Seen, Stands}

-- A processor whose physical addresses reach the whole memory finds a page if and only if a region of the state holds it, with
-- the region's rights, of type 0, as usual memory, and not global; and it meets no reserved bit.
abbrev pub FindsEachRegion : Type 0
FindsEachRegion =
    (m : Seen) (s : State) (width page : ℕ) → Stands m s → 4096 * frame_count m.paged.words ≤ 2 ^ width → IsTrue (is_canonical (4096 * page)) →
    (option_map bits_at (page_of (processor_walk width m.paged.words m.top page)) ≡ option_map (λ region. bits_of region.rights) (region_at s (4096 * page)))
    × (is_refused (processor_walk width m.paged.words m.top page) ≡ false)

-- It writes to no table: each entry by which it may walk, to read or to write, has the marks that the walk would set.
abbrev pub LeavesEachTable : Type 0
LeavesEachTable =
    (m : Seen) (s : State) (level number index : ℕ) (table : Place) (writes : Bool) → Stands m s → level < 4 → index < 512 →
    reach m.paged.words m.top level number ≡ Some table → has_bit (word_at m.paged.words table.frame index) 0 ≡ true →
    marked writes level (word_at m.paged.words table.frame index) ≡ word_at m.paged.words table.frame index

-- The walk of a processor, over any words: four levels of tables, pages of 4 KiB, 2 MiB and 1 GiB, no-execute on
-- (AMD64 volume 2, "Long-Mode Page Translation"). `width` is how many bits a physical address has. What is not in the
-- words reads as 0.
use Rattle.std.specs.Prelude.{⊤, ℕ, ◌+◌, ◌*◌, ◌/◌, ◌%◌, ◌^◌, ◌<◌, Bool, true, false, not, ◌==◌, ◌&&◌, ◌||◌, if◌then◌else◌, List, Option, Some, None}
use Rattle.paging_core.specs.Memory.{word_at}
use Rattle.paging_core.specs.Entry.{has_bit, frame_of}
use Rattle.paging_core.specs.Walk.{Place, named, top, mapped_place}
use Rattle.paging_core.specs.declared.processor_walk.Next.{Next}
use Rattle.paging_core.specs.declared.processor_walk.Next.TheVariants.{Table, End}
use Rattle.paging_core.specs.declared.processor_walk.Translated.{Translated}
use Rattle.paging_core.specs.declared.processor_walk.Translated.TheVariants.{Page, NotPresent as IsAbsent, Reserved as IsReserved}

-- how a walk ends; the steps count from 0
pub data Outcome : Type 0 where
  -- the entry of this step is not present
  NotPresent : ℕ → Outcome
  -- the entry of this step has a bit that is reserved
  Reserved : ℕ → Outcome
  -- at the frame of the page, with the rights that all entries on the way grant
  AtPage : Place → Outcome

-- What is reserved in an entry besides the address bits from the width on ("Page-Translation-Table Entry Fields"): bits
-- 7 and 8 in the first step; and if bit 7 makes the entry that of a page, the address bits below the page's size: bits
-- 13 to 29 for 1 GiB, 13 to 20 for 2 MiB. Bit 12 is PAT there, and no address bit. AMD's manual has bit 8 reserved only
-- in the first step, and ignored if the second or the third names a table; Intel's processors and QEMU ignore it in the
-- first too.
abbrev pub is_malformed : ℕ → ℕ → Bool
is_malformed step entry =
    step == 0 && (has_bit entry 7 || has_bit entry 8)
    || step == 1 && (has_bit entry 7 && not (entry % 2 ^ 30 / 2 ^ 13 == 0))
    || step == 2 && (has_bit entry 7 && not (entry % 2 ^ 21 / 2 ^ 13 == 0))

-- an entry has a bit that is reserved
abbrev pub has_reserved : ℕ → ℕ → ℕ → Bool
has_reserved width step entry = not (frame_of entry * 2 ^ 12 / 2 ^ width == 0) || is_malformed step entry

-- the walk goes on past an entry that is present and has no reserved bit
abbrev pub past : ℕ → ℕ → ℕ → Outcome → Outcome
past width step entry onward =
    (if not (has_bit entry 0) then NotPresent step else if has_reserved width step entry then Reserved step else onward)

-- the frame of a page in this many frames that are mapped as one: they begin at a multiple of their count
abbrev pub within : ℕ → ℕ → Place → Place
within frames page mapped =
    record { frame = mapped.frame / frames * frames + page % frames; write = mapped.write; user = mapped.user; fetch = mapped.fetch; through = mapped.through; uncached = mapped.uncached; global = mapped.global }

-- the index of the entry that the walk of a page reads in the table of a step: the next nine bits of the page's number
abbrev pub index_of : ℕ → ℕ → ℕ
index_of step page =
    if step == 0 then page / 2 ^ 27 % 512 else if step == 1 then page / 2 ^ 18 % 512 else if step == 2 then page / 2 ^ 9 % 512 else page % 512

-- the walk from an entry that was read in the table of the last step
abbrev pub by_fourth : ℕ → Place → ℕ → Outcome
by_fourth width from entry = past width 3 entry (AtPage (named from entry))

-- from one of the third: it may be that of a page of 2 MiB
abbrev pub by_third : ℕ → List ℕ → ℕ → Place → ℕ → Outcome
by_third width words page from entry =
    let to = named from entry in
    past width 2 entry (if has_bit entry 7 then AtPage (within (2 ^ 9) page to) else by_fourth width to (word_at words to.frame (page % 512)))

-- from one of the second: it may be that of a page of 1 GiB
abbrev pub by_second : ℕ → List ℕ → ℕ → Place → ℕ → Outcome
by_second width words page from entry =
    let to = named from entry in
    past width 1 entry (if has_bit entry 7 then AtPage (within (2 ^ 18) page to) else by_third width words page to (word_at words to.frame (page / 2 ^ 9 % 512)))

-- from one of the root table
abbrev pub by_first : ℕ → List ℕ → ℕ → Place → ℕ → Outcome
by_first width words page from entry =
    let to = named from entry in past width 0 entry (by_second width words page to (word_at words to.frame (page / 2 ^ 18 % 512)))

-- the walk of a page: in each step the table's entry that the next nine bits of the page's number select
unfoldable pub processor_walk : ℕ → List ℕ → ℕ → ℕ → Outcome
processor_walk width words root page = by_first width words page (top root) (word_at words root (page / 2 ^ 27 % 512))

-- the walk from an entry that was read in the table of this step
abbrev pub by_entry : ℕ → List ℕ → ℕ → ℕ → Place → ℕ → Outcome
by_entry width words page step from entry =
    if step == 0 then by_first width words page from entry
    else if step == 1 then by_second width words page from entry
    else if step == 2 then by_third width words page from entry
    else by_fourth width from entry

-- how the walk ended by the answer of `translate`
abbrev pub outcome_of : Translated → Outcome
outcome_of (Page mapped) = AtPage (mapped_place mapped)
outcome_of (IsAbsent step) = NotPresent step
outcome_of (IsReserved step) = Reserved step

-- The walk from what follows an entry of this step: from the entry that the words have in the next table, or its end.
abbrev pub from_next : ℕ → List ℕ → ℕ → ℕ → Next → Outcome
from_next width words page step (Table to) =
    by_entry width words page (step + 1) (mapped_place to) (word_at words to.frame (index_of (step + 1) page))
from_next width words page step (End end) = outcome_of end

-- another table follows only in the first three steps
abbrev pub IsInTime : ℕ → Next → Type 0
IsInTime step (Table to) = step < 3
IsInTime step (End end) = ⊤

-- the page at which a walk ends
abbrev pub page_of : Outcome → Option Place
page_of (NotPresent step) = None
page_of (Reserved step) = None
page_of (AtPage place) = Some place

-- a reserved bit ended the walk
abbrev pub is_refused : Outcome → Bool
is_refused (NotPresent step) = false
is_refused (Reserved step) = true
is_refused (AtPage place) = false

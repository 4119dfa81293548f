-- The walk of a processor in any mode, over any words: as `processor_walk`, with the bits that the mode reserves or ignores
-- (AMD64 volume 2, sections 5.3 and 5.4). It finds besides how large the page is, and which bits of the entries an access sets.
use Rattle.std.specs.Prelude.{⊤, ℕ, ◌+◌, ◌*◌, ◌/◌, ◌%◌, ◌^◌, ◌<◌, Bool, true, false, not, ◌==◌, ◌&&◌, ◌||◌, if◌then◌else◌, List}
use Rattle.paging_core.specs.Memory.{word_at}
use Rattle.paging_core.specs.Entry.{has_bit}
use Rattle.paging_core.specs.Walk.{Place, named, top, mapped_place}
use Rattle.paging_core.specs.ProcessorWalk.{Outcome, NotPresent as is_absent, Reserved as is_reserved, AtPage as is_at, within, index_of}
use Rattle.guest_walk.specs.Mode.{entry_seen, has_reserved_in}
use Rattle.guest_walk.specs.declared.mode.Mode.{Mode}
use Rattle.guest_walk.specs.declared.walking.Found.{Found}
use Rattle.guest_walk.specs.declared.walking.End.{End}
use Rattle.guest_walk.specs.declared.walking.End.TheVariants.{Page, NotPresent as EndsAbsent, Reserved as EndsReserved}
use Rattle.guest_walk.specs.declared.walking.Next.{Next}
use Rattle.guest_walk.specs.declared.walking.Next.TheVariants.{Table, End as Ends}

-- what a walk has found: a table, or at its end a page
pub record Finding : Type 0 where
  -- its frame, and the rights that all entries on the way grant
  pub place : Place
  -- each entry on the way has its accessed bit, 5
  pub accessed : Bool
  -- the last entry has its dirty bit, 6
  pub dirty : Bool

-- how a walk ends; the steps count from 0
pub data Ending : Type 0 where
  -- the entry of this step is not present
  NotPresent : ℕ → Ending
  -- the entry of this step is present, and has a bit that is reserved
  Reserved : ℕ → Ending
  -- the entry of this step maps the page
  AtPage : ℕ → Finding → Ending

-- how many bytes a page has that an entry of this step maps
abbrev pub page_bytes : ℕ → ℕ
page_bytes step = if step == 1 then 2 ^ 30 else if step == 2 then 2 ^ 21 else 2 ^ 12

-- what an entry leads to
abbrev pub led : Finding → ℕ → Finding
led from entry = record { place = named from.place entry; accessed = from.accessed && has_bit entry 5; dirty = has_bit entry 6 }

-- the frame of a page in this many frames that are mapped as one
abbrev pub found_within : ℕ → ℕ → Finding → Finding
found_within frames page found = record { place = within frames page found.place; accessed = found.accessed; dirty = found.dirty }

-- what a walk begins with
abbrev pub found_root : ℕ → Finding
found_root root = record { place = top root; accessed = true; dirty = true }

-- the walk goes on past an entry that is present and has no reserved bit
abbrev pub past_in : Mode → ℕ → ℕ → ℕ → Ending → Ending
past_in mode width step entry onward =
    (if not (has_bit entry 0) then NotPresent step else if has_reserved_in mode width step entry then Reserved step else onward)

-- the entry that the walk of a page reads in the table of a step
abbrev pub read_at : Mode → List ℕ → ℕ → ℕ → ℕ → ℕ
read_at mode words step frame page = entry_seen mode step (word_at words frame (index_of step page))

-- the walk from an entry that was read in the table of the last step
abbrev pub by_fourth : Mode → ℕ → Finding → ℕ → Ending
by_fourth mode width from entry = past_in mode width 3 entry (AtPage 3 (led from entry))

-- from one of the third: it may be that of a page of 2 MiB
abbrev pub by_third : Mode → ℕ → List ℕ → ℕ → Finding → ℕ → Ending
by_third mode width words page from entry =
    let to = led from entry in
    past_in mode width 2 entry
    (if has_bit entry 7 then AtPage 2 (found_within (2 ^ 9) page to) else by_fourth mode width to (read_at mode words 3 to.place.frame page))

-- from one of the second: it may be that of a page of 1 GiB
abbrev pub by_second : Mode → ℕ → List ℕ → ℕ → Finding → ℕ → Ending
by_second mode width words page from entry =
    let to = led from entry in
    past_in mode width 1 entry
    (if has_bit entry 7 then AtPage 1 (found_within (2 ^ 18) page to) else by_third mode width words page to (read_at mode words 2 to.place.frame page))

-- from one of the root table
abbrev pub by_first : Mode → ℕ → List ℕ → ℕ → Finding → ℕ → Ending
by_first mode width words page from entry =
    let to = led from entry in past_in mode width 0 entry (by_second mode width words page to (read_at mode words 1 to.place.frame page))

-- the walk of a page: in each step the table's entry that the next nine bits of the page's number select
unfoldable pub guest_walk : Mode → ℕ → List ℕ → ℕ → ℕ → Ending
guest_walk mode width words root page = by_first mode width words page (found_root root) (read_at mode words 0 root page)

-- the walk from an entry that was read in the table of this step
abbrev pub by_entry : Mode → ℕ → List ℕ → ℕ → ℕ → Finding → ℕ → Ending
by_entry mode width words page step from entry =
    if step == 0 then by_first mode width words page from entry
    else if step == 1 then by_second mode width words page from entry
    else if step == 2 then by_third mode width words page from entry
    else by_fourth mode width from entry

-- what the code has found
abbrev pub finding_of : Found → Finding
finding_of found = record { place = mapped_place found.mapped; accessed = found.accessed; dirty = found.dirty }

-- how the walk ended by the code's answer
abbrev pub ending_of : End → Ending
ending_of (Page step found) = AtPage step (finding_of found)
ending_of (EndsAbsent step) = NotPresent step
ending_of (EndsReserved step) = Reserved step

-- The walk from what follows an entry of this step: from the entry that the words have in the next table, or its end.
abbrev pub from_next : Mode → ℕ → List ℕ → ℕ → ℕ → Next → Ending
from_next mode width words page step (Table to) =
    by_entry mode width words page (step + 1) (finding_of to) (read_at mode words (step + 1) to.mapped.frame page)
from_next mode width words page step (Ends end) = ending_of end

-- another table follows only in the first three steps
abbrev pub IsInTime : ℕ → Next → Type 0
IsInTime step (Table to) = step < 3
IsInTime step (Ends end) = ⊤

-- the end without what `processor_walk` does not tell
abbrev pub outcome_of : Ending → Outcome
outcome_of (NotPresent step) = is_absent step
outcome_of (Reserved step) = is_reserved step
outcome_of (AtPage step found) = is_at found.place

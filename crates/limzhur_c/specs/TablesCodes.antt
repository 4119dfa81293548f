-- What the calls of page tables answer to C: a number for each refusal, and 0 for success. The names are those of limzhur_tables.h.
use Rattle.std.specs.Prelude.{ℕ, Bool, ◌*◌, ◌/◌, ◌%◌, ◌^◌, ◌==◌, ◌&&◌, is_some, nat_lt, if◌then◌else◌, Option, Some, None}
use Rattle.paging_core.specs.Address.{is_canonical}
use Rattle.paging_core.specs.Walk.{Place, large_of}
use Rattle.kernel_tables.specs.declared.faults.MapFault.{MapFault}
use Rattle.kernel_tables.specs.declared.faults.MapFault.TheVariants.{IsMapped, HasTable, PastLimit, InArea, NoFrames}
use Rattle.kernel_tables.specs.declared.faults.EntryFault.{EntryFault}
use Rattle.kernel_tables.specs.declared.faults.EntryFault.TheVariants as entry
use Rattle.paging_core.specs.Large.{slot_of}
use Rattle.kernel_tables.specs.declared.range_fault.RangeFault.{RangeFault}
use Rattle.kernel_tables.specs.declared.range_fault.RangeFault.TheVariants as range
use Rattle.kernel_tables.specs.Faults.{map_fault, map_large_fault, entry_fault, protect_fault}
use Rattle.kernel_tables.specs.Ranges.{map_range_fault, change_range_fault, protect_range_fault}
use Rattle.paging_core.specs.declared.page_table.PageBits.{PageBits}
use Rattle.kernel_tables.specs.TableState.{TableState}
use Rattle.limzhur_c.specs.declared.tables_exports.PlaceOfPage.{PlaceOfPage}

-- The bits of an entry that a word of flags names: 1 writes, 2 users, 4 fetches, 8 and 16 the type, 32 global.
abbrev pub flag_bits : ℕ → PageBits
flag_bits flags = record {
  write = flags % 2 == 1;
  user = flags / 2 % 2 == 1;
  fetch = flags / 4 % 2 == 1;
  through = flags / 8 % 2 == 1;
  uncached = flags / 16 % 2 == 1;
  global = flags / 32 % 2 == 1;
}

-- the answer to a request with flags: 9 if a bit of theirs is unknown
abbrev pub flagged : ℕ → ℕ → ℕ
flagged flags answer = (if nat_lt flags 64 then answer else 9)

abbrev pub map_code : Option MapFault → ℕ
map_code None = 0
map_code (Some IsMapped) = 2
map_code (Some PastLimit) = 3
map_code (Some InArea) = 4
map_code (Some (NoFrames wanting)) = 5
map_code (Some HasTable) = 7

abbrev pub entry_code : Option EntryFault → ℕ
entry_code None = 0
entry_code (Some entry.NotMapped) = 6
entry_code (Some entry.InArea) = 4
entry_code (Some entry.NoFrames) = 5

-- the answer to a request that the page of an address be mapped to a frame, for users or not
abbrev pub map_answer : TableState → ℕ → ℕ → Bool → ℕ
map_answer tables address frame user =
    (if is_canonical address then (if nat_lt frame (2 ^ 40) then map_code (map_fault tables (address / 4096) frame user) else 3) else 1)

-- the answer to a request that the 2 MiB from an address on be mapped by one entry to the 512 frames from `frame` on
abbrev pub map_large_answer : TableState → ℕ → ℕ → Bool → ℕ
map_large_answer tables address frame user =
    (if is_canonical address
    then (if address % 2 ^ 21 == 0 && frame % 512 == 0
    then (if nat_lt frame (2 ^ 40) then map_code (map_large_fault tables (address / 2 ^ 21) (frame / 512) user) else 3)
    else 8)
    else 1)

-- the answer to a request that the entry of the 2 MiB from an address on be taken away
abbrev pub unmap_large_answer : TableState → ℕ → ℕ
unmap_large_answer tables address =
    (if is_canonical address
    then (if address % 2 ^ 21 == 0 then (if is_some (large_of tables.words tables.root (slot_of (address / 2 ^ 21))) then 0 else 6) else 8)
    else 1)

-- the answer to a request that the entry of the page of an address be changed
abbrev pub entry_answer : TableState → ℕ → ℕ
entry_answer tables address = (if is_canonical address then entry_code (entry_fault tables (address / 4096)) else 1)

-- the answer to a request that the entry of the page of an address be given rights or bits, for users or not
abbrev pub grant_answer : TableState → ℕ → Bool → ℕ
grant_answer tables address user = (if is_canonical address then entry_code (protect_fault tables (address / 4096) user) else 1)

abbrev pub range_code : Option RangeFault → ℕ
range_code None = 0
range_code (Some range.NotCanonical) = 1
range_code (Some (range.IsMapped page)) = 2
range_code (Some range.PastLimit) = 3
range_code (Some range.InArea) = 4
range_code (Some (range.LeadsIntoArea page)) = 4
range_code (Some (range.NoFrames wanting)) = 5
range_code (Some (range.NotMapped page)) = 6

-- what C is told of a refused range, in place of what was there: the address of a page, or how many frames are wanting
abbrev pub fault_detail : Option RangeFault → ℕ → ℕ
fault_detail None was = was
fault_detail (Some range.NotCanonical) was = was
fault_detail (Some (range.IsMapped page)) was = page * 4096
fault_detail (Some range.PastLimit) was = was
fault_detail (Some range.InArea) was = was
fault_detail (Some (range.LeadsIntoArea page)) was = page * 4096
fault_detail (Some (range.NoFrames wanting)) was = wanting
fault_detail (Some (range.NotMapped page)) was = page * 4096

-- the cause for which the pages from that of an address on are not mapped to the frames from `frame` on, for users or not
abbrev pub map_range_cause : TableState → ℕ → ℕ → ℕ → Bool → Option RangeFault
map_range_cause tables address pages frame user =
    (if is_canonical address
    then (if nat_lt frame (2 ^ 40) then map_range_fault tables (address / 4096) pages frame user else Some range.PastLimit)
    else Some range.NotCanonical)

-- the cause for which the pages from that of an address on are not unmapped
abbrev pub change_range_cause : TableState → ℕ → ℕ → Option RangeFault
change_range_cause tables address pages =
    (if is_canonical address then change_range_fault tables (address / 4096) pages else Some range.NotCanonical)

-- the cause for which the pages from that of an address on are not given rights or bits, for users or not
abbrev pub grant_range_cause : TableState → ℕ → ℕ → Bool → Option RangeFault
grant_range_cause tables address pages user =
    (if is_canonical address then protect_range_fault tables (address / 4096) pages user else Some range.NotCanonical)

-- what C is told of a place: its frame, and its rights
abbrev pub told_of : Place → PlaceOfPage
told_of place = record { frame = place.frame; write = place.write; user = place.user; fetch = place.fetch }

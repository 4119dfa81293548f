-- Entries as they are written here, with no bit but present (bit 0), writable (1), user (2), accessed (5), dirty (6),
-- bit 7 in the third step, the address of frames that exist, no-execute (63), the type of a page (3, 4), and global (8) if
-- they map a page.
use Rattle.std.specs.Prelude.{◌≡◌, ℕ, ◌+◌, ◌/◌, ◌%◌, ◌^◌, ◌<◌, Bool, true, false, not, ◌==◌, ◌&&◌, ◌||◌, if◌then◌else◌, List, Some}
use Rattle.paging_core.specs.Memory.{word_at, frame_count}
use Rattle.paging_core.specs.Entry.{has_bit, frame_of}
use Rattle.paging_core.specs.Walk.{Place, reach, is_run}

-- an entry of the fourth step maps a page, and one that has bit 7 a large page
abbrev pub maps_page : ℕ → ℕ → Bool
maps_page level entry = level == 3 || has_bit entry 7

-- the third bit of the type of a page that an entry maps, PAT: bit 7 for a page of 4 KiB, and bit 12 for a large one (AMD64
-- volume 2, "Page-Translation-Table Entry Fields")
abbrev pub pat_of : ℕ → ℕ → Bool
pat_of level entry = (if level == 3 then has_bit entry 7 else has_bit entry 12)

-- an entry of a table that is met after `level` steps
pub record IsPlain (words : List ℕ) (level entry : ℕ) : Type 0 where
  -- its frame exists; that of a large page is the first of 512 in a row that do
  pub frame : frame_of entry < frame_count words
  pub run : has_bit entry 7 ≡ true → is_run words (frame_of entry) ≡ true
  -- bit 7 is that of a large page
  pub large : has_bit entry 7 ≡ true → level ≡ 2
  -- accessed, and dirty if it maps a page: a processor that walks by it has nothing to write
  pub accessed : has_bit entry 5 ≡ true
  pub dirty : maps_page level entry ≡ true → has_bit entry 6 ≡ true
  -- a table is read as usual memory is: type 0
  pub cached : maps_page level entry ≡ false → entry / 2 ^ 3 % 2 ^ 2 ≡ 0
  -- only an entry that maps a page is global: bit 8 is reserved in the first step
  pub local : maps_page level entry ≡ false → has_bit entry 8 ≡ false
  -- no other bit: 9 to 11, 52 to 62
  pub low : entry / 2 ^ 9 % 2 ^ 3 ≡ 0
  pub high : entry / 2 ^ 52 % 2 ^ 11 ≡ 0

-- the entry after a walk by it: a processor sets accessed, and dirty if it writes to the page that the entry maps
-- (AMD64 volume 2, "Page-Translation-Table Entry Fields")
abbrev pub marked : Bool → ℕ → ℕ → ℕ
marked writes level entry =
    entry + (if has_bit entry 5 then 0 else 2 ^ 5) + (if writes && (maps_page level entry && not (has_bit entry 6)) then 2 ^ 6 else 0)

-- each entry that is present in a table of the walk is plain
pub record ArePlain (words : List ℕ) (root : ℕ) : Type 0 where
  pub each :
      (level number index : ℕ) (table : Place) → level < 4 → index < 512 → reach words root level number ≡ Some table →
      has_bit (word_at words table.frame index) 0 ≡ true → IsPlain words level (word_at words table.frame index)

-- The fields of a page table entry (AMD64 volume 2, "4-Kbyte Page Translation in Long Mode").
use Rattle.std.specs.Prelude.{ℕ, ◌+◌, ◌*◌, ◌/◌, ◌%◌, ◌^◌, Bool, ◌==◌, if◌then◌else◌}
use Rattle.paging_core.specs.declared.page_table.PageBits.{PageBits}

-- whether a word has a bit; bits count from 0
abbrev pub has_bit : ℕ → ℕ → Bool
has_bit word bit = word / 2 ^ bit % 2 == 1

-- the frame that the address field names: bits 12 to 51
abbrev pub frame_of : ℕ → ℕ
frame_of entry = entry / 2 ^ 12 % 2 ^ 40

-- A processor sets accessed (bit 5) in each entry by which it walks, and dirty (bit 6) in that of a page to which it
-- writes. Every entry has them from the start, so a processor never writes to a table.

-- the word that names a table: present (1), writable (2), user (4) and accessed (32)
abbrev pub table_entry : ℕ → ℕ
table_entry frame = frame * 2 ^ 12 + 39

-- the word that maps a page: present, accessed and dirty (1 + 32 + 64), writable (2) and user (4) if they are granted,
-- no-execute (bit 63) if fetch is denied, the type's bits 3 and 4, and global (256)
abbrev pub page_entry : ℕ → PageBits → ℕ
page_entry frame rights =
    frame * 2 ^ 12 + 97 + (if rights.write then 2 else 0) + (if rights.user then 4 else 0) + (if rights.through then 8 else 0)
    + (if rights.uncached then 16 else 0) + (if rights.global then 256 else 0) + (if rights.fetch then 0 else 2 ^ 63)

-- the word that maps a large page from the frame on: that of a page, with bit 7
abbrev pub large_entry : ℕ → PageBits → ℕ
large_entry frame rights = page_entry frame rights + 2 ^ 7

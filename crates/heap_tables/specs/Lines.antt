-- The lines of page tables, a line for each entry: the root, and below each table what its entries lead to, in their order. The regions
-- say whose the pages are.
use Rattle.std.specs.Prelude.{ℕ, zero, suc, ◌+◌, ◌-◌, ◌*◌, ◌%◌, ◌^◌, nat_eq, List, [], ◌∷◌, ◌++◌, Option, Some, None, if◌then◌else◌}
use Rattle.paging_core.specs.Walk.{Place, step, large_step, top}
use Rattle.paging_core.specs.PageBits.{bits_at}
use Rattle.heap_tables.specs.declared.lines.Line.{Line}
use Rattle.heap_tables.specs.declared.owners.Owned.{Owned}
use Rattle.heap_tables.specs.Owners.{owner_of}

-- the line of a place at which a walk arrives after `steps` entries, the last of which has this index
abbrev pub line_of : List Owned → ℕ → ℕ → ℕ → ℕ → Place → Line
line_of regions steps index page end place = record { steps = steps; index = index; page = page; end = end; frame = place.frame; owner = owner_of regions page; rights = bits_at place }

-- a large page, if there is one: 512 pages; the number is that of its three indices
abbrev pub large_lines : List Owned → ℕ → Option Place → List Line
large_lines regions number None = []
large_lines regions number (Some large) = line_of regions 3 (number % 512) (512 * number) (512 * number + 512) large ∷ []

-- what is below a place, if there is one
abbrev pub lines_below : (ℕ → Place → List Line) → ℕ → Option Place → List Line
lines_below below number None = []
lines_below below number (Some place) = below number place

-- an entry of the third table may map a large page
abbrev pub large_entry_of : List ℕ → ℕ → Place → ℕ → Option Place
large_entry_of words level table index = if nat_eq level 2 then large_step words table index else None

-- what an entry leads to, of a table that was met after `level` entries whose indices are a number in base 512
abbrev pub entry_lines : List ℕ → List Owned → (ℕ → Place → List Line) → ℕ → ℕ → Place → ℕ → List Line
entry_lines words regions below level number table index =
    large_lines regions (512 * number + index) (large_entry_of words level table index)
    ++ lines_below below (512 * number + index) (step words level table index)

-- what the first `count` entries lead to
abbrev pub entries_lines : List ℕ → List Owned → (ℕ → Place → List Line) → ℕ → ℕ → Place → ℕ → List Line
entries_lines words regions below level number table zero = []
entries_lines words regions below level number table (suc count) =
    entries_lines words regions below level number table count ++ entry_lines words regions below level number table count

-- the first page below a place from which `left` more entries lead to a page
abbrev pub lowest_page_below : ℕ → ℕ → ℕ
lowest_page_below left number = number * 512 ^ left

-- A place from which `left` more entries lead to a page, and what is below it: a page, or a table and what its 512 entries lead to.
unfoldable pub lines_under : List ℕ → List Owned → ℕ → ℕ → Place → List Line
lines_under words regions zero number place = line_of regions 4 (number % 512) number (number + 1) place ∷ []
lines_under words regions (suc left) number place =
    line_of regions (3 - left) (number % 512) (lowest_page_below (suc left) number) (lowest_page_below (suc left) number) place
    ∷ entries_lines words regions (lines_under words regions left) (3 - left) number place 512

-- the lines of all entries of page tables with this root
abbrev pub entry_lines_of : List ℕ → List Owned → ℕ → List Line
entry_lines_of words regions root = lines_under words regions 4 0 (top root)

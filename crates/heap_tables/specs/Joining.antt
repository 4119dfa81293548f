-- The lines of page tables, in which entries that go on are one line.
use Rattle.std.specs.Prelude.{ℕ, ◌+◌, ◌-◌, Bool, true, false, not, ◌&&◌, nat_eq, nat_lt, List, [], ◌∷◌, if◌then◌else◌}
use Rattle.paging_core.specs.declared.page_table.PageBits.{PageBits}
use Rattle.heap_tables.specs.declared.lines.Line.{Line}
use Rattle.heap_tables.specs.declared.owners.Owned.{Owned}
use Rattle.heap_tables.specs.Lines.{entry_lines_of}
use Rattle.heap_tables.specs.Owners.{same_owner}

abbrev pub same : Bool → Bool → Bool
same true other = other
same false other = not other

-- whether both pages have the same rights, are of one type, and both global or neither
abbrev pub same_bits : PageBits → PageBits → Bool
same_bits one other =
    same one.write other.write && (same one.user other.user && (same one.fetch other.fetch
    && (same one.through other.through && (same one.uncached other.uncached && same one.global other.global))))

-- Whether the pages of a line go on in the next one: they are met after equally many entries, their frames go on too, and they have
-- one owner, equal rights and one type, and are both global or neither.
abbrev pub goes_on : Line → Line → Bool
goes_on line next =
    nat_lt line.page line.end && (nat_lt next.page next.end && (nat_eq line.end next.page
    && (nat_eq (line.frame + (line.end - line.page)) next.frame && (nat_eq line.steps next.steps
    && (same_owner line.owner next.owner && same_bits line.rights next.rights)))))

-- a line with the pages of the next one
abbrev pub with_next : Line → Line → Line
with_next line next = record { steps = line.steps; index = line.index; page = line.page; end = next.end; frame = line.frame; owner = line.owner; rights = line.rights }

-- the lines from one on that has begun
abbrev pub lines_from : Line → List Line → List Line
lines_from line [] = line ∷ []
lines_from line (next ∷ lines) = if goes_on line next then lines_from (with_next line next) lines else line ∷ lines_from next lines

-- all lines, joined
abbrev pub joined_lines : List Line → List Line
joined_lines [] = []
joined_lines (line ∷ lines) = lines_from line lines

-- The lines of page tables. Those of a table stand between its own and that of the next table, so what is joined is of one table.
abbrev pub joined_table_lines : List ℕ → List Owned → ℕ → List Line
joined_table_lines words regions root = joined_lines (entry_lines_of words regions root)

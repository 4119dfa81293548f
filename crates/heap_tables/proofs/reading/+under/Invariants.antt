use Rattle.std.proofs.Common.{◌≡◌, ◌+◌, ◌*◌, ◌-◌, ◌%◌, ◌++◌, ◌∷◌, []}
use Rattle.paging_core.specs.Walk.{mapped_place}
use Rattle.heap_tables.specs.Lines.{line_of, lowest_page_below, entries_lines, lines_under}
use Rattle.heap_tables.proofs.reading.+under.Given as goal

abbrev pub decreases-push_entry : goal.decreases-push_entry
decreases-push_entry l = 2 * l.left

abbrev pub decreases-push_under : goal.decreases-push_under
decreases-push_under l = 2 * l.left + 1

abbrev pub invariant-push_under-loop-index : goal.invariant-push_under-loop-index
invariant-push_under-loop-index l = l.lines.items ≡ l.fn.lines.items ++ (line_of l.regions (4 - l.left) (l.number % 512)
    (lowest_page_below l.left l.number) (lowest_page_below l.left l.number) (mapped_place l.place) ∷ [] ++ entries_lines
    l.frames l.regions
    (lines_under l.frames l.regions (l.left - 1)) (4 - l.left) l.number (mapped_place l.place) l.index)

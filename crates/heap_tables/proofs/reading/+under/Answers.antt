use Rattle.std.proofs.Common.{◌≡◌, ◌≤◌, ℕ, ◌-◌, ◌%◌, List, ◌∷◌, ◌++◌, sym, ◌∙◌, ap, arith}
use Rattle.paging_core.specs.Walk.{mapped_place}
use Rattle.heap_tables.specs.declared.lines.Line.{Line}
use Rattle.heap_tables.specs.Lines.{line_of, lowest_page_below, entries_lines, lines_under}
use Rattle.heap_tables.proofs.Under.{under_table}
use Rattle.heap_tables.proofs.reading.+under.Goals as goal

-- a table, and what its 512 entries lead to
pub push_under-returns : goal.push_under-returns
push_under-returns t c =
    let frames = c.args.frames.now in
    let regions = c.args.regions.now in
    let left = c.args.left in
    let number = c.args.number in
    let place = mapped_place c.args.place.now in
    let old = c.args.lines.now.items in
    let all : c.loop-index.index ≡ 512 = omega (arith, c.loop-index-test.false, c.loop-index.auto.index-end) in
    let some : 1 ≤ left = omega (arith, c.if-left-eq0.false) in
    c.loop-index.invariant
    ∙ ap (λ (n : ℕ). old ++ (line_of regions (4 - left) (number % 512) (lowest_page_below left number)
    (lowest_page_below left number)
    place ∷ entries_lines frames regions (lines_under frames regions (left - 1)) (4 - left) number place n)) all
    ∙ ap (λ (ls : List Line). old ++ ls) (sym (under_table frames regions left number place some))

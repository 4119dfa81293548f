-- What is made one after another: with one more.
use Rattle.std.proofs.Common.{◌≡◌, ℕ, ◌+◌, ◌*◌, List, ◌++◌, codes, ap, add-one}
use Rattle.paging_core.specs.Walk.{Place}
use Rattle.heap_map.specs.Shapes.{rect}
use Rattle.heap_tables.specs.declared.lines.Line.{Line}
use Rattle.heap_tables.specs.declared.owners.Owned.{Owned}
use Rattle.heap_tables.specs.declared.uses.Use.{Use}
use Rattle.heap_tables.specs.Lines.{entry_lines, entries_lines}
use Rattle.heap_tables.specs.Rows.{guides_text}
use Rattle.heap_tables.specs.Tables.{square_text, squares_text}

pub entries_step : (words : List ℕ) (regions : List Owned) (below : ℕ → Place → List Line) (level number : ℕ) (table : Place) (count : ℕ) →
    entries_lines words regions below level number table (count + 1) ≡ entries_lines words regions below level number table
    count ++ entry_lines words regions below level number table count
entries_step words regions below level number table count = ap (entries_lines words regions below level number table) (add-one count)

pub guides_step : (y steps : ℕ) → guides_text y (steps + 1) ≡ guides_text y steps ++ rect (codes "line") (30 + 24 * steps) y 1 22
guides_step y steps = ap (guides_text y) (add-one steps)

pub squares_step : (y of : ℕ) (uses : List Use) (squares : ℕ) → squares_text y of uses (squares + 1) ≡ squares_text y of
    uses squares ++ square_text y of squares uses
squares_step y of uses squares = ap (squares_text y of uses) (add-one squares)

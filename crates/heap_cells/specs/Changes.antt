-- In which column of a row how many bytes come or go.
use Rattle.std.specs.Prelude.{ℕ, ◌+◌, ◌-◌, ◌*◌, ◌/◌, max, nat_eq, List, if◌then◌else◌}
use Rattle.std.specs.List.{sum_by}
use Rattle.heap_cells.specs.declared.spans.Span.{Span}
use Rattle.heap_cells.specs.declared.sums.Change.{Change}
use Rattle.heap_cells.specs.declared.sums.Change.TheVariants.{Comes, Goes}
use Rattle.heap_cells.specs.declared.scale.Scale.{Scale}
use Rattle.heap_cells.specs.declared.scale.Row.{Row}
use Rattle.heap_cells.specs.Spans.{overlap}
use Rattle.heap_cells.specs.Shades.{cell_columns}

-- the first column that shows the heap after a call
abbrev pub first_column : Scale → ℕ → ℕ
first_column scale call = ((call + 1) * cell_columns scale - 1) / scale.calls

-- the call with which a span comes, and the one with which it goes; one that ends before it is born goes at once
abbrev pub change_call : Change → Span → ℕ
change_call Comes span = span.born
change_call Goes span = max span.born span.end

-- the bytes of a row that first are there, or no longer are, in a column
abbrev pub changed_bytes : Scale → Change → Row → List Span → ℕ → ℕ
changed_bytes scale change row spans column = sum_by (λ span. if nat_eq column (first_column scale (change_call change span)) then overlap row.low row.high span else 0) spans

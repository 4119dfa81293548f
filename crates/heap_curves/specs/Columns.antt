-- The columns of the curves: one for each call, and 1024 at most.
use Rattle.std.specs.Prelude.{◌≡◌, ℕ, zero, suc, ◌+◌, ◌-◌, ◌*◌, ◌/◌, min, max, List, [], ◌∷◌, ◌++◌, length, take, drop}
use Rattle.heap_history.specs.declared.history.Moment.{Moment}
use Rattle.heap_curves.specs.declared.columns.Counted.{Counted}
use Rattle.heap_curves.specs.declared.columns.Counted.TheVariants.{Live, Heap}
use Rattle.heap_curves.specs.declared.columns.Column.{Column}

-- the bytes of a moment that are live, or the heap's
abbrev pub bytes_counted : Counted → Moment → ℕ
bytes_counted Live moment = moment.live
bytes_counted Heap moment = moment.heap

-- the greatest bytes of moments; 0 if there are none
abbrev pub greatest : Counted → List Moment → ℕ
greatest counted [] = 0
greatest counted (moment ∷ moments) = max (bytes_counted counted moment) (greatest counted moments)

-- the number of columns for a number of calls
abbrev pub columns_number : ℕ → ℕ
columns_number calls = min calls 1024

-- the first call of a column; that of the column after the last is the number of calls
abbrev pub column_start : ℕ → ℕ → ℕ
column_start calls column = column * calls / max 1 (columns_number calls)

-- the moments after the calls of a column
abbrev pub moments_in : List Moment → ℕ → List Moment
moments_in moments column = take (column_start (length moments) (column + 1) - column_start (length moments) column) (drop (column_start (length moments) column) moments)

-- the moments after all calls up to the last of a column
abbrev pub moments_until : List Moment → ℕ → List Moment
moments_until moments column = take (column_start (length moments) (column + 1)) moments

-- What is drawn in a column: the greatest bytes of its calls, and the most that were live until then.
abbrev pub column_of : List Moment → ℕ → Column
column_of moments column = record {
  live = greatest Live (moments_in moments column);
  heap = greatest Heap (moments_in moments column);
  peak = greatest Live (moments_until moments column);
}

-- the first columns
abbrev pub first_columns : List Moment → ℕ → List Column
first_columns moments zero = []
first_columns moments (suc number) = first_columns moments number ++ column_of moments number ∷ []

-- all columns
abbrev pub columns_of : List Moment → List Column
columns_of moments = first_columns moments (columns_number (length moments))

-- what a column has of what is counted
abbrev pub column_bytes : Counted → Column → ℕ
column_bytes Live column = column.live
column_bytes Heap column = column.heap

-- the most that columns have
abbrev pub most_drawn : Counted → List Column → ℕ
most_drawn counted [] = 0
most_drawn counted (column ∷ columns) = max (column_bytes counted column) (most_drawn counted columns)

-- Nothing is lost between columns: the most that they have is the most that there was after any call.
abbrev pub ColumnsMeetTheMost : Type 0
ColumnsMeetTheMost = (counted : Counted) (moments : List Moment) → most_drawn counted (columns_of moments) ≡ greatest counted moments

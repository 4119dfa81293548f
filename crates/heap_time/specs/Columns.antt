-- What is said of 64 columns of the run.
use Rattle.std.specs.Prelude.{ℕ, zero, suc, ◌+◌, ◌-◌, ◌*◌, ◌/◌, List, [], ◌++◌, codes, Option, Some, None, slice_get, length}
use Rattle.heap_history.specs.declared.history.Moment.{Moment}
use Rattle.heap_map.specs.Words.{commas, quantity}
use Rattle.heap_map.specs.Shapes.{titled}

-- the last call of a column
abbrev pub last_call : ℕ → ℕ → ℕ
last_call calls column = (column + 1) * calls / 64 - 1

-- the bytes that are live at a moment
unfoldable pub live_words : Moment → List ℕ
live_words moment = quantity (codes "byte") moment.live ++ codes " live, "

-- and those in heap regions
unfoldable pub moment_words : Moment → List ℕ
moment_words moment = live_words moment ++ (commas moment.heap ++ codes " bytes in heap regions")

-- both, after a call
unfoldable pub moment_title : ℕ → Moment → List ℕ
moment_title call moment = codes "after call " ++ (commas (call + 1) ++ (codes ": " ++ moment_words moment))

abbrev pub moment_text : ℕ → ℕ → ℕ → Option Moment → List ℕ
moment_text below column call None = []
moment_text below column call (Some moment) = titled (codes "none") (144 + 16 * column) 84 16 (below - 87) (moment_title call moment)

-- a column, down to what is below the bands: the state after its last call
unfoldable pub column_text : ℕ → List Moment → ℕ → List ℕ
column_text below moments column = moment_text below column (last_call (length moments) column) (slice_get moments (last_call (length moments) column))

-- the first columns
abbrev pub columns_text : ℕ → List Moment → ℕ → List ℕ
columns_text below moments zero = []
columns_text below moments (suc columns) = columns_text below moments columns ++ column_text below moments columns

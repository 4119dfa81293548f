-- The calls that were refused, over a run.
use Rattle.std.specs.Prelude.{ℕ, ◌+◌, ◌-◌, ◌*◌, ◌/◌, min, max, nat_eq, List, [], ◌∷◌, ◌++◌, length, codes, if◌then◌else◌}
use Rattle.heap_history.specs.declared.history.RefusedCall.{RefusedCall}
use Rattle.call_lines.specs.Written.{refusal_word}
use Rattle.heap_map.specs.Words.{commas}
use Rattle.heap_map.specs.Shapes.{text_at, rect, titled}

-- the number of columns for a number of calls: one each, and 512 at most
abbrev pub refused_columns : ℕ → ℕ
refused_columns calls = max 1 (min calls 512)

-- the column of a call
abbrev pub refused_column : ℕ → ℕ → ℕ
refused_column calls call = min (refused_columns calls - 1) (call * refused_columns calls / max 1 calls)

-- the first call of a column
abbrev pub bar_call : ℕ → ℕ → ℕ
bar_call calls bar = (bar * calls + (refused_columns calls - 1)) / refused_columns calls

-- the left edge of a column
abbrev pub bar_left : ℕ → ℕ → ℕ
bar_left calls bar = 144 + bar * 1024 / refused_columns calls

-- its width
abbrev pub refused_bar_width : ℕ → ℕ → ℕ
refused_bar_width calls bar = min 12 (bar_left calls (bar + 1) - bar_left calls bar)

-- the height of a column: the refused part of its calls, of 20 pixels, rounded up
abbrev pub refused_bar_height : ℕ → ℕ → ℕ → ℕ
refused_bar_height calls bar number =
    let all = max 1 (bar_call calls (bar + 1) - bar_call calls bar) in
    min 20 ((20 * number + (all - 1)) / all)

-- a refused call, counted from 1, and its cause
unfoldable pub call_title : RefusedCall → List ℕ
call_title one = codes "call " ++ (commas (one.call + 1) ++ (codes ": " ++ refusal_word one.cause))

-- the calls of a column, counted from 1
unfoldable pub span_words : ℕ → ℕ → List ℕ
span_words calls bar = commas (bar_call calls bar + 1) ++ (codes " to " ++ commas (bar_call calls (bar + 1)))

unfoldable pub refused_of : List ℕ
refused_of = codes " refused of the calls "

-- how many of the calls of a column were refused
unfoldable pub calls_title : ℕ → ℕ → ℕ → List ℕ
calls_title calls bar number = commas number ++ (refused_of ++ span_words calls bar)

-- the title of a column, by its first refused call and their number
unfoldable pub refused_bar_title : ℕ → RefusedCall → ℕ → List ℕ
refused_bar_title calls first number = if nat_eq number 1 then call_title first else calls_title calls (refused_column calls first.call) number

-- a column, over its floor
unfoldable pub refused_column_text : ℕ → ℕ → RefusedCall → ℕ → List ℕ
refused_column_text calls y first number =
    titled (codes "no") (bar_left calls (refused_column calls first.call)) (y + 20 - refused_bar_height calls (refused_column calls first.call) number)
    (refused_bar_width calls (refused_column calls first.call)) (refused_bar_height calls (refused_column calls first.call) number) (refused_bar_title calls first number)

-- The columns from one on, of which the first refused call is known, and how many there were so far. The next refused call is of that
-- column, or begins another.
abbrev pub refused_columns_from : ℕ → ℕ → RefusedCall → ℕ → List RefusedCall → List ℕ
refused_columns_from calls y first number [] = refused_column_text calls y first number
refused_columns_from calls y first number (one ∷ refused) =
    if nat_eq (refused_column calls first.call) (refused_column calls one.call) then refused_columns_from calls y first (number + 1) refused
    else refused_column_text calls y first number ++ refused_columns_from calls y one 1 refused

-- all columns that have a refused call
abbrev pub refused_columns_text : ℕ → ℕ → List RefusedCall → List ℕ
refused_columns_text calls y [] = []
refused_columns_text calls y (one ∷ refused) = refused_columns_from calls y one 1 refused

-- what stands around them
unfoldable pub refused_ground : ℕ → ℕ → List ℕ
refused_ground y number =
    text_at (codes "q") 24 (y + 8) (codes "refused")
    ++ (text_at (codes "m e faint") 134 (y + 20) (commas number) ++ rect (codes "line") 144 (y + 20) 1024 1)

-- all refused calls of a run
unfoldable pub refused_text : ℕ → ℕ → List RefusedCall → List ℕ
refused_text y calls refused = refused_ground y (length refused) ++ refused_columns_text calls y refused

-- the height of that, with what is left below it
abbrev pub refused_height : ℕ
refused_height = 34

-- The axis of calls: their lines if there are few calls, else their numbers.
use Rattle.std.specs.Prelude.{ℕ, zero, suc, ◌+◌, ◌-◌, ◌*◌, ◌/◌, min, max, Bool, ◌&&◌, nat_eq, nat_lt, nat_le, List, [], ◌∷◌, ◌++◌, length, take, map, codes, decimal, if◌then◌else◌}
use Rattle.heap_history.specs.Columns.{x_of}
use Rattle.heap_map.specs.Words.{commas}
use Rattle.heap_map.specs.Shapes.{text_at, rect}

-- a letter that can stand in a document as it is, as each letter of a call can; else a question mark
abbrev pub plain : ℕ → ℕ
plain letter =
    if nat_lt letter 32 then 63 else if nat_lt 126 letter then 63 else if nat_eq letter 38 then 63 else if nat_eq letter 60 then 63 else if nat_eq letter 62 then 63 else letter

-- the line of a call in 28 letters at most
unfoldable pub short_words : List ℕ → List ℕ
short_words line = if nat_le (length line) 28 then map plain line else map plain (take 26 line) ++ codes ".."

-- words downwards from a place
unfoldable pub down_text : ℕ → ℕ → List ℕ → List ℕ
down_text x y words =
    codes "<text class=\"m\" transform=\"translate(" ++ (decimal x ++ (codes " " ++ (decimal y ++ (codes ")rotate(90)\">" ++ (words ++ codes "</text>\n")))))

-- a line of the grid at the begin of a call, from a height down to another
unfoldable pub grid_text : ℕ → ℕ → ℕ → ℕ → List ℕ
grid_text top y calls call = rect (codes "line") (x_of call calls) top 1 (y - top)

-- the middle of the column of a call, for words downwards
abbrev pub column_middle : ℕ → ℕ → ℕ
column_middle calls call = x_of call calls + (1024 / max 1 calls / 2 - 3)

-- a call with its line
unfoldable pub call_line_text : ℕ → ℕ → ℕ → ℕ → List ℕ → List ℕ
call_line_text top y calls call line = grid_text top y calls call ++ down_text (column_middle calls call) (y + 6) (short_words line)

-- the calls from one on, with their lines
abbrev pub call_lines_text : ℕ → ℕ → ℕ → ℕ → List (List ℕ) → List ℕ
call_lines_text top y calls call [] = []
call_lines_text top y calls call (line ∷ lines) = call_line_text top y calls call line ++ call_lines_text top y calls (call + 1) lines

-- the letters of the longest line, and 28 at most
abbrev pub most_letters : List (List ℕ) → ℕ
most_letters [] = 0
most_letters (line ∷ lines) = max (min 28 (length line)) (most_letters lines)

-- the letters of the longest word of a line, after some letters of its first word
abbrev pub longest_from : ℕ → List ℕ → ℕ
longest_from letters [] = letters
longest_from letters (letter ∷ line) = if nat_eq letter 32 then max letters (longest_from 0 line) else longest_from (letters + 1) line

-- those of the longest word of all lines
abbrev pub longest_word : List (List ℕ) → ℕ
longest_word [] = 0
longest_word (line ∷ lines) = max (longest_from 0 line) (longest_word lines)

-- the words of a line, which are between spaces
abbrev pub words_number : List ℕ → ℕ
words_number [] = 1
words_number (letter ∷ line) = if nat_eq letter 32 then 1 + words_number line else words_number line

-- those of the line that has most
abbrev pub most_words : List (List ℕ) → ℕ
most_words [] = 0
most_words (line ∷ lines) = max (words_number line) (most_words lines)

-- whether the lines stand upright, the words of each below one another: there are at most 32, each with at most eight words, and
-- each has room beside the next, with 8 pixels for a letter
abbrev pub are_upright : ℕ → List (List ℕ) → Bool
are_upright calls lines = nat_le calls 32 && (nat_le (most_words lines) 8 && nat_le (calls * (8 * longest_word lines + 6)) 1024)

-- the first word of a line is darker than those below it
abbrev pub word_class : ℕ → List ℕ
word_class place = if nat_eq place 0 then codes "m" else codes "m faint"

-- a word of a line; `place` is how many words stand above it
unfoldable pub word_text : ℕ → ℕ → ℕ → List ℕ → List ℕ
word_text x y place word = text_at (word_class place) (x + 4) (y + 13 + 14 * place) word

-- the words of a line, of the first of which there are letters already
abbrev pub words_text : ℕ → ℕ → ℕ → List ℕ → List ℕ → List ℕ
words_text x y place word [] = word_text x y place word
words_text x y place word (letter ∷ line) =
    if nat_eq letter 32 then word_text x y place word ++ words_text x y (place + 1) [] line else words_text x y place (word ++ plain letter ∷ []) line

-- a call with its line upright
unfoldable pub upright_text : ℕ → ℕ → ℕ → ℕ → List ℕ → List ℕ
upright_text top y calls call line = grid_text top y calls call ++ words_text (x_of call calls) y 0 [] line

-- the calls from one on, with their lines upright
abbrev pub uprights_text : ℕ → ℕ → ℕ → ℕ → List (List ℕ) → List ℕ
uprights_text top y calls call [] = []
uprights_text top y calls call (line ∷ lines) = upright_text top y calls call line ++ uprights_text top y calls (call + 1) lines

-- The least step of which ten reach all calls, of 1, 2 and 5 times a power of ten, from one power on and up to a number of times.
abbrev pub step_from : ℕ → ℕ → ℕ → ℕ
step_from zero power calls = power
step_from (suc times) power calls =
    if nat_le calls (10 * power) then power
    else if nat_le calls (20 * power) then 2 * power
    else if nat_le calls (50 * power) then 5 * power
    else step_from times (10 * power) calls

-- The calls from one tick to the next: the least of 1, 2 and 5 times a power of ten with which there are ten steps at most.
unfoldable pub calls_per_tick : ℕ → ℕ
calls_per_tick calls = step_from 20 1 calls

-- a tick at a call
unfoldable pub call_tick_text : ℕ → ℕ → ℕ → ℕ → List ℕ
call_tick_text top y calls call = grid_text top y calls call ++ text_at (codes "m c faint") (x_of call calls) (y + 14) (commas call)

-- the ticks up to a number
abbrev pub call_ticks_text : ℕ → ℕ → ℕ → ℕ → ℕ → List ℕ
call_ticks_text top y calls step zero = []
call_ticks_text top y calls step (suc ticks) = call_ticks_text top y calls step ticks ++ call_tick_text top y calls (step * ticks)

-- the numbers of calls
unfoldable pub numbers_text : ℕ → ℕ → ℕ → List ℕ
numbers_text top y calls = text_at (codes "q") 24 (y + 14) (codes "calls") ++ call_ticks_text top y calls (calls_per_tick calls) (calls / calls_per_tick calls + 1)

-- the axis, from the top of the grid on, its words below a height
unfoldable pub calls_text : ℕ → ℕ → ℕ → List (List ℕ) → List ℕ
calls_text top y calls lines =
    if nat_eq (length lines) 0 then numbers_text top y calls
    else if are_upright calls lines then uprights_text top y calls 0 lines
    else call_lines_text top y calls 0 lines

-- its height below that
abbrev pub calls_height : ℕ → List (List ℕ) → ℕ
calls_height calls lines =
    if nat_eq (length lines) 0 then 18
    else if are_upright calls lines then 14 * most_words lines + 4
    else 8 * most_letters lines + 10

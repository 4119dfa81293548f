-- The drawing of page tables: a row for each line, and below them the frames of the memory by their use.
use Rattle.std.specs.Prelude.{ℕ, zero, suc, ◌+◌, ◌-◌, ◌*◌, ◌/◌, ◌%◌, min, nat_eq, nat_lt, nat_le, List, [], ◌∷◌, ◌++◌, length, take, drop, codes, if◌then◌else◌}
use Rattle.std.specs.List.{list_any, sum_by}
use Rattle.heap_map.specs.Words.{commas, quantity}
use Rattle.heap_map.specs.Shapes.{text_at, rect, titled}
use Rattle.heap_tables.specs.declared.lines.Line.{Line}
use Rattle.heap_tables.specs.declared.uses.Use.{Use}
use Rattle.heap_tables.specs.declared.uses.Use.TheVariants.{Table, Large, HeapPage, UserPage, Free}
use Rattle.heap_tables.specs.Rows.{line_pages, table_row_text}
use Rattle.heap_tables.specs.Uses.{uses_of, same_use, use_count}

-- rows, one below the other
abbrev pub table_rows_text : ℕ → List Line → List ℕ
table_rows_text y [] = []
table_rows_text y (line ∷ lines) = table_row_text y line ++ table_rows_text (y + 22) lines

-- how many of the lines have room: 200, or 199 and how many more there are
abbrev pub rows_shown : ℕ → ℕ
rows_shown lines = if nat_le lines 200 then lines else 199

-- how many rows there are
abbrev pub rows_number : ℕ → ℕ
rows_number lines = min lines 200

-- how many lines there are more, at least two, and their pages
unfoldable pub more_words : ℕ → ℕ → List ℕ
more_words lines pages = codes "and " ++ (commas lines ++ (codes " lines more, of " ++ quantity (codes "page") pages))

unfoldable pub more_text : ℕ → List Line → List ℕ
more_text y lines = if nat_eq (length lines) 0 then [] else text_at (codes "faint") 24 (y + 15) (more_words (length lines) (sum_by line_pages lines))

-- the lines that have room, and the others counted
unfoldable pub list_text : List Line → List ℕ
list_text lines =
    table_rows_text 96 (take (rows_shown (length lines)) lines)
    ++ more_text (96 + 22 * rows_shown (length lines)) (drop (rows_shown (length lines)) lines)

-- what stands above the lines, and above their entries
unfoldable pub lines_heading : List ℕ
lines_heading = codes "tables, and what their entries map"

unfoldable pub entries_heading : List ℕ
entries_heading = codes "the entries, of the 512 of their table"

unfoldable pub title_words : List ℕ
title_words = codes "The page tables after a run"

-- what the columns are
unfoldable pub columns_heading : List ℕ
columns_heading =
    text_at (codes "q") 24 76 lines_heading
    ++ (text_at (codes "q") 362 76 (codes "owner")
    ++ (text_at (codes "q") 416 76 (codes "rights")
    ++ (text_at (codes "q") 466 76 (codes "frames") ++ text_at (codes "q") 768 76 entries_heading)))

-- what stands above the rows
unfoldable pub heading_text : List ℕ
heading_text = text_at (codes "h") 24 40 title_words ++ columns_heading

-- the colour of a use, as the class of a rectangle
abbrev pub use_class : Use → List ℕ
use_class Table = codes "o"
use_class Large = codes "l"
use_class HeapPage = codes "u"
use_class UserPage = codes "w"
use_class Free = codes "line"

-- what frames of a use are called, and what one frame is
abbrev pub use_words : Use → List ℕ
use_words Table = codes "tables"
use_words Large = codes "in large pages"
use_words HeapPage = codes "pages of the heap"
use_words UserPage = codes "pages of the user"
use_words Free = codes "free"

abbrev pub one_words : Use → List ℕ
one_words Table = codes "table"
one_words Large = codes "in a large page"
one_words HeapPage = codes "page of the heap"
one_words UserPage = codes "page of the user"
one_words Free = codes "free"

-- this many frames of a use
unfoldable pub count_words : Use → ℕ → List ℕ
count_words kind number = commas number ++ (codes " " ++ (if nat_eq number 1 then one_words kind else use_words kind))

-- a use in the legend, at a place, with its frames
unfoldable pub count_text : ℕ → ℕ → Use → List Use → List ℕ
count_text x y kind uses = rect (use_class kind) x (y - 10) 12 12 ++ text_at (codes "p") (x + 18) y (count_words kind (use_count kind uses))

unfoldable pub frames_legend_text : ℕ → List Use → List ℕ
frames_legend_text y uses =
    text_at (codes "q") 24 y (codes "Frames")
    ++ (count_text 104 y Table uses
    ++ (count_text 272 y HeapPage uses ++ (count_text 506 y UserPage uses ++ (count_text 740 y Large uses ++ count_text 952 y Free uses))))

-- the first of these uses that some frames have: a table, a large page, a page of the user, one of the heap, and else none
abbrev pub main_use : List Use → Use
main_use uses =
    if list_any (same_use Table) uses then Table
    else if list_any (same_use Large) uses then Large
    else if list_any (same_use UserPage) uses then UserPage
    else if list_any (same_use HeapPage) uses then HeapPage else Free

-- the frames of a square, doubled this many times, while there are more than 1,024 squares of them
abbrev pub square_grown : ℕ → ℕ → ℕ → ℕ
square_grown zero of frames = of
square_grown (suc times) of frames = square_grown times (if nat_lt (1024 * of) frames then 2 * of else of) frames

-- how many frames a square stands for: the least power of two with which there are at most 1,024 squares
unfoldable pub square_frames : ℕ → ℕ
square_frames frames = square_grown 22 1 frames

-- what is said of a square: of its one frame, or of the frames from one to another
unfoldable pub square_title : ℕ → ℕ → Use → List ℕ
square_title first last kind =
    if nat_eq first last then codes "frame " ++ (commas first ++ (codes ": " ++ one_words kind))
    else codes "frames " ++ (commas first ++ (codes " to " ++ (commas last ++ (codes ": " ++ use_words kind))))

-- a square by its number: the first has the first frames, this many of them, and the last one what is left
unfoldable pub square_text : ℕ → ℕ → ℕ → List Use → List ℕ
square_text y of number uses =
    titled (use_class (main_use (take of (drop (of * number) uses)))) (24 + 9 * (number % 128)) (y + 9 * (number / 128)) 8 8
    (square_title (of * number) (min (of * number + of) (length uses) - 1) (main_use (take of (drop (of * number) uses))))

-- the first squares, this many of them
abbrev pub squares_text : ℕ → ℕ → List Use → ℕ → List ℕ
squares_text y of uses zero = []
squares_text y of uses (suc squares) = squares_text y of uses squares ++ square_text y of squares uses

-- how many squares there are
abbrev pub squares_number : ℕ → ℕ → ℕ
squares_number of frames = (frames + (of - 1)) / of

-- how many frames a square is
unfoldable pub scale_words : ℕ → List ℕ
scale_words of = codes "frames in each square: " ++ commas of

-- the frames, from a base line on
unfoldable pub frames_text : ℕ → List Use → List ℕ
frames_text y uses =
    frames_legend_text y uses
    ++ (text_at (codes "e faint") 1280 y (scale_words (square_frames (length uses)))
    ++ squares_text (y + 12) (square_frames (length uses)) uses (squares_number (square_frames (length uses)) (length uses)))

-- the base line of the frames, below the rows
abbrev pub below_rows : ℕ → ℕ
below_rows lines = 96 + 22 * rows_number lines + 36

-- the height of the drawing, by the number of its lines: there are at most eight rows of squares
abbrev pub tables_height : ℕ → ℕ
tables_height lines = below_rows lines + 12 + 72 + 16

-- the drawing of page tables that have these lines, in a memory with this many frames
unfoldable pub tables_text : List Line → ℕ → List ℕ
tables_text lines frames = heading_text ++ (list_text lines ++ frames_text (below_rows (length lines)) (uses_of lines frames))

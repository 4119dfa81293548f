-- The regions of the heap and the user, a line each, beside what the heap consists of.
use Rattle.std.specs.Prelude.{ℕ, ◌+◌, ◌*◌, ◌/◌, min, max, nat_eq, nat_le, List, [], ◌∷◌, ◌++◌, length, take, drop, codes, if◌then◌else◌}
use Rattle.machine_model.specs.declared.region.Region.{Region}
use Rattle.machine_model.specs.State.{State, total_pages}
use Rattle.machine_model.specs.Place.{all_regions}
use Rattle.machine_model.specs.Tables.{free_frames}
use Rattle.heap_program.specs.Text.{pages_text, owner_text}
use Rattle.heap_map.specs.Words.{hexadecimal, commas, quantity}
use Rattle.heap_map.specs.Shapes.{text_at, rect, titled}
use Rattle.heap_picture.specs.Large.{larges_in}
use Rattle.heap_picture.specs.Lines.{region_lines, most_pages}

-- the address of a line, its pages, and whose they are
unfoldable pub region_line_words : ℕ → Region → List ℕ
region_line_words y line =
    text_at (codes "m") 912 y (hexadecimal line.start)
    ++ (text_at (codes "m e") 1120 y (quantity (codes "page") line.pages) ++ text_at (codes "m e faint") 1280 y (owner_text line))

-- the pixels of `pages` pages, if a line has at most `most`: 3 at least, and 368 at most
abbrev pub bar_width : ℕ → ℕ → ℕ
bar_width pages most = min 368 (max 3 (368 * pages / max 1 most))

-- the colour of a line: blocks and heap regions have one
abbrev pub region_line_class : Region → List ℕ
region_line_class line = if line.heap then codes "u" else codes "w"

-- what is said of a line
unfoldable pub region_line_title : Region → List ℕ
region_line_title line = pages_text line ++ (codes " " ++ owner_text line)

-- the bar of a line, below its words
unfoldable pub pages_bar_text : ℕ → ℕ → Region → List ℕ
pages_bar_text y most line = rect (codes "line") 912 (y + 5) 368 4 ++ titled (region_line_class line) 912 (y + 5) (bar_width line.pages most) 4 (region_line_title line)

-- a number of large pages
unfoldable pub larges_words : ℕ → List ℕ
larges_words larges = commas larges ++ codes " large"

-- how many large pages a line has, and their part of its bar, if there are any
unfoldable pub larges_text : ℕ → ℕ → ℕ → ℕ → List ℕ
larges_text y most pages larges =
    if nat_eq larges 0 then []
    else text_at (codes "m e faint") 1206 y (larges_words larges)
    ++ titled (codes "l") 912 (y + 5) (bar_width (min pages (512 * larges)) most) 4 (larges_words larges)

-- a line at a height
unfoldable pub region_line_text : List ℕ → ℕ → ℕ → Region → List ℕ
region_line_text large most y line = region_line_words y line ++ (pages_bar_text y most line ++ larges_text y most line.pages (larges_in large line))

-- lines, one below the other
abbrev pub region_lines_text : List ℕ → ℕ → ℕ → List Region → List ℕ
region_lines_text large most y [] = []
region_lines_text large most y (line ∷ lines) = region_line_text large most y line ++ region_lines_text large most (y + 25) lines

-- how many of the lines have room: 7, or 6 and how many more there are
abbrev pub lines_shown : ℕ → ℕ
lines_shown lines = if nat_le lines 7 then lines else 6

-- how many lines there are more, and their pages
unfoldable pub more_regions_words : ℕ → ℕ → List ℕ
more_regions_words lines pages = codes "and " ++ (commas lines ++ (codes " more, of " ++ quantity (codes "page") pages))

unfoldable pub more_regions_text : ℕ → List Region → List ℕ
more_regions_text y lines = if nat_eq (length lines) 0 then [] else text_at (codes "faint") 912 y (more_regions_words (length lines) (total_pages lines))

-- the lines that have room, and the others counted
unfoldable pub regions_list_text : List ℕ → ℕ → List Region → List ℕ
regions_list_text large y lines =
    region_lines_text large (most_pages lines) y (take (lines_shown (length lines)) lines)
    ++ more_regions_text (y + 150) (drop (lines_shown (length lines)) lines)

-- the frames that are free
unfoldable pub free_front : List ℕ
free_front = codes "free frames: "

unfoldable pub free_words : ℕ → List ℕ
free_words frames = free_front ++ commas frames

-- and the tables
unfoldable pub free_frames_words : ℕ → ℕ → List ℕ
free_frames_words frames tables = free_words frames ++ (codes ", tables: " ++ commas tables)

-- the heading
unfoldable pub regions_heading : ℕ → ℕ → ℕ → List ℕ
regions_heading y frames tables = text_at (codes "q") 912 y (codes "Regions") ++ text_at (codes "e faint") 1280 y (free_frames_words frames tables)

-- the regions of a state, from a base line on
unfoldable pub regions_text : ℕ → State → List ℕ
regions_text y s = regions_heading y (free_frames s) (1 + length s.tables) ++ regions_list_text s.large (y + 26) (region_lines (all_regions s))

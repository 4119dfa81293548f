-- A line of page tables as a row of a drawing.
use Rattle.std.specs.Prelude.{ℕ, zero, suc, ◌+◌, ◌-◌, ◌*◌, ◌/◌, max, Bool, nat_eq, List, [], ◌++◌, codes, if◌then◌else◌}
use Rattle.paging_core.specs.declared.page_table.PageBits.{PageBits}
use Rattle.paging_core.specs.declared.page_table.Rights.{Rights}
use Rattle.call_lines.specs.Written.{rights_word}
use Rattle.heap_map.specs.Words.{hexadecimal, commas, quantity}
use Rattle.heap_map.specs.Shapes.{text_at, rect, titled}
use Rattle.heap_tables.specs.declared.lines.Line.{Line}
use Rattle.heap_tables.specs.declared.owners.Owner.{Owner}
use Rattle.heap_tables.specs.declared.owners.Owner.TheVariants.{Heap, User}
use Rattle.heap_tables.specs.Owners.{address_of}

-- the rights among the bits of a page, which is what a row says of them
abbrev pub rights_in : PageBits → Rights
rights_in bits = record { write = bits.write; user = bits.user; fetch = bits.fetch }

-- how many pages a line maps
abbrev pub line_pages : Line → ℕ
line_pages line = line.end - line.page

-- whether it is that of a table
abbrev pub is_table : Line → Bool
is_table line = nat_eq (line_pages line) 0

-- whether it is that of large pages
abbrev pub has_large_pages : Line → Bool
has_large_pages line = nat_eq line.steps 3

-- how many entries lead there
abbrev pub entries_of : Line → ℕ
entries_of line = if is_table line then 1 else if has_large_pages line then line_pages line / 512 else line_pages line

-- how many frames it has
abbrev pub frames_of : Line → ℕ
frames_of line = max 1 (line_pages line)

-- whose the pages are, as a word and as the class of a rectangle
abbrev pub owner_words : Owner → List ℕ
owner_words Heap = codes "heap"
owner_words User = codes "user"

abbrev pub owner_class : Owner → List ℕ
owner_class Heap = codes "u"
owner_class User = codes "w"

-- its colour, as the class of a rectangle: that of a table, or of the owner of the pages
abbrev pub line_class : Line → List ℕ
line_class line = if is_table line then codes "o" else owner_class line.owner

-- how many large pages, or pages
unfoldable pub pages_words : Line → List ℕ
pages_words line = quantity (if has_large_pages line then codes "large page" else codes "page") (entries_of line)

-- what a line is: a table, by the first address below it, or an address and the pages from there on
unfoldable pub line_words : Line → List ℕ
line_words line =
    if is_table line then (if nat_eq line.steps 0 then codes "root table" else codes "table from " ++ hexadecimal (address_of line.page))
    else hexadecimal (address_of line.page) ++ (codes " + " ++ pages_words line)

-- the frames, from the first to the last
unfoldable pub frames_range : Line → List ℕ
frames_range line =
    if nat_eq (frames_of line) 1 then commas line.frame
    else commas line.frame ++ (codes " to " ++ commas (line.frame + frames_of line - 1))

-- the same with a word for them
unfoldable pub frames_words : Line → List ℕ
frames_words line =
    if nat_eq (frames_of line) 1 then codes "frame " ++ frames_range line else codes "frames " ++ frames_range line

-- the entries of its table
unfoldable pub entries_words : Line → List ℕ
entries_words line =
    if nat_eq (entries_of line) 1 then codes "entry " ++ commas line.index
    else codes "entries " ++ (commas line.index ++ (codes " to " ++ commas (line.index + entries_of line - 1)))

-- whose the pages are; of a table nothing is said
unfoldable pub whose_words : Line → List ℕ
whose_words line = if is_table line then [] else owner_words line.owner ++ codes " "

-- what is said of a line
unfoldable pub line_title : Line → List ℕ
line_title line = line_words line ++ (codes ", " ++ (whose_words line ++ (rights_word (rights_in line.rights) ++ (codes ", " ++ frames_words line))))

-- a mark of a line in its colour, with a title; the lower half has that of large pages, if it is a line of these
unfoldable pub line_mark_text : ℕ → ℕ → ℕ → ℕ → Line → List ℕ → List ℕ
line_mark_text x y width height line title =
    titled (line_class line) x y width height title
    ++ (if is_table line then [] else if has_large_pages line then titled (codes "l") x (y + height / 2) width (height / 2) title else [])

-- a thin line below each table on the way
abbrev pub guides_text : ℕ → ℕ → List ℕ
guides_text y zero = []
guides_text y (suc steps) = guides_text y steps ++ rect (codes "line") (30 + 24 * steps) y 1 22

-- where a line stands, by how many tables are on the way to it
abbrev pub line_left : Line → ℕ
line_left line = 24 + 24 * line.steps

-- whose the pages are, in a row
unfoldable pub owner_in_row : ℕ → Line → List ℕ
owner_in_row y line = if is_table line then [] else text_at (codes "m") 362 (y + 15) (owner_words line.owner)

-- what is said in a row, a column each
unfoldable pub said_text : ℕ → Line → List ℕ
said_text y line =
    text_at (codes "m") (line_left line + 20) (y + 15) (line_words line)
    ++ (owner_in_row y line
    ++ (text_at (codes "m faint") 416 (y + 15) (rights_word (rights_in line.rights)) ++ text_at (codes "m faint") 466 (y + 15) (frames_range line)))

-- what stands in a row
unfoldable pub row_words_text : ℕ → Line → List ℕ
row_words_text y line = line_mark_text (line_left line) (y + 4) 12 14 line (line_title line) ++ said_text y line

-- which entries of their table they are; a table has 512, each a pixel wide
unfoldable pub strip_text : ℕ → Line → List ℕ
strip_text y line =
    if nat_eq line.steps 0 then []
    else text_at (codes "m e faint") 756 (y + 15) (entries_words line)
    ++ (rect (codes "line") 768 (y + 8) 512 6 ++ line_mark_text (768 + line.index) (y + 5) (entries_of line) 12 line (entries_words line))

-- a row at a height
unfoldable pub table_row_text : ℕ → Line → List ℕ
table_row_text y line = guides_text y line.steps ++ (row_words_text y line ++ strip_text y line)

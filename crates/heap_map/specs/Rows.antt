-- The lines of a map, one below the other.
use Rattle.std.specs.Prelude.{ℕ, ◌+◌, ◌-◌, ◌*◌, ◌/◌, ◌%◌, ◌^◌, min, nat_eq, nat_le, List, [], ◌∷◌, ◌++◌, codes, Option, if◌then◌else◌}
use Rattle.dlmalloc_chunks.specs.declared.extent.Extent.{Extent}
use Rattle.dlmalloc_chunks.specs.declared.extent.Kind.{Kind}
use Rattle.dlmalloc_chunks.specs.declared.extent.Kind.TheVariants.{Used, Free, Victim, Top, Record, Foot}
use Rattle.heap_map.specs.declared.blocks.NamedBlock.{NamedBlock}
use Rattle.heap_map.specs.declared.classes.Class.TheVariants.{Block}
use Rattle.heap_map.specs.declared.pieces.Piece.{Piece}
use Rattle.heap_map.specs.Words.{hexadecimal, commas, percent}
use Rattle.heap_map.specs.Shapes.{text_at, titled}
use Rattle.heap_map.specs.Pieces.{line_start, map_lines}
use Rattle.heap_map.specs.Blocks.{block_in}
use Rattle.heap_map.specs.Cells.{held_in, row_cells_text}
use Rattle.heap_map.specs.Labels.{label_text}
use Rattle.heap_map.specs.Marks.{extent_title, marks_text, row_title}

-- the colour of an extent, as the class of a rectangle
abbrev pub colour : Kind → List ℕ
colour Used = codes "u"
colour Free = codes "f"
colour Victim = codes "v"
colour Top = codes "t"
colour Record = codes "o"
colour Foot = codes "o"

-- this many rows
unfoldable pub rows_words : ℕ → List ℕ
rows_words rows = commas rows ++ (if nat_eq rows 1 then codes " row" else codes " rows")

-- rows that lie wholly in one extent: a thin line, with their number
unfoldable pub whole_text : (ℕ → Option NamedBlock) → ℕ → ℕ → ℕ → Piece → List ℕ
whole_text blocks row base y piece =
    text_at (codes "m e faint") 134 (y + 13) (hexadecimal base)
    ++ (titled (colour piece.of.kind) 144 (y + 2) 1024 14 (extent_title (block_in blocks piece.of) piece.of)
    ++ ((if nat_eq piece.start piece.of.at then label_text 149 (y + 13) 1024 (block_in blocks piece.of) piece.of else [])
    ++ text_at (codes "m e faint") 1280 (y + 13) (rows_words ((piece.end - piece.start) / row))))

-- the address at which the row of a line begins; addresses are below 2 ^ 64
abbrev pub row_base : ℕ → List Piece → ℕ
row_base row line = min (line_start line) (2 ^ 64 - 1) - min (line_start line) (2 ^ 64 - 1) % row

-- the bytes of a row that are in blocks, in percent
unfoldable pub used_words : ℕ → ℕ → List Piece → List ℕ
used_words row base line = percent (min (held_in Block base (base + row) line) row) row

-- what stands beside a row, and what is said of it
unfoldable pub row_beside_text : ℕ → ℕ → ℕ → List Piece → List ℕ
row_beside_text row base y line =
    text_at (codes "m e faint") 134 (y + 13) (hexadecimal base)
    ++ (text_at (codes "m e faint") 1280 (y + 13) (used_words row base line) ++ titled (codes "none") 144 y 1024 18 (row_title row base line))

-- a row of several extents, or of a part of one
unfoldable pub row_text : (ℕ → Option NamedBlock) → ℕ → ℕ → ℕ → List Piece → List ℕ
row_text blocks row base y line = row_cells_text (row / 512) base y line ++ (row_beside_text row base y line ++ marks_text blocks row base y line)

-- the first piece of a line
abbrev pub first_piece : List Piece → Piece
first_piece [] = record { start = 0; end = 0; of = record { at = 0; size = 0; kind = Used } }
first_piece (piece ∷ pieces) = piece

-- a line at a height: one piece of whole rows, or a row
abbrev pub map_line_text : (ℕ → Option NamedBlock) → ℕ → ℕ → List Piece → List ℕ
map_line_text blocks row y line =
    if nat_le row ((first_piece line).end - (first_piece line).start) then whole_text blocks row (row_base row line) y (first_piece line)
    else row_text blocks row (row_base row line) y line

-- the lines, below this many others
abbrev pub lines_text : (ℕ → Option NamedBlock) → ℕ → ℕ → List (List Piece) → List ℕ
lines_text blocks row above [] = []
lines_text blocks row above (line ∷ lines) = map_line_text blocks row (166 + 23 * above) line ++ lines_text blocks row (above + 1) lines

-- all lines of a map, with the live blocks that are at addresses
unfoldable pub rows_text : (ℕ → Option NamedBlock) → ℕ → List Extent → List ℕ
rows_text blocks row extents = lines_text blocks row 0 (map_lines row extents)

-- What is said of the extents of a row: of each that has four cells or more to itself, and of all together.
use Rattle.std.specs.Prelude.{ℕ, ◌+◌, ◌-◌, ◌*◌, ◌/◌, ◌%◌, min, nat_eq, nat_lt, nat_le, List, [], ◌++◌, length, codes, decimal, Option, Some, None, if◌then◌else◌}
use Rattle.std.specs.List.{flat_map}
use Rattle.dlmalloc_chunks.specs.declared.extent.Extent.{Extent}
use Rattle.heap_map.specs.declared.blocks.NamedBlock.{NamedBlock}
use Rattle.heap_map.specs.declared.pieces.Piece.{Piece}
use Rattle.heap_map.specs.declared.classes.Class.TheVariants.{Block}
use Rattle.heap_map.specs.Words.{hexadecimal, commas, quantity}
use Rattle.heap_map.specs.Blocks.{block_in}
use Rattle.heap_map.specs.Classes.{kind_words}
use Rattle.heap_map.specs.Labels.{label_text}
use Rattle.heap_map.specs.Shapes.{rect, titled}
use Rattle.heap_map.specs.Cells.{held_in}

-- a block's number, and the bytes that were asked for
unfoldable pub asked_words : NamedBlock → List ℕ
asked_words block = codes "block " ++ (decimal block.number ++ (codes ", " ++ commas block.size))

-- what an extent holds: a live block, or what its kind says
abbrev pub held_words : Option NamedBlock → Extent → List ℕ
held_words (Some block) extent = asked_words block
held_words None extent = kind_words extent.kind

-- its address, what it holds, and its bytes
unfoldable pub extent_title : Option NamedBlock → Extent → List ℕ
extent_title block extent = hexadecimal extent.at ++ (codes ": " ++ (held_words block extent ++ (codes " of " ++ (commas extent.size ++ codes " bytes"))))

-- where an address is in a row
abbrev pub offset : ℕ → ℕ → ℕ → ℕ
offset row base address = min row (address - base)

-- the first cell that begins there or later
abbrev pub first_cell : ℕ → ℕ → ℕ
first_cell cell offset = (offset + (cell - 1)) / cell

-- A mark over the cells from one to another: a gap at its front, where the extent does not begin with the row; a title; and a label,
-- where the extent begins.
unfoldable pub mark_text : (ℕ → Option NamedBlock) → ℕ → ℕ → ℕ → ℕ → Piece → List ℕ
mark_text blocks base y first last piece =
    (if nat_lt base piece.start then rect (codes "paper") (144 + 2 * first) y 1 18 else [])
    ++ (titled (codes "none") (144 + 2 * first) y (2 * (last - first)) 18 (extent_title (block_in blocks piece.of) piece.of)
    ++ (if nat_eq piece.start piece.of.at then label_text (144 + 2 * first + 5) (y + 13) (2 * (last - first)) (block_in blocks piece.of) piece.of else []))

-- a piece, if it has four cells or more to itself
unfoldable pub piece_text : (ℕ → Option NamedBlock) → ℕ → ℕ → ℕ → Piece → List ℕ
piece_text blocks row base y piece =
    let first = first_cell (row / 512) (offset row base piece.start) in
    let last = offset row base piece.end / (row / 512) in
    if nat_le (first + 4) last then mark_text blocks base y first last piece else []

-- the pieces of a row, one after another
unfoldable pub marks_text : (ℕ → Option NamedBlock) → ℕ → ℕ → ℕ → List Piece → List ℕ
marks_text blocks row base y line = flat_map (piece_text blocks row base y) line

-- how many extents have bytes in a row, and how many bytes of it are in blocks
unfoldable pub counts_text : ℕ → ℕ → ℕ → List ℕ
counts_text number used row = quantity (codes "extent") number ++ (codes ", " ++ (commas used ++ (codes " of " ++ (commas row ++ codes " bytes in blocks"))))

-- the address of a row, and what it has
unfoldable pub row_title : ℕ → ℕ → List Piece → List ℕ
row_title row base line = hexadecimal base ++ (codes ": " ++ counts_text (length line) (held_in Block base (base + row) line) row)

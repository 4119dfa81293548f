-- The map of a heap: its figures, its rows, what it consists of, and its free chunks by size.
use Rattle.std.specs.Prelude.{ℕ, ◌+◌, ◌*◌, ◌/◌, List, ◌++◌, length, codes, Option}
use Rattle.dlmalloc_chunks.specs.declared.extent.Extent.{Extent}
use Rattle.heap_map.specs.declared.blocks.NamedBlock.{NamedBlock}
use Rattle.heap_map.specs.Words.{exactly}
use Rattle.heap_map.specs.Shapes.{text_at, rect}
use Rattle.heap_map.specs.Pieces.{row_bytes, map_lines}
use Rattle.heap_map.specs.Tiles.{tiles_text}
use Rattle.heap_map.specs.Rows.{rows_text}
use Rattle.heap_map.specs.Composition.{composition_text}
use Rattle.heap_map.specs.Histogram.{histogram_text}

-- what the rows and the thin lines are
unfoldable pub thin_words : List ℕ
thin_words = codes " of addresses in each row. Thin lines are rows that lie wholly in one extent."

-- the bytes of a row
unfoldable pub row_words : ℕ → List ℕ
row_words row = exactly row ++ thin_words

-- where a quarter of a row begins
unfoldable pub quarter_words : ℕ → List ℕ
quarter_words bytes = codes "+" ++ exactly bytes

unfoldable pub quarter_text : ℕ → List ℕ → List ℕ
quarter_text x words = rect (codes "line") x 154 1 6 ++ text_at (codes "m faint") (x + 5) 158 words

-- the quarters of a row
unfoldable pub quarters_text : ℕ → List ℕ
quarters_text row =
    quarter_text 144 (codes "+0")
    ++ (quarter_text 400 (quarter_words (row / 4)) ++ (quarter_text 656 (quarter_words (row / 4 * 2)) ++ quarter_text 912 (quarter_words (row / 4 * 3))))

-- where the bytes of a row are
unfoldable pub ruler_text : ℕ → List ℕ
ruler_text row = quarters_text row ++ (text_at (codes "e faint") 134 158 (codes "address") ++ text_at (codes "e faint") 1280 158 (codes "in blocks"))

-- the scale of the rows
unfoldable pub rows_scale_text : ℕ → List ℕ
rows_scale_text row = text_at (codes "faint") 24 136 (row_words row) ++ ruler_text row

-- the base line of what is below this many lines
abbrev pub below_lines : ℕ → ℕ
below_lines lines = 194 + 23 * lines

-- how many lines a map has
unfoldable pub lines_number : List Extent → ℕ
lines_number extents = length (map_lines (row_bytes extents) extents)

-- what the map is of
unfoldable pub map_words : List ℕ
map_words = codes "The heap after a run"

-- the heading, and the figures
unfoldable pub front_text : ℕ → ℕ → List Extent → List ℕ
front_text live peak extents = text_at (codes "h") 24 40 map_words ++ tiles_text live peak extents

-- the map with rows of `row` bytes, of the live blocks that are at addresses, of the bytes that are live and were at most, and of
-- all extents
unfoldable pub rows_map : (ℕ → Option NamedBlock) → ℕ → ℕ → ℕ → List Extent → List ℕ
rows_map blocks row live peak extents = front_text live peak extents ++ (rows_scale_text row ++ rows_text blocks row extents)

-- what stands below it
unfoldable pub parts_text : ℕ → ℕ → List Extent → List ℕ
parts_text y live extents = composition_text y live extents ++ histogram_text y extents

-- all of it
unfoldable pub map_text : (ℕ → Option NamedBlock) → ℕ → ℕ → List Extent → List ℕ
map_text blocks live peak extents = rows_map blocks (row_bytes extents) live peak extents ++ parts_text (below_lines (lines_number extents)) live extents

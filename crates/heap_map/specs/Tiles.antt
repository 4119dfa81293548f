-- The figures of a heap, as tiles in a row.
use Rattle.std.specs.Prelude.{ℕ, ◌+◌, ◌-◌, ◌*◌, ◌/◌, List, ◌++◌, codes}
use Rattle.dlmalloc_chunks.specs.declared.extent.Extent.{Extent}
use Rattle.run_figures.specs.Figures.{part_bytes, greatest_of}
use Rattle.run_figures.specs.declared.counting.Part.TheVariants.{Used, Free}
use Rattle.heap_map.specs.Words.{commas, quantity, percent, about}
use Rattle.heap_map.specs.Shapes.{text_at, rect}
use Rattle.heap_map.specs.Totals.{total_of, scattered}

-- a number over words, after `before` other tiles
unfoldable pub tile_text : ℕ → List ℕ → List ℕ → List ℕ
tile_text before number words =
    rect (codes "panel") (24 + 210 * before) 56 206 54
    ++ (text_at (codes "n") (36 + 210 * before) 81 number ++ text_at (codes "faint") (36 + 210 * before) 99 words)

-- the bytes that are live, and were at most
unfoldable pub live_tiles : ℕ → ℕ → List ℕ
live_tiles live peak = tile_text 0 (commas live) (codes "bytes live") ++ tile_text 1 (commas peak) (codes "bytes live at the peak")

-- the pages of a heap
unfoldable pub heap_words : ℕ → List ℕ
heap_words total = codes "heap: " ++ quantity (codes "page") (total / 4096)

-- the bytes of the heap
unfoldable pub heap_tile : ℕ → List ℕ
heap_tile total = tile_text 2 (about total) (heap_words total)

-- how many of them are in blocks
unfoldable pub used_tile : ℕ → ℕ → List ℕ
used_tile used total = tile_text 3 (percent used total) (codes "of it in blocks")

-- how far free bytes are scattered, and the greatest free chunk
unfoldable pub free_tiles : List Extent → List ℕ
free_tiles extents =
    tile_text 4 (percent (scattered extents) (part_bytes Free extents)) (codes "fragmentation")
    ++ tile_text 5 (about (greatest_of extents)) (codes "the greatest free chunk")

-- all tiles
unfoldable pub tiles_text : ℕ → ℕ → List Extent → List ℕ
tiles_text live peak extents = live_tiles live peak ++ (heap_tile (total_of extents) ++ (used_tile (part_bytes Used extents) (total_of extents) ++ free_tiles extents))

-- A heap over a run of many calls, as cells.
use Rattle.std.specs.Prelude.{ℕ, ◌+◌, nat_eq, nat_le, List, [], length, if◌then◌else◌}
use Rattle.heap_history.specs.declared.band.Band.{Band}
use Rattle.heap_history.specs.declared.history.Stay.{Stay}
use Rattle.heap_history.specs.declared.history.Held.{Held}
use Rattle.heap_cells.specs.declared.bars.Bar.{Bar}
use Rattle.heap_cells.specs.declared.spans.Span.{Span}
use Rattle.heap_cells.specs.Spans.{stay_spans, held_spans}
use Rattle.heap_cells.specs.Rows.{all_bars}
use Rattle.heap_cells.specs.Paths.{paths_text}

-- the bars of the heap's regions, in cells of this side: one shade, for each cell of which a byte or more is in a region
unfoldable pub heap_bars : ℕ → ℕ → List Band → List Span → List Bar
heap_bars side calls bands heap = all_bars (record { calls = calls; side = side }) 1 heap bands

-- the bars of the blocks, in four shades
unfoldable pub block_bars : ℕ → ℕ → List Band → List Span → List Bar
block_bars side calls bands blocks = all_bars (record { calls = calls; side = side }) 4 blocks bands

-- how many bars there are
abbrev pub bars_number : ℕ → ℕ → List Band → List Span → List Span → ℕ
bars_number side calls bands heap blocks = length (heap_bars side calls bands heap) + length (block_bars side calls bands blocks)

-- the cells of this side
abbrev pub side_text : ℕ → ℕ → List Band → List Span → List Span → List ℕ
side_text side calls bands heap blocks = paths_text side (heap_bars side calls bands heap) (block_bars side calls bands blocks)

-- cells of 4 pixels if they are few bars, and else of 8
unfoldable pub coarse_text : ℕ → List Band → List Span → List Span → List ℕ
coarse_text calls bands heap blocks =
    if nat_le (bars_number 4 calls bands heap blocks) 16000 then side_text 4 calls bands heap blocks else side_text 8 calls bands heap blocks

-- The cells of a run that has calls. Their side has the first of 2, 4 and 8 pixels with which there are 16,000 bars at most, and 8 if
-- there is none.
unfoldable pub spans_text : ℕ → List Band → List Span → List Span → List ℕ
spans_text calls bands heap blocks =
    if nat_le (bars_number 2 calls bands heap blocks) 16000 then side_text 2 calls bands heap blocks else coarse_text calls bands heap blocks

-- The heap over a run of `calls` calls: the bands, and in them the heap's regions and the stays of blocks. Without calls there is
-- nothing to draw.
unfoldable pub cells_text : ℕ → List Band → List Stay → List Held → List ℕ
cells_text calls bands stays heap = if nat_eq calls 0 then [] else spans_text calls bands (held_spans heap) (stay_spans stays)

-- The rows of cells of a band.
use Rattle.std.specs.Prelude.{◌≡◌, ◌≤◌, ◌<◌, ℕ, zero, suc, ◌+◌, ◌-◌, ◌*◌, ◌/◌, ◌^◌, min, max, List, [], ◌++◌}
use Rattle.std.specs.List.{flat_map}
use Rattle.heap_history.specs.declared.band.Band.{Band}
use Rattle.heap_cells.specs.declared.spans.Span.{Span}
use Rattle.heap_cells.specs.declared.scale.Scale.{Scale}
use Rattle.heap_cells.specs.declared.scale.Row.{Row}
use Rattle.heap_cells.specs.declared.bars.Bar.{Bar}
use Rattle.heap_cells.specs.Shades.{row_shades}
use Rattle.heap_cells.specs.Bars.{bars_of}

-- a band as it is drawn: every address is below 2 ^ 80, and no picture has 2 ^ 40 pixels
abbrev pub drawn_band : Band → Band
drawn_band band = record { low = min band.low (2 ^ 80); high = min band.high (2 ^ 80); folded = band.folded; y = min band.y (2 ^ 40); height = min band.height (2 ^ 40) }

-- a band as it may be drawn, with numbers as small
abbrev pub IsDrawn : Band → Type 0
IsDrawn band = (band.low ≤ 2 ^ 80) × (band.high ≤ 2 ^ 80) × (band.y ≤ 2 ^ 40) × (band.height ≤ 2 ^ 40)

-- the number of its rows
abbrev pub rows_of : Scale → Band → ℕ
rows_of scale band = band.height / scale.side

-- the address at which a row begins, counted upwards
abbrev pub row_start : Scale → Band → ℕ → ℕ
row_start scale band row = band.low + row * (band.high - band.low) / rows_of scale band

-- A row, counted upwards: its part of the band's addresses, at least one; and its middle, in pixels.
abbrev pub row_at : Scale → Band → ℕ → Row
row_at scale band row = record {
  low = row_start scale band row;
  high = max (row_start scale band row + 1) (row_start scale band (row + 1));
  y = band.y + band.height - scale.side * row - scale.side / 2;
}

-- the bars of a row
abbrev pub row_bars : Scale → ℕ → Row → List Span → List Bar
row_bars scale shades row spans = bars_of scale.side row.y (row_shades scale shades row spans)

-- the bars of a number of rows of a band, from one on upwards
abbrev pub rows_from : Scale → ℕ → List Span → Band → ℕ → ℕ → List Bar
rows_from scale shades spans band first zero = []
rows_from scale shades spans band first (suc number) =
    rows_from scale shades spans band first number ++ row_bars scale shades (row_at scale band (first + number)) spans

-- the bars of a band
unfoldable pub band_bars : Scale → ℕ → List Span → Band → List Bar
band_bars scale shades spans band = rows_from scale shades spans (drawn_band band) 0 (rows_of scale (drawn_band band))

-- the bars of all bands
abbrev pub all_bars : Scale → ℕ → List Span → List Band → List Bar
all_bars scale shades spans bands = flat_map (band_bars scale shades spans) bands

-- The rows of a band have its addresses, each one once: the first begins with the band, each begins at the end of the one below it, and
-- the last ends with the band.
pub record AreRows (scale : Scale) (band : Band) : Type 0 where
  pub first : (row_at scale band 0).low ≡ band.low
  pub next : (row : ℕ) → (row_at scale band row).high ≡ (row_at scale band (row + 1)).low
  pub last : (row_at scale band (rows_of scale band - 1)).high ≡ band.high

-- the rows of a band follow each other from its first address to its end, for all scales and bands
abbrev pub RowsAreTheBand : Type 0
RowsAreTheBand = (scale : Scale) (band : Band) → 0 < rows_of scale band → rows_of scale band ≤ band.high - band.low → AreRows scale band

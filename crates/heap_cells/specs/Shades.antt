-- The shades of a row of cells.
use Rattle.std.specs.Prelude.{◌≤◌, ◌<◌, ℕ, zero, suc, ◌+◌, ◌-◌, ◌*◌, ◌/◌, min, List, [], ◌∷◌, ◌++◌}
use Rattle.heap_cells.specs.declared.spans.Span.{Span}
use Rattle.heap_cells.specs.declared.scale.Scale.{Scale}
use Rattle.heap_cells.specs.declared.scale.Row.{Row}
use Rattle.heap_cells.specs.Spans.{used_in}

-- a scale in which cells can be drawn: of some calls, in cells of 2 to 8 pixels
abbrev pub IsCellScale : Scale → Type 0
IsCellScale scale = (0 < scale.calls) × (2 ≤ scale.side) × (scale.side ≤ 8)

-- the columns of all cells: they are 1024 pixels wide together
abbrev pub cell_columns : Scale → ℕ
cell_columns scale = 1024 / scale.side

-- The calls after which a column shows the heap: that is the state after the last call of those that lie in it or left of it, and no mean.
abbrev pub calls_at : Scale → ℕ → ℕ
calls_at scale column = (column + 1) * scale.calls / cell_columns scale

-- The shade of a cell of which `used` bytes are used: their part of the cell, in `shades` steps, rounded up.
abbrev pub shade_of : ℕ → ℕ → ℕ → ℕ
shade_of shades used bytes = (shades * min used bytes + (bytes - 1)) / bytes

-- the shade of a row's cell in a column
abbrev pub cell_shade : Scale → ℕ → Row → List Span → ℕ → ℕ
cell_shade scale shades row spans column = shade_of shades (used_in row.low row.high (calls_at scale column) spans) (row.high - row.low)

-- the shades of the first cells of a row
abbrev pub first_shades : Scale → ℕ → Row → List Span → ℕ → List ℕ
first_shades scale shades row spans zero = []
first_shades scale shades row spans (suc column) = first_shades scale shades row spans column ++ cell_shade scale shades row spans column ∷ []

-- the shades of all cells of a row
unfoldable pub row_shades : Scale → ℕ → Row → List Span → List ℕ
row_shades scale shades row spans = first_shades scale shades row spans (cell_columns scale)

-- a shade is the share of used bytes, rounded up: the least one that is no less
pub record IsShare (shades used bytes : ℕ) : Type 0 where
  pub enough : shades * used ≤ shade_of shades used bytes * bytes
  pub least : (shade : ℕ) → shades * used ≤ shade * bytes → shade_of shades used bytes ≤ shade

-- a shade is the least one that is at least the share of the bytes in use, for all shares
abbrev pub ShadesAreShares : Type 0
ShadesAreShares = (shades used bytes : ℕ) → 0 < bytes → used ≤ bytes → IsShare shades used bytes

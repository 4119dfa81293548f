-- What is made one after the other: with one more.
use Rattle.std.proofs.Common.{◌≡◌, ℕ, ◌+◌, List, [], ◌∷◌, ◌++◌, ap, add-one}
use Rattle.heap_cells.specs.declared.spans.Span.{Span}
use Rattle.heap_cells.specs.declared.scale.Scale.{Scale}
use Rattle.heap_cells.specs.declared.scale.Row.{Row}
use Rattle.heap_cells.specs.Shades.{cell_shade, first_shades}

pub shades_step : (scale : Scale) (shades : ℕ) (row : Row) (spans : List Span) (column : ℕ) →
    first_shades scale shades row spans (column + 1) ≡ first_shades scale shades row spans column ++ cell_shade scale shades row spans column ∷ []
shades_step scale shades row spans column = ap (first_shades scale shades row spans) (add-one column)

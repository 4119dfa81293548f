-- Curves as paths: from the left edge on a level line in each column, and a step if the next column is drawn at another height.
use Rattle.std.specs.Prelude.{ℕ, ◌+◌, ◌-◌, ◌*◌, ◌/◌, ◌^◌, ◌<◌, ◌≤◌, min, nat_eq, List, [], ◌∷◌, ◌++◌, length, codes, decimal, if◌then◌else◌}
use Rattle.heap_history.specs.Columns.{x_of}
use Rattle.heap_curves.specs.declared.columns.Column.{Column}
use Rattle.heap_curves.specs.declared.paths.Curve.{Curve}
use Rattle.heap_curves.specs.declared.paths.Curve.TheVariants.{Live, Heap, Peak}
use Rattle.heap_curves.specs.declared.paths.Scale.{Scale}

-- a scale that a drawing has
pub record IsScale (scale : Scale) : Type 0 where
  pub y : scale.y < 2 ^ 100
  pub height : scale.height ≤ 112
  pub some : 1 ≤ scale.most

-- bytes as they are drawn and told: below 2 ^ 100, as those of each run are
abbrev pub told : ℕ → ℕ
told bytes = min bytes (2 ^ 100 - 1)

-- the height at which bytes are drawn
abbrev pub height_of : Scale → ℕ → ℕ
height_of scale bytes = scale.y + (scale.height - told bytes * scale.height / scale.most)

-- the floor
abbrev pub floor_of : Scale → ℕ
floor_of scale = scale.y + scale.height

-- what a curve has in a column
abbrev pub curve_bytes : Curve → Column → ℕ
curve_bytes Live column = column.live
curve_bytes Heap column = column.heap
curve_bytes Peak column = column.peak

-- a step at a place to a height
unfoldable pub step_text : ℕ → ℕ → List ℕ
step_text x height = codes "H" ++ (decimal x ++ (codes "V" ++ decimal height))

-- The steps of a curve from one column on, after a line at a height; `number` is that of all columns.
abbrev pub steps_text : Curve → Scale → ℕ → ℕ → ℕ → List Column → List ℕ
steps_text curve scale number place height [] = []
steps_text curve scale number place height (column ∷ columns) =
    (if nat_eq (height_of scale (curve_bytes curve column)) height then [] else step_text (x_of place number) (height_of scale (curve_bytes curve column)))
    ++ steps_text curve scale number (place + 1) (height_of scale (curve_bytes curve column)) columns

-- the height at which a curve begins
abbrev pub first_height : Curve → Scale → List Column → ℕ
first_height curve scale [] = floor_of scale
first_height curve scale (column ∷ columns) = height_of scale (curve_bytes curve column)

-- the front of a path of a class, up to its first point
unfoldable pub path_front : List ℕ → ℕ → List ℕ
path_front class height = codes "<path class=\"" ++ (class ++ (codes "\" d=\"M144 " ++ decimal height))

-- what is under a curve
unfoldable pub area_text : List ℕ → List ℕ → Curve → Scale → List Column → List ℕ
area_text class more curve scale columns =
    path_front class (floor_of scale)
    ++ (steps_text curve scale (length columns) 0 (floor_of scale) columns
    ++ (codes "H1168V" ++ (decimal (floor_of scale) ++ (codes "z\"" ++ (more ++ codes "/>\n")))))

-- a curve
unfoldable pub curve_text : List ℕ → List ℕ → Curve → Scale → List Column → List ℕ
curve_text class more curve scale columns =
    path_front class (first_height curve scale columns)
    ++ (steps_text curve scale (length columns) 0 (first_height curve scale columns) columns ++ (codes "H1168\"" ++ (more ++ codes "/>\n")))

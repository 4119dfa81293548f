-- The bytes of a heap over a run, as curves.
use Rattle.std.specs.Prelude.{ℕ, ◌+◌, ◌*◌, max, nat_le, Bool, List, [], ◌++◌, codes, if◌then◌else◌}
use Rattle.heap_history.specs.declared.history.Moment.{Moment}
use Rattle.heap_map.specs.Words.{about}
use Rattle.heap_map.specs.Shapes.{text_at, rect}
use Rattle.heap_curves.specs.declared.columns.Counted.TheVariants as Of
use Rattle.heap_curves.specs.declared.columns.Column.{Column}
use Rattle.heap_curves.specs.declared.paths.Curve.TheVariants.{Live, Heap, Peak}
use Rattle.heap_curves.specs.declared.paths.Scale.{Scale}
use Rattle.heap_curves.specs.Columns.{greatest, columns_of}
use Rattle.heap_curves.specs.Paths.{told, floor_of, area_text, curve_text}
use Rattle.heap_curves.specs.Ends.{last_moment, ends_text}

-- the most bytes that were live, and that the heap had
abbrev pub most_live : List Moment → ℕ
most_live moments = told (greatest Of.Live moments)

abbrev pub most_heap : List Moment → ℕ
most_heap moments = told (greatest Of.Heap moments)

-- whether heap and live bytes are drawn to one scale
abbrev pub are_together : List Moment → Bool
are_together moments = nat_le (most_heap moments) (8 * most_live moments)

-- the scale of the live bytes: 112 high
abbrev pub live_scale : ℕ → List Moment → Scale
live_scale y moments = record { y = y; height = 112; most = max 1 (if are_together moments then most_heap moments else most_live moments) }

-- the scale of a heap that has a strip of its own: 24 high
abbrev pub strip_scale : ℕ → List Moment → Scale
strip_scale y moments = record { y = y + 122; height = 24; most = max 1 (most_heap moments) }

-- the name of a scale, its floor, and its most bytes at a base line
unfoldable pub scale_text : List ℕ → Scale → ℕ → List ℕ
scale_text name scale y =
    text_at (codes "q") 24 (scale.y + 12) name
    ++ (rect (codes "line") 144 (floor_of scale) 1024 1 ++ text_at (codes "m e faint") 134 y (about (told scale.most)))

-- the heap, as ground
unfoldable pub heap_text : Scale → List Column → List ℕ
heap_text scale columns = area_text (codes "heap") [] Heap scale columns ++ curve_text (codes "wire") [] Heap scale columns

-- how they look
unfoldable pub half : List ℕ
half = codes " opacity=\".5\""

unfoldable pub thick : List ℕ
thick = codes " stroke-width=\"2\""

unfoldable pub dashes : List ℕ
dashes = codes " stroke-dasharray=\"3 3\""

-- the live bytes, and their peak
unfoldable pub live_text : Scale → List Column → List ℕ
live_text scale columns =
    area_text (codes "u") half Live scale columns ++ (curve_text (codes "su") thick Live scale columns ++ curve_text (codes "mark") dashes Peak scale columns)

-- the curves that are drawn to one scale, with what stands around them
unfoldable pub main_text : Bool → Scale → List Moment → List ℕ
main_text together scale moments =
    scale_text (codes "bytes") scale (scale.y + 9)
    ++ (text_at (codes "m e faint") 134 (floor_of scale + 1) (codes "0")
    ++ ((if together then heap_text scale (columns_of moments) else [])
    ++ (live_text scale (columns_of moments) ++ ends_text together scale (greatest Of.Live moments) (last_moment moments))))

-- the strip of a heap
unfoldable pub heap_strip_text : Scale → List Moment → List ℕ
heap_strip_text scale moments = scale_text (codes "heap") scale (scale.y + 24) ++ heap_text scale (columns_of moments)

-- all curves
unfoldable pub curves_text : ℕ → List Moment → List ℕ
curves_text y moments =
    main_text (are_together moments) (live_scale y moments) moments
    ++ (if are_together moments then [] else heap_strip_text (strip_scale y moments) moments)

-- their height, with what is left below them
abbrev pub curves_height : List Moment → ℕ
curves_height moments = if are_together moments then 122 else 156

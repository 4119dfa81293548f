-- What stands at the right of the curves: the bytes with which they end.
use Rattle.std.specs.Prelude.{ℕ, ◌+◌, ◌-◌, ◌*◌, min, max, nat_le, Bool, List, ◌++◌, length, get_or, codes, if◌then◌else◌}
use Rattle.heap_history.specs.declared.history.Moment.{Moment}
use Rattle.heap_map.specs.Words.{about}
use Rattle.heap_map.specs.Shapes.{text_at}
use Rattle.heap_curves.specs.declared.paths.Scale.{Scale}
use Rattle.heap_curves.specs.Paths.{told, height_of, floor_of}

-- the last moment
abbrev pub last_moment : List Moment → Moment
last_moment moments = get_or moments (length moments - 1) (record { live = 0; heap = 0 })

-- the lowest base line of words that have `rest` lines of words below them
abbrev pub lowest_line : Scale → ℕ → ℕ
lowest_line scale rest = floor_of scale + 4 - 13 * rest

-- a base line beside bytes, 13 below the one above at least
abbrev pub beside : Scale → ℕ → ℕ → ℕ → ℕ
beside scale above bytes rest = min (lowest_line scale rest) (max (above + 13) (height_of scale bytes + 4))

-- bytes with their name
unfoldable pub end_text : ℕ → List ℕ → ℕ → List ℕ
end_text y name bytes = text_at (codes "faint") 1176 y name ++ text_at (codes "m e") 1280 y (about (told bytes))

-- the peak, and what is live
unfoldable pub two_ends : Scale → ℕ → ℕ → List ℕ
two_ends scale peak live =
    end_text (beside scale 0 peak 1) (codes "peak") peak ++ end_text (beside scale (beside scale 0 peak 1) live 0) (codes "live") live

-- what is greatest, what is second, and what is live
unfoldable pub three_ends : Scale → List ℕ → ℕ → List ℕ → ℕ → ℕ → List ℕ
three_ends scale name bytes second_name second live =
    end_text (beside scale 0 bytes 2) name bytes
    ++ (end_text (beside scale (beside scale 0 bytes 2) second 1) second_name second
    ++ end_text (beside scale (beside scale (beside scale 0 bytes 2) second 1) live 0) (codes "live") live)

-- the peak and the last bytes, the greatest first; the heap's only if it is drawn to the same scale
unfoldable pub ends_text : Bool → Scale → ℕ → Moment → List ℕ
ends_text together scale peak last =
    if together then (if nat_le peak last.heap then three_ends scale (codes "heap") last.heap (codes "peak") peak last.live
    else three_ends scale (codes "peak") peak (codes "heap") last.heap last.live)
    else two_ends scale peak last.live

-- The bars of a row: neighbours of one shade are one bar.
use Rattle.std.specs.Prelude.{◌≡◌, ◌≢◌, ◌<◌, ◌≤◌, ℕ, ◌+◌, ◌-◌, ◌*◌, ◌&&◌, nat_eq, nat_le, nat_lt, List, [], ◌∷◌, ◌++◌, get_or, if◌then◌else◌}
use Rattle.std.specs.List.{sum_by}
use Rattle.heap_cells.specs.declared.bars.Bar.{Bar}

-- the cells of a row from one to another, which have one shade; without a shade there is nothing to draw
abbrev pub bar_of : ℕ → ℕ → ℕ → ℕ → ℕ → List Bar
bar_of side y start end shade = if nat_eq shade 0 then [] else record { x = 144 + side * start; y = y; width = side * (end - start); shade = shade } ∷ []

-- the bars that are left of a row, if the cells from `start` to `next` have one shade
abbrev pub bars_from : ℕ → ℕ → ℕ → ℕ → ℕ → List ℕ → List Bar
bars_from side y start next shade [] = bar_of side y start next shade
bars_from side y start next shade (one ∷ rest) =
    if nat_eq one shade then bars_from side y start (next + 1) shade rest
    else bar_of side y start next shade ++ bars_from side y next (next + 1) one rest

-- the bars of a row with these shades
abbrev pub bars_of : ℕ → ℕ → List ℕ → List Bar
bars_of side y shades = bars_from side y 0 0 0 shades

-- the shade that bars give a pixel: that of the bar over it
abbrev pub shade_at : ℕ → List Bar → ℕ
shade_at x bars = sum_by (λ bar. if nat_le bar.x x && nat_lt x (bar.x + bar.width) then bar.shade else 0) bars

-- a bar ends left of those that follow it, and has another shade than one that it touches
abbrev pub IsLeftOf : Bar → List Bar → Type 0
IsLeftOf bar [] = Unit {0}
IsLeftOf bar (next ∷ rest) = (bar.x + bar.width ≤ next.x) × (bar.x + bar.width ≡ next.x → bar.shade ≢ next.shade)

-- bars are in order, and each is as long as it can be
abbrev pub AreBarsApart : List Bar → Type 0
AreBarsApart [] = Unit {0}
AreBarsApart (bar ∷ bars) = IsLeftOf bar bars × AreBarsApart bars

-- the bars of a row give each cell its shade, and neighbours of one shade are one bar
pub record AreCells (side y : ℕ) (shades : List ℕ) : Type 0 where
  pub each : (column : ℕ) → shade_at (144 + side * column) (bars_of side y shades) ≡ get_or shades column 0
  pub apart : AreBarsApart (bars_of side y shades)

-- a row's bars show each of its cells with that cell's shade, for all sizes and shades
abbrev pub BarsAreCells : Type 0
BarsAreCells = (side y : ℕ) (shades : List ℕ) → 0 < side → AreCells side y shades

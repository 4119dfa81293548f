-- Bars as paths of an SVG document.
use Rattle.std.specs.Prelude.{ℕ, List, [], ◌++◌, codes, decimal, nat_eq, if◌then◌else◌}
use Rattle.std.specs.List.{flat_map}
use Rattle.heap_cells.specs.declared.bars.Bar.{Bar}

-- a bar, as a line through its middle
unfoldable pub bar_path : Bar → List ℕ
bar_path bar = codes "M" ++ (decimal bar.x ++ (codes " " ++ (decimal bar.y ++ (codes "h" ++ decimal bar.width))))

-- the bars of a shade
abbrev pub shade_bars_text : ℕ → List Bar → List ℕ
shade_bars_text shade bars = flat_map (λ bar. if nat_eq bar.shade shade then bar_path bar else []) bars

-- the front of a path of a class
unfoldable pub bars_path_front : List ℕ → List ℕ
bars_path_front class = codes "<path class=\"" ++ (class ++ codes "\" d=\"")

-- the end of a path, which is as wide as a cell
unfoldable pub plain_end : ℕ → List ℕ
plain_end side = codes "\" stroke-width=\"" ++ (decimal side ++ codes "\"/>\n")

-- and of one that is not opaque
unfoldable pub shade_end : ℕ → List ℕ → List ℕ
shade_end side opacity = codes "\" stroke-width=\"" ++ (decimal side ++ (codes "\" opacity=\"" ++ (opacity ++ codes "\"/>\n")))

-- the bars of the heap's regions as a path
unfoldable pub heap_path : ℕ → List Bar → List ℕ
heap_path side heap = bars_path_front (codes "sh") ++ (shade_bars_text 1 heap ++ plain_end side)

-- the bars of a shade of blocks as a path
unfoldable pub shade_path : ℕ → List ℕ → ℕ → List Bar → List ℕ
shade_path side opacity shade blocks = bars_path_front (codes "su") ++ (shade_bars_text shade blocks ++ shade_end side opacity)

-- the bars of the heap's regions, and over them those of blocks, each shade denser than the one before
unfoldable pub paths_text : ℕ → List Bar → List Bar → List ℕ
paths_text side heap blocks =
    heap_path side heap
    ++ (shade_path side (codes ".25") 1 blocks
    ++ (shade_path side (codes ".5") 2 blocks ++ (shade_path side (codes ".75") 3 blocks ++ shade_path side (codes "1") 4 blocks)))

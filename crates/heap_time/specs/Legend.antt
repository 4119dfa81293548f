-- What the colours are.
use Rattle.std.specs.Prelude.{ℕ, ◌+◌, Bool, List, [], ◌++◌, codes, decimal, if◌then◌else◌}
use Rattle.std.specs.List.{list_any}
use Rattle.heap_history.specs.declared.band.Band.{Band}
use Rattle.heap_map.specs.Shapes.{text_at, rect}
use Rattle.heap_time.specs.Shapes.{region_words}

-- a colour, and what it is
unfoldable pub colour_text : ℕ → List ℕ → List ℕ → List ℕ
colour_text x class words = rect class x 58 12 12 ++ text_at (codes "p") (x + 18) 68 words

-- of blocks one by one
unfoldable pub single_text : List ℕ
single_text = colour_text 144 (codes "u") (codes "block, live at the end") ++ colour_text 334 (codes "gone") (codes "block, ended or moved later")

-- a shade of blocks in cells
unfoldable pub shade_text : ℕ → List ℕ → List ℕ
shade_text x opacity =
    codes "<rect class=\"u\" x=\"" ++ (decimal x ++ (codes "\" y=\"58\" width=\"12\" height=\"12\" opacity=\"" ++ (opacity ++ codes "\"/>\n")))

unfoldable pub four_text : List ℕ
four_text = shade_text 144 (codes ".25") ++ (shade_text 156 (codes ".5") ++ (shade_text 168 (codes ".75") ++ shade_text 180 (codes "1")))

-- of blocks in cells
unfoldable pub shades_text : List ℕ
shades_text =
    four_text ++ text_at (codes "p") 198 68 (codes "live blocks, by how much of a cell they fill")

-- of the user's regions, if there are some
abbrev pub users_text : Bool → List ℕ
users_text users = if users then colour_text 690 (codes "w") (codes "user region") else []

-- of large pages, if there are some
abbrev pub large_legend_text : Bool → List ℕ
large_legend_text large = if large then colour_text 810 (codes "l") (codes "large page") else []

-- of blocks
abbrev pub blocks_text : Bool → List ℕ
blocks_text single = if single then single_text else shades_text

-- of what else is on the axis
unfoldable pub others_text : Bool → Bool → List ℕ
others_text users large = colour_text 560 (codes "heap") region_words ++ (users_text users ++ large_legend_text large)

-- what is said of folds, if there are some
unfoldable pub folds_words : List ℕ
folds_words = codes "(folded): no block begins or ends there"

abbrev pub folds_text : List Band → List ℕ
folds_text bands = if list_any (λ (band : Band). band.folded) bands then text_at (codes "e faint") 1280 68 folds_words else []

-- all of it
unfoldable pub legend_text : Bool → Bool → Bool → List Band → List ℕ
legend_text single users large bands =
    text_at (codes "q") 24 68 (codes "addresses")
    ++ (blocks_text single ++ (others_text users large ++ folds_text bands))

-- Parts of an SVG document.
use Rattle.std.specs.Prelude.{ℕ, List, ◌++◌, codes, decimal}
use Rattle.heap_history.specs.declared.band.Band.{Band}
use Rattle.heap_time.specs.Bands.{band_units}

-- the front of a drawing in a drawing, 1024 pixels wide, whose units are 64ths of a pixel
unfoldable pub view_front : ℕ → ℕ → ℕ → List ℕ
view_front y height units =
    codes "<svg x=\"144\" y=\"" ++ (decimal y ++ (codes "\" width=\"1024\" height=\"" ++ (decimal height ++ (codes "\" viewBox=\"0 0 65536 " ++ (decimal units ++ codes "\">\n")))))

-- the opening of a band's inner drawing
abbrev pub view_text : Band → List ℕ
view_text band = view_front band.y band.height (band_units band)

-- pages of the heap
unfoldable pub region_words : List ℕ
region_words = codes "heap region"

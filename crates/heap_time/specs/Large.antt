-- The large pages of the heap.
use Rattle.std.specs.Prelude.{ℕ, ◌+◌, ◌-◌, max, List, [], ◌++◌, codes, if◌then◌else◌}
use Rattle.std.specs.List.{flat_map}
use Rattle.heap_history.specs.declared.band.Band.{Band}
use Rattle.heap_history.specs.declared.history.LargePage.{LargePage}
use Rattle.heap_history.specs.Columns.{x_of}
use Rattle.heap_map.specs.Words.{hexadecimal, commas}
use Rattle.heap_map.specs.Shapes.{titled}
use Rattle.heap_time.specs.declared.covers.Cover.{Cover}
use Rattle.heap_time.specs.Covers.{large_cover, bottom_in, top_in, band_meets}
use Rattle.heap_time.specs.Bands.{address_height}

-- what is said of a large page
unfoldable pub large_title : LargePage → List ℕ
large_title large = codes "large page " ++ (hexadecimal large.slot ++ (codes ", from call " ++ commas (large.born + 1)))

-- a bar of 4 pixels at a call, as high as what a band has of a cover
unfoldable pub large_bar_text : ℕ → Band → Cover → List ℕ → List ℕ
large_bar_text calls band cover title =
    titled (codes "l") (x_of cover.born calls) (address_height band (top_in band cover)) 4
    (max 1 (address_height band (bottom_in band cover) - address_height band (top_in band cover) - 1)) title

-- a bar at the call with which a large page becomes one, if a band has an address of it
unfoldable pub large_mark_text : ℕ → LargePage → Band → List ℕ
large_mark_text calls large band = if band_meets band (large_cover calls large) then large_bar_text calls band (large_cover calls large) (large_title large) else []

-- in all bands
unfoldable pub large_marks_text : ℕ → List Band → LargePage → List ℕ
large_marks_text calls bands large = flat_map (large_mark_text calls large) bands

-- all large pages
unfoldable pub large_text : ℕ → List Band → List LargePage → List ℕ
large_text calls bands large = flat_map (large_marks_text calls bands) large

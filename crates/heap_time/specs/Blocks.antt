-- The blocks of a run one by one, over the regions of the heap.
use Rattle.std.specs.Prelude.{ℕ, ◌+◌, List, [], ◌++◌, codes, decimal, if◌then◌else◌}
use Rattle.std.specs.List.{flat_map}
use Rattle.heap_history.specs.declared.band.Band.{Band}
use Rattle.heap_history.specs.declared.history.Stay.{Stay}
use Rattle.heap_history.specs.declared.history.Held.{Held}
use Rattle.heap_history.specs.declared.history.Ending.{Ending}
use Rattle.heap_history.specs.declared.history.Ending.TheVariants.{Live, Freed, Reset, Moved, Resized}
use Rattle.heap_map.specs.Words.{hexadecimal, commas, quantity}
use Rattle.heap_map.specs.Shapes.{titled}
use Rattle.heap_time.specs.declared.covers.Cover.{Cover}
use Rattle.heap_time.specs.Bands.{cover_left, cover_top, cover_width, cover_height}
use Rattle.heap_time.specs.Covers.{stay_cover, held_cover, band_meets}
use Rattle.heap_time.specs.Shapes.{region_words, view_text}

-- the colour of a stay: of a block that is live at the end, and of one that is not, or not there
abbrev pub stay_class : Ending → List ℕ
stay_class Live = codes "u"
stay_class Freed = codes "gone"
stay_class Reset = codes "gone"
stay_class Moved = codes "gone"
stay_class Resized = codes "gone"

-- how a stay ended
abbrev pub ending_words : Ending → List ℕ
ending_words Live = codes "live"
ending_words Freed = codes "freed"
ending_words Reset = codes "reset"
ending_words Moved = codes "moved"
ending_words Resized = codes "resized"

-- the calls of a stay, of which the first of a run has the number 1
unfoldable pub end_words : ℕ → Ending → List ℕ
end_words end ending = commas (end + 1) ++ (codes " (" ++ (ending_words ending ++ codes ")"))

abbrev pub until_words : ℕ → Ending → List ℕ
until_words end Live = codes "the end"
until_words end Freed = end_words end Freed
until_words end Reset = end_words end Reset
until_words end Moved = end_words end Moved
until_words end Resized = end_words end Resized

-- the block of a stay, and its bytes
unfoldable pub block_words : Stay → List ℕ
block_words stay = codes "block " ++ (decimal stay.block ++ (codes ": " ++ (quantity (codes "byte") stay.size ++ codes " at ")))

-- its address, and its calls
unfoldable pub calls_words : Stay → List ℕ
calls_words stay = hexadecimal stay.address ++ (codes ", call " ++ (commas (stay.born + 1) ++ (codes " to " ++ until_words stay.end stay.ending)))

-- what is said of a stay
unfoldable pub stay_title : Stay → List ℕ
stay_title stay = block_words stay ++ calls_words stay

-- the address of a region, and its pages
unfoldable pub held_region_words : Held → List ℕ
held_region_words held = hexadecimal held.start ++ (codes " + " ++ quantity (codes "page") held.pages)

-- what is said of a region of the heap
unfoldable pub held_title : Held → List ℕ
held_title held = region_words ++ (codes " " ++ held_region_words held)

-- What a band has of a cover: over its calls, and from its highest address down to its lowest. A pixel each way is drawn at least.
unfoldable pub cover_text : ℕ → Band → Cover → List ℕ → List ℕ → List ℕ
cover_text calls band cover class title =
    titled class (cover_left calls cover) (cover_top band cover) (cover_width calls cover) (cover_height band cover) title

-- a stay in a band, if it has an address of it
unfoldable pub stay_text : ℕ → Band → Stay → List ℕ
stay_text calls band stay =
    if band_meets band (stay_cover stay) then cover_text calls band (stay_cover stay) (stay_class stay.ending) (stay_title stay) else []

-- likewise a region
unfoldable pub held_text : ℕ → Band → Held → List ℕ
held_text calls band held = if band_meets band (held_cover held) then cover_text calls band (held_cover held) (codes "heap") (held_title held) else []

-- a band: the regions, and over them the stays
unfoldable pub band_text : ℕ → List Stay → List Held → Band → List ℕ
band_text calls stays heap band = view_text band ++ (flat_map (held_text calls band) heap ++ (flat_map (stay_text calls band) stays ++ codes "</svg>\n"))

-- all bands
unfoldable pub blocks_text : ℕ → List Band → List Stay → List Held → List ℕ
blocks_text calls bands stays heap = flat_map (band_text calls stays heap) bands

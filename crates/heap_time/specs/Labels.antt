-- What is written on stays.
use Rattle.std.specs.Prelude.{ℕ, ◌+◌, ◌-◌, ◌*◌, ◌/◌, Bool, ◌&&◌, nat_le, List, [], ◌∷◌, ◌++◌, length, codes, decimal, if◌then◌else◌}
use Rattle.std.specs.List.{flat_map}
use Rattle.heap_history.specs.declared.band.Band.{Band}
use Rattle.heap_history.specs.declared.history.Stay.{Stay}
use Rattle.heap_history.specs.declared.history.Ending.{Ending}
use Rattle.heap_history.specs.declared.history.Ending.TheVariants.{Live, Freed, Reset, Moved, Resized}
use Rattle.heap_history.specs.Columns.{x_of}
use Rattle.heap_map.specs.Words.{commas}
use Rattle.heap_map.specs.Shapes.{text_at}
use Rattle.heap_time.specs.Covers.{stay_cover, bottom_in, top_in, band_meets}
use Rattle.heap_time.specs.Bands.{address_height, tallness}

-- the letters on a stay, by its colour
abbrev pub stay_letters : Ending → List ℕ
stay_letters Live = codes "m in"
stay_letters Freed = codes "m"
stay_letters Reset = codes "m"
stay_letters Moved = codes "m"
stay_letters Resized = codes "m"

-- the number of its block, and its bytes
unfoldable pub short_label : Stay → List ℕ
short_label stay = decimal stay.block ++ (codes ": " ++ (commas stay.size ++ codes " B"))

unfoldable pub long_label : Stay → List ℕ
long_label stay = codes "block " ++ short_label stay

-- the first of the two and the number alone that fits this width, a letter being at most 8 wide
unfoldable pub label_at : ℕ → ℕ → ℕ → Stay → List ℕ
label_at x y width stay =
    if nat_le (8 * length (long_label stay) + 8) width then text_at (stay_letters stay.ending) x y (long_label stay)
    else if nat_le (8 * length (short_label stay) + 8) width then text_at (stay_letters stay.ending) x y (short_label stay)
    else if nat_le (8 * length (decimal stay.block) + 8) width then text_at (stay_letters stay.ending) x y (decimal stay.block)
    else []

-- the label of a stay in a band: in the middle of its addresses, from its first call on
unfoldable pub label_in : ℕ → Stay → Band → List ℕ
label_in calls stay band =
    label_at (x_of stay.born calls + 5) (address_height band ((bottom_in band (stay_cover stay) + top_in band (stay_cover stay)) / 2) + 4)
    (x_of stay.end calls - x_of stay.born calls) stay

-- whether there is room for the label of a stay in a band: it is 12 pixels high there
unfoldable pub has_label_room : Stay → Band → Bool
has_label_room stay band = band_meets band (stay_cover stay) && nat_le 12 (tallness band (stay_cover stay))

-- the label of a stay: in the highest band with room for it
abbrev pub stay_label_text : ℕ → List Band → Stay → List ℕ
stay_label_text calls [] stay = []
stay_label_text calls (band ∷ bands) stay =
    if has_label_room stay band then label_in calls stay band else stay_label_text calls bands stay

-- all labels
unfoldable pub labels_text : ℕ → List Band → List Stay → List ℕ
labels_text calls bands stays = flat_map (stay_label_text calls bands) stays

-- Arrows from the place that a block left to the one that it was moved to.
use Rattle.std.specs.Prelude.{ℕ, ◌+◌, ◌/◌, Bool, true, false, ◌&&◌, nat_eq, nat_lt, nat_le, List, [], ◌∷◌, ◌++◌, codes, decimal, if◌then◌else◌}
use Rattle.std.specs.List.{flat_map}
use Rattle.heap_history.specs.declared.band.Band.{Band}
use Rattle.heap_history.specs.declared.history.Stay.{Stay}
use Rattle.heap_history.specs.declared.history.Ending.{Ending}
use Rattle.heap_history.specs.declared.history.Ending.TheVariants.{Live, Freed, Reset, Moved, Resized}
use Rattle.heap_history.specs.Columns.{x_of}
use Rattle.heap_time.specs.Bands.{address_height}

-- whether a stay ended since its block was moved
abbrev pub is_moved : Ending → Bool
is_moved Live = false
is_moved Freed = false
is_moved Reset = false
is_moved Moved = true
is_moved Resized = false

-- whether a stay is the next one of a block that was moved
unfoldable pub is_next : Stay → Stay → Bool
is_next stay next = is_moved stay.ending && (nat_eq next.block stay.block && nat_eq next.born stay.end)

-- the address in the middle of a stay
abbrev pub middle_of : Stay → ℕ
middle_of stay = stay.address + stay.size / 2

-- whether an address is in a band, or at its end
unfoldable pub is_in_band : ℕ → Band → Bool
is_in_band address band = nat_le band.low address && nat_le address band.high

-- the height of an address, in the highest band that has it
abbrev pub height_at : ℕ → List Band → ℕ
height_at address [] = 84
height_at address (band ∷ bands) = if is_in_band address band then address_height band address else height_at address bands

-- the head of an arrow upwards, or downwards
unfoldable pub head_words : ℕ → ℕ → List ℕ
head_words y to = if nat_lt to y then codes "m-4 5l4 -5l4 5" else codes "m-4 -5l4 5l4 -5"

-- the line of an arrow from one height to another
unfoldable pub arrow_line : ℕ → ℕ → ℕ → List ℕ
arrow_line x y to = codes "<path class=\"mark\" d=\"M" ++ (decimal x ++ (codes " " ++ (decimal y ++ (codes "V" ++ decimal to))))

unfoldable pub arrow_text : ℕ → ℕ → ℕ → List ℕ
arrow_text x y to = arrow_line x y to ++ (head_words y to ++ codes "\" stroke-width=\"1.5\"/>\n")

-- an arrow from a stay to the next one of its block, if it is that
unfoldable pub arrow_to : ℕ → List Band → Stay → Stay → List ℕ
arrow_to calls bands stay next =
    if is_next stay next then arrow_text (x_of stay.end calls) (height_at (middle_of stay) bands) (height_at (middle_of next) bands) else []

-- the arrow of a stay
unfoldable pub move_text : ℕ → List Band → List Stay → Stay → List ℕ
move_text calls bands stays stay = flat_map (arrow_to calls bands stay) stays

-- the arrows of all stays, if there are at most 64 calls
unfoldable pub moves_text : ℕ → List Band → List Stay → List ℕ
moves_text calls bands stays = if nat_le calls 64 then flat_map (move_text calls bands stays) stays else []

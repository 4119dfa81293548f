-- The addresses beside the bands.
use Rattle.std.specs.Prelude.{ℕ, zero, suc, ◌+◌, ◌-◌, ◌*◌, ◌/◌, ◌&&◌, nat_le, nat_lt, List, [], ◌++◌, codes, if◌then◌else◌}
use Rattle.std.specs.List.{flat_map}
use Rattle.heap_history.specs.declared.band.Band.{Band}
use Rattle.heap_map.specs.Words.{hexadecimal, about}
use Rattle.heap_map.specs.Shapes.{text_at, rect}
use Rattle.heap_time.specs.Bands.{address_height}

-- words beside a band, on a base line
unfoldable pub beside_text : ℕ → List ℕ → List ℕ
beside_text y words = text_at (codes "m e faint") 134 y words

-- how many bytes a folded band has
unfoldable pub folded_words : Band → List ℕ
folded_words band = codes "(" ++ (about (band.high - band.low) ++ codes ")")

-- twice as many bytes, if a band has more than six times as many
abbrev pub step_grown : ℕ → ℕ → ℕ → ℕ
step_grown zero step bytes = step
step_grown (suc times) step bytes = step_grown times (if nat_le (7 * step) bytes then 2 * step else step) bytes

-- the bytes from one tick to the next: the least power of two of which a band has no seven
unfoldable pub step_of : ℕ → ℕ
step_of bytes = step_grown 62 1 bytes

-- an address and a tick, if there is room between those of the ends
unfoldable pub tick_text : Band → ℕ → List ℕ
tick_text band address =
    if nat_lt address band.high && (nat_le (band.y + 22) (address_height band address) && nat_le (address_height band address + 16) (band.y + band.height))
    then rect (codes "line") 138 (address_height band address) 6 1 ++ beside_text (address_height band address + 4) (hexadecimal address) else []

-- a number of ticks, at multiples of a step, from the lowest address on
abbrev pub ticks_text : Band → ℕ → ℕ → List ℕ
ticks_text band step zero = []
ticks_text band step (suc ticks) = ticks_text band step ticks ++ tick_text band ((band.low / step + ticks) * step)

-- the address of the top of a band, if it is high enough
unfoldable pub top_text : Band → List ℕ
top_text band = if nat_le 26 band.height then beside_text (band.y + 9) (hexadecimal band.high) else []

-- its ticks, if it is high enough
unfoldable pub band_ticks_text : Band → List ℕ
band_ticks_text band = if nat_le 120 band.height then ticks_text band (step_of (band.high - band.low)) 8 else []

-- the addresses of a band that is to scale: of its ground, its top and its ticks
unfoldable pub band_scale_text : Band → List ℕ
band_scale_text band = beside_text (band.y + band.height) (hexadecimal band.low) ++ (top_text band ++ band_ticks_text band)

-- what stands beside a band
unfoldable pub address_text : Band → List ℕ
address_text band = if band.folded then beside_text (band.y + 12) (folded_words band) else band_scale_text band

-- beside all bands
unfoldable pub addresses_text : List Band → List ℕ
addresses_text bands = flat_map address_text bands

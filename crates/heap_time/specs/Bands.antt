-- Where addresses are in a band.
use Rattle.std.specs.Prelude.{ℕ, ◌+◌, ◌-◌, ◌*◌, ◌/◌, ◌<◌, ◌≤◌, ◌^◌, min, max}
use Rattle.heap_history.specs.declared.band.Band.{Band}
use Rattle.heap_time.specs.declared.covers.Cover.{Cover}
use Rattle.heap_time.specs.Covers.{bottom_in, top_in}

-- a band that can be drawn
abbrev pub IsBand : Band → Type 0
IsBand band = (band.low < 2 ^ 64) × ((band.high < 2 ^ 64) × ((band.y < 2 ^ 80) × (band.height ≤ 336)))

-- the height of some bytes of a band, in pixels
unfoldable pub pixels_of : Band → ℕ → ℕ
pixels_of band bytes = bytes * band.height / max 1 (band.high - band.low)

-- the height of an address of a band, upwards from its ground
unfoldable pub address_height : Band → ℕ → ℕ
address_height band address = band.y + band.height - pixels_of band (address - band.low)

-- how high what is covered of a band is
abbrev pub tallness : Band → Cover → ℕ
tallness band cover = pixels_of band (top_in band cover - bottom_in band cover)

-- The height of a band in 64ths of a pixel. These are the units of what is drawn in it, to the right and downwards, and not calls and
-- bytes: browsers place nothing right whose numbers are 2 ^ 26 or more.
abbrev pub band_units : Band → ℕ
band_units band = 64 * band.height

-- where a part of a whole ends, along an edge of this many units
unfoldable pub along : ℕ → ℕ → ℕ → ℕ
along units whole part = min units (part * units / max 1 whole)

-- where what goes from one part of a whole to another begins along an edge: a pixel of the edge is left for it
abbrev pub start_along : ℕ → ℕ → ℕ → ℕ
start_along units whole part = min (along units whole part) (units - 64)

-- and how long it is: a pixel at least
abbrev pub length_along : ℕ → ℕ → ℕ → ℕ → ℕ
length_along units whole part end = max 64 (along units whole end - along units whole part)

-- the calls of a cover, over the width of a band: the columns of `calls` calls are 1024 pixels wide together
abbrev pub cover_left : ℕ → Cover → ℕ
cover_left calls cover = start_along 65536 calls cover.born

abbrev pub cover_width : ℕ → Cover → ℕ
cover_width calls cover = length_along 65536 calls cover.born cover.end

-- what a band has of its addresses, over the height of the band and downwards
abbrev pub cover_top : Band → Cover → ℕ
cover_top band cover = start_along (band_units band) (band.high - band.low) (band.high - top_in band cover)

abbrev pub cover_height : Band → Cover → ℕ
cover_height band cover = length_along (band_units band) (band.high - band.low) (band.high - top_in band cover) (band.high - bottom_in band cover)

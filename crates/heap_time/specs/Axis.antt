-- The axis of addresses: ranges between neighbouring edges, of which the greatest are folded.
use Rattle.std.specs.Prelude.{ℕ, zero, suc, ◌+◌, ◌-◌, ◌*◌, ◌/◌, ◌^◌, min, max, Bool, true, false, ◌&&◌, ◌||◌, nat_eq, nat_lt, nat_le, List, [], ◌∷◌, ◌++◌, length, slice_get, Option, Some, None, reverse, if◌then◌else◌}
use Rattle.std.specs.List.{flat_map, fold, sum_by}
use Rattle.heap_history.specs.declared.band.Band.{Band}
use Rattle.heap_history.specs.declared.history.Stay.{Stay}
use Rattle.heap_history.specs.declared.history.Held.{Held}
use Rattle.heap_time.specs.declared.covers.Cover.{Cover}
use Rattle.heap_time.specs.declared.folding.Range.{Range}
use Rattle.heap_time.specs.declared.folding.Folds.{Folds}
use Rattle.heap_time.specs.declared.axis.Span.{Span}
use Rattle.heap_time.specs.Covers.{stay_cover, held_cover}

-- the addresses at which something begins and ends
abbrev pub ends_of : Cover → List ℕ
ends_of cover = cover.low ∷ cover.high ∷ []

-- all of them
unfoldable pub all_ends : List Stay → List Held → List ℕ
all_ends stays heap = flat_map (λ stay. ends_of (stay_cover stay)) stays ++ flat_map (λ held. ends_of (held_cover held)) heap

-- a number among ascending ones
abbrev pub with_sorted_number : ℕ → List ℕ → List ℕ
with_sorted_number number [] = number ∷ []
with_sorted_number number (least ∷ others) = if nat_le number least then number ∷ (least ∷ others) else least ∷ with_sorted_number number others

-- numbers in ascending order
abbrev pub ascending : List ℕ → List ℕ
ascending [] = []
ascending (number ∷ numbers) = with_sorted_number number (ascending numbers)

-- the edges of a run: each address at which a stay or a region of the heap ever began or ended, ascending
unfoldable pub edges_of : List Stay → List Held → List ℕ
edges_of stays heap = ascending (all_ends stays heap)

-- the ranges from an address on, each from one edge to the next
abbrev pub ranges_from : ℕ → List ℕ → List Range
ranges_from low [] = []
ranges_from low (high ∷ edges) = record { low = low; high = high } ∷ ranges_from high edges

-- the least edge
abbrev pub first_edge : List ℕ → ℕ
first_edge [] = 0
first_edge (edge ∷ edges) = edge

-- the ranges between neighbouring edges
unfoldable pub ranges_of : List ℕ → List Range
ranges_of [] = []
ranges_of (edge ∷ edges) = ranges_from edge edges

-- how many bytes a range has
abbrev pub range_size : Range → ℕ
range_size range = range.high - range.low

-- whether a range is folded: it is greater than the last one that was folded, or as great, and not above it
abbrev pub is_folded : Folds → Range → Bool
is_folded folds range = nat_lt folds.size (range_size range) || (nat_eq folds.size (range_size range) && nat_le range.low folds.start)

-- of two ranges that are not folded the greater, and of equals the first
abbrev pub greater : Folds → Range → Range → Range
greater folds best range = if is_folded folds range then best else if nat_lt (range_size best) (range_size range) then range else best

-- the greatest range that is not folded, and of equals the lowest; one of no bytes if there is none
unfoldable pub greatest_range : Folds → List Range → Range
greatest_range folds ranges = fold (greater folds) (record { low = 0; high = 0 }) ranges

-- the bytes of all ranges that are not folded
abbrev pub scaled_bytes : Folds → List Range → ℕ
scaled_bytes folds ranges = sum_by (λ range. if is_folded folds range then 0 else range_size range) ranges

-- whether a range of this size is folded: four bytes to each of 336 pixels are fine enough, and so is a range that is not more than a
-- fifth of what is not folded
abbrev pub is_too_great : ℕ → ℕ → Bool
is_too_great left size = nat_lt 1344 left && nat_lt left (5 * size)

-- with this range too, and each that is as great and below it
abbrev pub folded_to : Range → Folds
folded_to range = record { size = range_size range; start = range.low }

-- more ranges are folded, up to a number of them, the greatest first, as long as it is too great
abbrev pub folds_from : ℕ → Folds → List Range → Folds
folds_from zero folds ranges = folds
folds_from (suc times) folds ranges =
    if is_too_great (scaled_bytes folds ranges) (range_size (greatest_range folds ranges)) then folds_from times (folded_to (greatest_range folds ranges)) ranges else folds

-- no range is folded: none has 2 ^ 64 bytes
abbrev pub no_folds : Folds
no_folds = record { size = 2 ^ 64; start = 0 }

-- which ranges are folded: ten at most
unfoldable pub folds_of : List Range → Folds
folds_of ranges = folds_from 10 no_folds ranges

-- what is to scale from one address to another, if it is anything
abbrev pub scaled : ℕ → ℕ → List Span
scaled low high = if nat_lt low high then record { low = low; high = high; folded = false } ∷ [] else []

-- Folded ranges are one by one, and what is between them is one span. The span that is open began at `start` and goes to `next`.
abbrev pub spans_from : Folds → ℕ → ℕ → List Range → List Span
spans_from folds start next [] = scaled start next
spans_from folds start next (range ∷ ranges) =
    if is_folded folds range then scaled start next ++ (record { low = range.low; high = range.high; folded = true } ∷ spans_from folds range.high range.high ranges)
    else spans_from folds start range.high ranges

-- the spans of the axis, the lowest first
unfoldable pub spans_of : Folds → ℕ → List Range → List Span
spans_of folds first ranges = spans_from folds first first ranges

-- the height of a span, if `left` bytes are to scale, in 336 pixels together
unfoldable pub span_height : ℕ → Span → ℕ
span_height left span = if span.folded then 16 else max 16 (min 336 ((span.high - span.low) * 336 / max 1 left / 8 * 8))

-- a span from a place on
abbrev pub band_at : ℕ → ℕ → Span → Band
band_at left y span = record { low = span.low; high = span.high; folded = span.folded; y = y; height = span_height left span }

-- spans below one another
abbrev pub placed : ℕ → ℕ → List Span → List Band
placed left y [] = []
placed left y (span ∷ spans) = band_at left y span ∷ placed left (y + span_height left span + 3) spans

-- the bands of these ranges, which begin at the least edge
unfoldable pub bands_over : ℕ → List Range → List Band
bands_over first ranges = placed (scaled_bytes (folds_of ranges) ranges) 84 (reverse (spans_of (folds_of ranges) first ranges))

-- the bands of a run, the highest first
unfoldable pub bands_of : List Stay → List Held → List Band
bands_of stays heap = bands_over (first_edge (edges_of stays heap)) (ranges_of (edges_of stays heap))

-- what is below a band
abbrev pub below_one : Option Band → ℕ
below_one None = 84
below_one (Some band) = band.y + band.height + 3

-- what is below all bands, of which the last is the lowest
abbrev pub below_bands : List Band → ℕ
below_bands bands = below_one (slice_get bands (length bands - 1))

-- The free chunks in bins by size: a bar for each power of two.
use Rattle.std.specs.Prelude.{ℕ, zero, suc, ◌+◌, ◌-◌, ◌*◌, ◌/◌, min, max, Bool, ◌&&◌, ◌||◌, nat_eq, nat_le, nat_lt, List, [], ◌++◌, codes, decimal, if◌then◌else◌}
use Rattle.std.specs.List.{count_by}
use Rattle.dlmalloc_chunks.specs.declared.extent.Extent.{Extent}
use Rattle.heap_map.specs.declared.classes.Class.TheVariants.{Binned}
use Rattle.heap_map.specs.Words.{commas, exactly}
use Rattle.heap_map.specs.Classes.{is_of_class}
use Rattle.heap_map.specs.Shapes.{text_at, rect, titled}

-- whether an extent is a chunk in a bin with `low` bytes or more, and fewer than twice as many; from 1 MiB on there is no such end
abbrev pub is_between : ℕ → Extent → Bool
is_between low extent = is_of_class Binned extent.kind && (nat_le low extent.size && (nat_le 1048576 low || nat_lt extent.size (2 * low)))

-- how many there are
abbrev pub chunk_count_from : ℕ → List Extent → ℕ
chunk_count_from low extents = count_by (is_between low) extents

-- the next power of two, up to 1 MiB
abbrev pub next_low : ℕ → ℕ
next_low low = if nat_lt low 1048576 then 2 * low else low

-- the most chunks that a power of two has, of `bars` powers from one on, or `most` if that is more
abbrev pub most_from : ℕ → ℕ → ℕ → List Extent → ℕ
most_from zero low most extents = most
most_from (suc bars) low most extents = most_from bars (next_low low) (max (chunk_count_from low extents) most) extents

-- of all
unfoldable pub most_of_all : List Extent → ℕ
most_of_all extents = most_from 16 32 0 extents

-- the height of a bar
abbrev pub bar_height : ℕ → ℕ → ℕ
bar_height number most = min 84 (max 2 (84 * number / max 1 most))

-- what the bars are
unfoldable pub bars_words : List ℕ
bars_words = codes "Free chunks by size"

-- what is said of a bar
unfoldable pub bar_title : ℕ → ℕ → List ℕ
bar_title low number = commas number ++ (codes " from " ++ exactly low)

-- a bar over its floor, if there are such chunks, with their number above it
unfoldable pub bar_text : ℕ → ℕ → ℕ → ℕ → ℕ → List ℕ
bar_text x floor low number most =
    if nat_eq number 0 then []
    else titled (codes "f") (x + 2) (floor - bar_height number most) 19 (bar_height number most) (bar_title low number)
    ++ text_at (codes "m c") (x + 11) (floor - bar_height number most - 4) (commas number)

-- the given number of bars, from a power of two on
abbrev pub size_bars_from : ℕ → ℕ → ℕ → ℕ → ℕ → List Extent → List ℕ
size_bars_from zero x floor low most extents = []
size_bars_from (suc bars) x floor low most extents = bar_text x floor low (chunk_count_from low extents) most ++ size_bars_from bars (x + 23) floor (next_low low) most extents

-- all bars
unfoldable pub bars_text : ℕ → ℕ → List Extent → List ℕ
bars_text floor most extents = size_bars_from 16 472 floor 32 most extents

-- the sizes below the bars
unfoldable pub axis_front : ℕ → List ℕ
axis_front y =
    text_at (codes "m faint") 474 y (codes "32")
    ++ (text_at (codes "m faint") 520 y (codes "128") ++ (text_at (codes "m faint") 566 y (codes "512") ++ text_at (codes "m faint") 612 y (codes "2 K")))

unfoldable pub axis_back : ℕ → List ℕ
axis_back y =
    text_at (codes "m faint") 658 y (codes "8 K")
    ++ (text_at (codes "m faint") 704 y (codes "32 K") ++ (text_at (codes "m faint") 750 y (codes "128 K") ++ text_at (codes "m faint") 796 y (codes "512 K")))

-- what stands below the bars
unfoldable pub axis_text : ℕ → List ℕ
axis_text y = axis_front (y + 144) ++ (axis_back (y + 144) ++ text_at (codes "e faint") 840 (y + 162) (codes "size in bytes, by powers of two"))

-- the heading of the bars, and their floor
unfoldable pub histogram_heading : ℕ → List ℕ
histogram_heading y = text_at (codes "q") 472 y bars_words ++ rect (codes "line") 472 (y + 128) 368 1

-- the bars of 16 powers of two, from a base line on
unfoldable pub histogram_text : ℕ → List Extent → List ℕ
histogram_text y extents = histogram_heading y ++ (bars_text (y + 128) (most_of_all extents) extents ++ axis_text y)

-- The drawing of a heap over a run.
use Rattle.std.specs.Prelude.{ℕ, ◌+◌, ◌-◌, Bool, not, nat_eq, nat_le, List, ◌++◌, length, codes, if◌then◌else◌}
use Rattle.heap_history.specs.declared.band.Band.{Band}
use Rattle.heap_history.specs.declared.history.History.{History}
use Rattle.heap_cells.specs.Cells.{cells_text}
use Rattle.heap_curves.specs.Calls.{calls_text, calls_height}
use Rattle.heap_curves.specs.Curves.{curves_text, curves_height}
use Rattle.heap_curves.specs.Lanes.{lanes_text, lanes_height}
use Rattle.heap_curves.specs.Refused.{refused_text, refused_height}
use Rattle.heap_map.specs.Words.{commas}
use Rattle.heap_map.specs.Shapes.{text_at}
use Rattle.heap_time.specs.Covers.{parts_number}
use Rattle.heap_time.specs.Axis.{bands_of, below_bands}
use Rattle.heap_time.specs.Blocks.{blocks_text}
use Rattle.heap_time.specs.Labels.{labels_text}
use Rattle.heap_time.specs.Moves.{moves_text}
use Rattle.heap_time.specs.Columns.{columns_text}
use Rattle.heap_time.specs.Large.{large_text}
use Rattle.heap_time.specs.Addresses.{addresses_text}
use Rattle.heap_time.specs.Legend.{legend_text}

-- how many calls a run had
abbrev pub call_count : History → ℕ
call_count history = length history.moments

-- what the drawing is of
unfoldable pub over_words : List ℕ
over_words = codes "The heap over "

abbrev pub call_word : ℕ → List ℕ
call_word calls = if nat_eq calls 1 then codes " call" else codes " calls"

unfoldable pub calls_title_words : ℕ → List ℕ
calls_title_words calls = over_words ++ (commas calls ++ call_word calls)

unfoldable pub title_text : ℕ → List ℕ
title_text calls = text_at (codes "h") 24 40 (calls_title_words calls)

-- whether stays are drawn one by one: they have 1,600 parts in the bands at most, those of the heap's regions counted
abbrev pub is_single : List Band → History → Bool
is_single bands history = nat_le (parts_number bands history.stays history.heap) 1600

-- one by one, with labels and arrows
unfoldable pub single_text : List Band → History → List ℕ
single_text bands history =
    blocks_text (call_count history) bands history.stays history.heap
    ++ (labels_text (call_count history) bands history.stays ++ moves_text (call_count history) bands history.stays)

-- or in cells, with titles for columns
unfoldable pub many_text : List Band → History → List ℕ
many_text bands history =
    cells_text (call_count history) bands history.stays history.heap ++ columns_text (below_bands bands) history.moments 64

abbrev pub stays_text : List Band → History → List ℕ
stays_text bands history = if is_single bands history then single_text bands history else many_text bands history

-- below the bands: the lanes of the user's regions, and below these the curves, the refused calls and the axis of calls
abbrev pub lanes_top : List Band → ℕ
lanes_top bands = below_bands bands + 6

abbrev pub curves_top : List Band → History → ℕ
curves_top bands history = lanes_top bands + lanes_height history.users + 8

abbrev pub refused_top : List Band → History → ℕ
refused_top bands history = curves_top bands history + curves_height history.moments

abbrev pub calls_top : List Band → History → ℕ
calls_top bands history = refused_top bands history + refused_height - 12

-- what stands above the bands, and the grid and the axis of calls, over which all else lies
unfoldable pub ground_text : List Band → History → List ℕ
ground_text bands history =
    title_text (call_count history)
    ++ (legend_text (is_single bands history) (not (nat_eq (length history.users) 0)) (not (nat_eq (length history.large) 0)) bands
    ++ calls_text 84 (calls_top bands history) (call_count history) history.lines)

-- the bands, and what stands beside them
unfoldable pub over_text : List Band → History → List ℕ
over_text bands history =
    stays_text bands history ++ (large_text (call_count history) bands history.large ++ addresses_text bands)

-- what stands below the bands
unfoldable pub below_text : List Band → History → List ℕ
below_text bands history =
    lanes_text (lanes_top bands) (call_count history) history.users
    ++ (curves_text (curves_top bands history) history.moments ++ refused_text (refused_top bands history) (call_count history) history.refused)

-- the drawing with these bands
unfoldable pub drawing_text : List Band → History → List ℕ
drawing_text bands history = ground_text bands history ++ (over_text bands history ++ below_text bands history)

-- the drawing of a run, and of one of no calls its title alone
unfoldable pub time_text : History → List ℕ
time_text history =
    if nat_eq (call_count history) 0 then title_text 0 else drawing_text (bands_of history.stays history.heap) history

-- how high it is
unfoldable pub time_height : History → ℕ
time_height history =
    if nat_eq (call_count history) 0 then 64 else calls_top (bands_of history.stays history.heap) history + calls_height (call_count history) history.lines + 12

-- The user's regions over a run: a lane for each of the six lowest addresses at which there are some.
use Rattle.std.specs.Prelude.{ℕ, zero, suc, ◌+◌, ◌-◌, ◌*◌, ◌^◌, max, Bool, ◌&&◌, nat_eq, nat_le, List, [], ◌∷◌, ◌++◌, length, codes, if◌then◌else◌}
use Rattle.heap_history.specs.declared.history.Mapping.{Mapping}
use Rattle.heap_history.specs.Columns.{x_of}
use Rattle.call_lines.specs.Written.{rights_word}
use Rattle.heap_map.specs.Words.{hexadecimal, commas, quantity}
use Rattle.heap_map.specs.Shapes.{text_at, rect, titled}
use Rattle.heap_curves.specs.Addresses.{least_start, all_addresses}

-- the number of pages, with their rights
unfoldable pub mapping_words : Mapping → List ℕ
mapping_words user = quantity (codes "page") user.region.pages ++ (codes " " ++ rights_word user.region.rights)

-- the label of a region
unfoldable pub label_words : Mapping → List ℕ
label_words user = mapping_words user ++ (if nat_eq user.large 0 then [] else codes ", " ++ (commas user.large ++ codes " large"))

-- when a region was there; calls are counted from 1
unfoldable pub when_words : Mapping → List ℕ
when_words user = codes ", from call " ++ (commas (user.born + 1) ++ (codes " to call " ++ commas user.end))

-- what is said of a region
unfoldable pub region_title : Mapping → List ℕ
region_title user = hexadecimal user.region.start ++ (codes " + " ++ (label_words user ++ when_words user))

-- the left and the right edge of a region, which is at least three pixels wide
abbrev pub region_left : ℕ → Mapping → ℕ
region_left calls user = x_of user.born calls

abbrev pub region_right : ℕ → Mapping → ℕ
region_right calls user = max (x_of user.end calls) (x_of user.born calls + 3)

abbrev pub region_width : ℕ → Mapping → ℕ
region_width calls user = region_right calls user - region_left calls user

-- the label in a region, if it has room
unfoldable pub region_label_text : ℕ → ℕ → Mapping → List ℕ
region_label_text calls y user =
    if nat_le (8 * length (label_words user) + 8) (region_width calls user) then text_at (codes "m in") (region_left calls user + 5) (y + 13) (label_words user) else []

-- the mark of a region that has large pages
unfoldable pub large_region_mark : ℕ → ℕ → Mapping → List ℕ
large_region_mark calls y user = if nat_eq user.large 0 then [] else rect (codes "l") (region_left calls user) y (region_width calls user) 3

-- a region in its lane
unfoldable pub region_text : ℕ → ℕ → Mapping → List ℕ
region_text calls y user =
    titled (codes "w") (region_left calls user) y (region_width calls user) 16 (region_title user)
    ++ (large_region_mark calls y user ++ region_label_text calls y user)

-- Whether a region is drawn in the lane of an address that is drawn up to a pixel: if three of its pixels are not drawn yet. So a lane has
-- few rectangles, however many short regions it has.
abbrev pub is_drawn : ℕ → ℕ → ℕ → Mapping → Bool
is_drawn calls start drawn user = nat_eq user.region.start start && nat_le (drawn + 3) (region_right calls user)

-- the regions of a lane that is drawn up to a pixel
abbrev pub lane_regions_text : ℕ → ℕ → ℕ → ℕ → List Mapping → List ℕ
lane_regions_text calls y start drawn [] = []
lane_regions_text calls y start drawn (user ∷ users) =
    if is_drawn calls start drawn user then region_text calls y user ++ lane_regions_text calls y start (region_right calls user) users
    else lane_regions_text calls y start drawn users

-- the ground of a lane, with its address
unfoldable pub lane_ground_text : ℕ → ℕ → List ℕ
lane_ground_text y start = text_at (codes "m e faint") 134 (y + 12) (hexadecimal start) ++ rect (codes "panel") 144 y 1024 16

-- a lane
unfoldable pub lane_text : ℕ → ℕ → ℕ → List Mapping → List ℕ
lane_text calls y start users = lane_ground_text y start ++ lane_regions_text calls y start 0 users

-- the addresses that have no lane
unfoldable pub addresses_word : ℕ → List ℕ
addresses_word more = if nat_eq more 1 then codes " more address" else codes " more addresses"

unfoldable pub more_addresses_words : ℕ → List ℕ
more_addresses_words more = codes "and " ++ (commas more ++ addresses_word more)

-- those from one on, if there are some
unfoldable pub more_addresses_text : ℕ → ℕ → List Mapping → List ℕ
more_addresses_text y low users = if nat_eq (least_start low users) (2 ^ 64) then [] else text_at (codes "faint") 149 (y + 12) (more_addresses_words (all_addresses low users))

-- lanes up to a limit, one below the other, and then what has none
abbrev pub lanes_from : ℕ → ℕ → ℕ → ℕ → List Mapping → List ℕ
lanes_from zero calls y low users = more_addresses_text y low users
lanes_from (suc lanes) calls y low users =
    if nat_eq (least_start low users) (2 ^ 64) then []
    else lane_text calls y (least_start low users) users ++ lanes_from lanes calls (y + 19) (least_start low users + 1) users

-- all lanes
unfoldable pub lanes_text : ℕ → ℕ → List Mapping → List ℕ
lanes_text y calls users = lanes_from 6 calls y 0 users

-- their height: 19 for each line
abbrev pub height_from : ℕ → ℕ → List Mapping → ℕ
height_from zero low users = if nat_eq (least_start low users) (2 ^ 64) then 0 else 19
height_from (suc lanes) low users =
    if nat_eq (least_start low users) (2 ^ 64) then 0 else 19 + height_from lanes (least_start low users + 1) users

-- the pixels that the lanes of the users' regions take: 19 each, and at most six lanes
unfoldable pub lanes_height : List Mapping → ℕ
lanes_height users = height_from 6 0 users

-- The regions of the user, as calls map and unmap them.
use Rattle.std.specs.Prelude.{◌≡◌, ℕ, Bool, true, ◌&&◌, nat_eq, if◌then◌else◌, List, [], ◌∷◌, ◌++◌, map, find, slice_get, Option, Some, None}
use Rattle.std.specs.BTreeMap.{BTreeMap, get}
use Rattle.std.specs.Ordering.{nat_cmp}
use Rattle.heap_history.specs.declared.history.Mapping.{Mapping}
use Rattle.machine_model.specs.declared.region.Region.{Region}

-- whether a region is still mapped: it has no end yet
abbrev pub is_mapped : Mapping → Bool
is_mapped mapping = nat_eq mapping.end 0

-- whether it is mapped from an address on
abbrev pub is_mapped_from : ℕ → Mapping → Bool
is_mapped_from start mapping = is_mapped mapping && nat_eq mapping.region.start start

-- a region that a call maps, with its number of large pages
abbrev pub new_mapping : ℕ → Region → ℕ → Mapping
new_mapping call region large = record { region = region; large = large; born = call; end = 0 }

-- one that a call unmaps
abbrev pub ended : ℕ → Mapping → Mapping
ended call mapping = record { region = mapping.region; large = mapping.large; born = mapping.born; end = call }

-- the regions with one more, which begins if none is mapped from its start on
abbrev pub mapped_from : ℕ → Region → ℕ → Option Mapping → List Mapping → List Mapping
mapped_from call region large None mappings = mappings ++ new_mapping call region large ∷ []
mapped_from call region large (Some mapping) mappings = mappings

-- the user's regions over the calls, with one that this call mapped
abbrev pub with_mapping : ℕ → Region → ℕ → List Mapping → List Mapping
with_mapping call region large mappings = mapped_from call region large (find (is_mapped_from region.start) mappings) mappings

-- the region that has just these pages ends
abbrev pub unmapped_if : ℕ → ℕ → ℕ → Mapping → Mapping
unmapped_if call start pages mapping = if is_mapped_from start mapping && nat_eq mapping.region.pages pages then ended call mapping else mapping

-- the user's regions over the calls, of which this call unmapped the one that has exactly these pages
abbrev pub with_mapping_ended : ℕ → ℕ → ℕ → List Mapping → List Mapping
with_mapping_ended call start pages mappings = map (unmapped_if call start pages) mappings

-- a region of a run of `calls` calls: one that is still mapped ends with them
abbrev pub closed_mapping : ℕ → Mapping → Mapping
closed_mapping calls mapping = if is_mapped mapping then ended calls mapping else mapping

-- the regions of a run of `calls` calls
abbrev pub mappings_at_end : ℕ → List Mapping → List Mapping
mappings_at_end calls mappings = map (closed_mapping calls) mappings

-- by the start of each region that is still mapped its place is found
abbrev pub ArePlacesByStart : List Mapping → BTreeMap ℕ ℕ → Type 0
ArePlacesByStart mappings places = (k : ℕ) (mapping : Mapping) → slice_get mappings k ≡ Some mapping → is_mapped mapping ≡ true → get nat_cmp places mapping.region.start ≡ Some k

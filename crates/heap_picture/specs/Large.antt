-- The slots of a region that are large pages.
use Rattle.std.specs.Prelude.{ℕ, zero, suc, ◌+◌, ◌-◌, ◌*◌, ◌/◌, List, if◌then◌else◌}
use Rattle.machine_model.specs.declared.region.Region.{Region}
use Rattle.machine_model.specs.State.{end_of_region}
use Rattle.machine_model.specs.Slots.{has_slot}

-- how many of this many slots from an address on are large pages
unfoldable pub larges_from : List ℕ → ℕ → ℕ → ℕ
larges_from large start zero = 0
larges_from large start (suc slots) = larges_from large start slots + (if has_slot large (start + 2097152 * slots) then 1 else 0)

-- the first slot at or behind an address
abbrev pub first_slot : ℕ → ℕ
first_slot start = (start + 2097151) / 2097152 * 2097152

-- how many slots lie whole between two addresses
abbrev pub slots_between : ℕ → ℕ → ℕ
slots_between start end = (end - start) / 2097152

-- how many slots of a region are large pages
unfoldable pub larges_in : List ℕ → Region → ℕ
larges_in large region = larges_from large (first_slot region.start) (slots_between (first_slot region.start) (end_of_region region))

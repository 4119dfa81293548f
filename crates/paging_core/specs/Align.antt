-- Multiples of an alignment near an address.
use Rattle.std.specs.Prelude.{ℕ, ◌+◌, ◌-◌, ◌*◌, ◌/◌}

-- the greatest multiple that is at most the address
abbrev pub aligned_down : ℕ → ℕ → ℕ
aligned_down address align = address / align * align

-- the least multiple that is at least the address
abbrev pub aligned_up : ℕ → ℕ → ℕ
aligned_up address align = aligned_down (address + (align - 1)) align

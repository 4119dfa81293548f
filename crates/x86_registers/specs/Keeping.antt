-- Writing some bits of a register and keeping all others.
use Rattle.std.specs.Prelude.{ℕ, ◌+◌, ◌-◌, ◌==◌, if◌then◌else◌}
use Rattle.std.specs.Int.{bit_at}
use Rattle.std.specs.Int.RustNames.{bit_and}

-- the old number, with the bits of the mask taken from the value
abbrev pub keeping : ℕ → ℕ → ℕ → ℕ
keeping mask old value = old - bit_and old mask + bit_and value mask

-- the bit at this place: the value's if the mask has it, and else the old number's
abbrev pub kept_bit : ℕ → ℕ → ℕ → ℕ → ℕ
kept_bit mask old value at = if bit_at mask at == 1 then bit_at value at else bit_at old at

-- The fields of the debug control register DR7 (AMD64 manual, volume 2, section 13.1.1).
use Rattle.std.specs.Prelude.{ℕ, ◌+◌, ◌-◌, ◌*◌, ◌/◌, ◌%◌, ◌^◌, ◌≡◌}
use Rattle.std.specs.Int.RustNames.{bit_and, bit_or}
use Rattle.bitflags.specs.Sets.{known_bits}
use Rattle.x86_flags.specs.Dr7Flags.{dr7_flags}

-- the bits of the flags, and the bits 16 to 31, where the conditions and sizes are
abbrev pub dr7_valid : ℕ
dr7_valid = bit_or (known_bits dr7_flags) (2 ^ 32 - 2 ^ 16)

-- no other bit is set
abbrev pub IsDr7 : ℕ → Type 0
IsDr7 bits = bit_and bits dr7_valid ≡ bits

-- the two bits from this place on
abbrev pub field_at : ℕ → ℕ → ℕ
field_at bits at = bits / 2 ^ at % 4

-- the two bits from this place on become the value, and all others stay
abbrev pub with_field : ℕ → ℕ → ℕ → ℕ
with_field bits at value = (bits / 2 ^ (at + 2) * 4 + value) * 2 ^ at + bits % 2 ^ at

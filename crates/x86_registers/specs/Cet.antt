-- The registers of control-flow enforcement (AMD64 manual, volume 2, chapter 18, and Intel's).
use Rattle.std.specs.Prelude.{ℕ, ◌≡◌, ◌/◌}
use Rattle.std.specs.Int.RustNames.{bit_and}
use Rattle.bitflags.specs.Sets.{known_bits}
use Rattle.x86_flags.specs.CetFlags.{cet_bits, cet_flags}
use Rattle.x86_flags.specs.declared.cet_flags.CetFlags.{CetFlags}

-- what the bits of such a register say: its flags, and the page of its bitmap
abbrev pub IsCet : ℕ → CetFlags × ℕ → Type 0
IsCet bits (flags, page) = (cet_bits flags ≡ bit_and bits (known_bits cet_flags)) × (page ≡ bits / 4096)

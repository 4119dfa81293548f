-- The flags of the APIC base register (AMD64 manual, volume 2, section 16.3.1).
use Rattle.std.specs.Prelude.{ℕ, ◌^◌, List, [], ◌∷◌, codes}
use Rattle.bitflags.specs.Sets.{Row}
use Rattle.x86_flags.specs.declared.apic_base_flags.ApicBaseFlags.{ApicBaseFlags}

-- the bits of a value, as a number
abbrev pub apic_base_bits : ApicBaseFlags → ℕ
apic_base_bits flags = flags.0

-- the name and the bits of each flag
abbrev pub apic_base_flags : List Row
apic_base_flags =
    (codes "BSP", 2 ^ 8)
    ∷ (codes "X2APIC_ENABLE", 2 ^ 10)
    ∷ (codes "LAPIC_ENABLE", 2 ^ 11)
    ∷ []

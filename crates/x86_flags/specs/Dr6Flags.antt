-- The flags of the debug status register DR6 (AMD64 manual, volume 2, section 13.1.1).
use Rattle.std.specs.Prelude.{ℕ, ◌+◌, ◌^◌, List, [], ◌∷◌, codes}
use Rattle.bitflags.specs.Sets.{Row}
use Rattle.x86_flags.specs.declared.dr6_flags.Dr6Flags.{Dr6Flags}

-- the bits of a value, as a number
abbrev pub dr6_bits : Dr6Flags → ℕ
dr6_bits flags = flags.0

-- the name and the bits of each flag
abbrev pub dr6_flags : List Row
dr6_flags =
    (codes "TRAP0", 2 ^ 0)
    ∷ (codes "TRAP1", 2 ^ 1)
    ∷ (codes "TRAP2", 2 ^ 2)
    ∷ (codes "TRAP3", 2 ^ 3)
    ∷ (codes "TRAP", 2 ^ 0 + 2 ^ 1 + 2 ^ 2 + 2 ^ 3)
    ∷ (codes "ACCESS_DETECTED", 2 ^ 13)
    ∷ (codes "STEP", 2 ^ 14)
    ∷ (codes "SWITCH", 2 ^ 15)
    ∷ (codes "RTM", 2 ^ 16)
    ∷ []

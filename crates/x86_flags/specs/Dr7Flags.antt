-- The flags of the debug control register DR7 (AMD64 manual, volume 2, section 13.1.1).
use Rattle.std.specs.Prelude.{ℕ, ◌^◌, List, [], ◌∷◌, codes}
use Rattle.bitflags.specs.Sets.{Row}
use Rattle.x86_flags.specs.declared.dr7_flags.Dr7Flags.{Dr7Flags}

-- the bits of a value, as a number
abbrev pub dr7_bits : Dr7Flags → ℕ
dr7_bits flags = flags.0

-- the name and the bits of each flag
abbrev pub dr7_flags : List Row
dr7_flags =
    (codes "LOCAL_BREAKPOINT_0_ENABLE", 2 ^ 0)
    ∷ (codes "LOCAL_BREAKPOINT_1_ENABLE", 2 ^ 2)
    ∷ (codes "LOCAL_BREAKPOINT_2_ENABLE", 2 ^ 4)
    ∷ (codes "LOCAL_BREAKPOINT_3_ENABLE", 2 ^ 6)
    ∷ (codes "GLOBAL_BREAKPOINT_0_ENABLE", 2 ^ 1)
    ∷ (codes "GLOBAL_BREAKPOINT_1_ENABLE", 2 ^ 3)
    ∷ (codes "GLOBAL_BREAKPOINT_2_ENABLE", 2 ^ 5)
    ∷ (codes "GLOBAL_BREAKPOINT_3_ENABLE", 2 ^ 7)
    ∷ (codes "LOCAL_EXACT_BREAKPOINT_ENABLE", 2 ^ 8)
    ∷ (codes "GLOBAL_EXACT_BREAKPOINT_ENABLE", 2 ^ 9)
    ∷ (codes "RESTRICTED_TRANSACTIONAL_MEMORY", 2 ^ 11)
    ∷ (codes "GENERAL_DETECT_ENABLE", 2 ^ 13)
    ∷ []

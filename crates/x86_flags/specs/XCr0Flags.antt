-- The flags of the extended control register XCR0 (AMD64 manual, volume 2, section 11.5.2).
use Rattle.std.specs.Prelude.{ℕ, ◌^◌, List, [], ◌∷◌, codes}
use Rattle.bitflags.specs.Sets.{Row}
use Rattle.x86_flags.specs.declared.xcr0_flags.XCr0Flags.{XCr0Flags}

-- the bits of a value, as a number
abbrev pub xcr0_bits : XCr0Flags → ℕ
xcr0_bits flags = flags.0

-- the name and the bits of each flag
abbrev pub xcr0_flags : List Row
xcr0_flags =
    (codes "X87", 2 ^ 0)
    ∷ (codes "SSE", 2 ^ 1)
    ∷ (codes "AVX", 2 ^ 2)
    ∷ (codes "BNDREG", 2 ^ 3)
    ∷ (codes "BNDCSR", 2 ^ 4)
    ∷ (codes "OPMASK", 2 ^ 5)
    ∷ (codes "ZMM_HI256", 2 ^ 6)
    ∷ (codes "HI16_ZMM", 2 ^ 7)
    ∷ (codes "MPK", 2 ^ 9)
    ∷ (codes "LWP", 2 ^ 62)
    ∷ []

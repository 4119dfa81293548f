-- The flags of the control register CR3 (AMD64 manual, volume 2, section 3.1.2).
use Rattle.std.specs.Prelude.{ℕ, ◌^◌, List, [], ◌∷◌, codes}
use Rattle.bitflags.specs.Sets.{Row}
use Rattle.x86_flags.specs.declared.cr3_flags.Cr3Flags.{Cr3Flags}

-- the bits of a value, as a number
abbrev pub cr3_bits : Cr3Flags → ℕ
cr3_bits flags = flags.0

-- the name and the bits of each flag
abbrev pub cr3_flags : List Row
cr3_flags =
    (codes "PAGE_LEVEL_WRITETHROUGH", 2 ^ 3)
    ∷ (codes "PAGE_LEVEL_CACHE_DISABLE", 2 ^ 4)
    ∷ []

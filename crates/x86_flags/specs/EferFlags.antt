-- The flags of the extended feature enable register (AMD64 manual, volume 2, section 3.1.7).
use Rattle.std.specs.Prelude.{ℕ, ◌^◌, List, [], ◌∷◌, codes}
use Rattle.bitflags.specs.Sets.{Row}
use Rattle.x86_flags.specs.declared.efer_flags.EferFlags.{EferFlags}

-- the bits of a value, as a number
abbrev pub efer_bits : EferFlags → ℕ
efer_bits flags = flags.0

-- the name and the bits of each flag
abbrev pub efer_flags : List Row
efer_flags =
    (codes "SYSTEM_CALL_EXTENSIONS", 2 ^ 0)
    ∷ (codes "LONG_MODE_ENABLE", 2 ^ 8)
    ∷ (codes "LONG_MODE_ACTIVE", 2 ^ 10)
    ∷ (codes "NO_EXECUTE_ENABLE", 2 ^ 11)
    ∷ (codes "SECURE_VIRTUAL_MACHINE_ENABLE", 2 ^ 12)
    ∷ (codes "LONG_MODE_SEGMENT_LIMIT_ENABLE", 2 ^ 13)
    ∷ (codes "FAST_FXSAVE_FXRSTOR", 2 ^ 14)
    ∷ (codes "TRANSLATION_CACHE_EXTENSION", 2 ^ 15)
    ∷ []

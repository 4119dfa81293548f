-- The flags of the registers U_CET and S_CET of control-flow enforcement (AMD64 manual, volume 2, chapter 18, for the shadow stack; the rest is Intel's alone).
use Rattle.std.specs.Prelude.{ℕ, ◌^◌, List, [], ◌∷◌, codes}
use Rattle.bitflags.specs.Sets.{Row}
use Rattle.x86_flags.specs.declared.cet_flags.CetFlags.{CetFlags}

-- the bits of a value, as a number
abbrev pub cet_bits : CetFlags → ℕ
cet_bits flags = flags.0

-- the name and the bits of each flag
abbrev pub cet_flags : List Row
cet_flags =
    (codes "SS_ENABLE", 2 ^ 0)
    ∷ (codes "SS_WRITE_ENABLE", 2 ^ 1)
    ∷ (codes "IBT_ENABLE", 2 ^ 2)
    ∷ (codes "IBT_LEGACY_ENABLE", 2 ^ 3)
    ∷ (codes "IBT_NO_TRACK_ENABLE", 2 ^ 4)
    ∷ (codes "IBT_LEGACY_SUPPRESS_ENABLE", 2 ^ 5)
    ∷ (codes "IBT_SUPPRESS_ENABLE", 2 ^ 10)
    ∷ (codes "IBT_TRACKED", 2 ^ 11)
    ∷ []

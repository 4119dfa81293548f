-- The flags of the control register CR0 (AMD64 manual, volume 2, section 3.1.1).
use Rattle.std.specs.Prelude.{ℕ, ◌^◌, List, [], ◌∷◌, codes}
use Rattle.bitflags.specs.Sets.{Row}
use Rattle.x86_flags.specs.declared.cr0_flags.Cr0Flags.{Cr0Flags}

-- the bits of a value, as a number
abbrev pub cr0_bits : Cr0Flags → ℕ
cr0_bits flags = flags.0

-- the name and the bits of each flag
abbrev pub cr0_flags : List Row
cr0_flags =
    (codes "PROTECTED_MODE_ENABLE", 2 ^ 0)
    ∷ (codes "MONITOR_COPROCESSOR", 2 ^ 1)
    ∷ (codes "EMULATE_COPROCESSOR", 2 ^ 2)
    ∷ (codes "TASK_SWITCHED", 2 ^ 3)
    ∷ (codes "EXTENSION_TYPE", 2 ^ 4)
    ∷ (codes "NUMERIC_ERROR", 2 ^ 5)
    ∷ (codes "WRITE_PROTECT", 2 ^ 16)
    ∷ (codes "ALIGNMENT_MASK", 2 ^ 18)
    ∷ (codes "NOT_WRITE_THROUGH", 2 ^ 29)
    ∷ (codes "CACHE_DISABLE", 2 ^ 30)
    ∷ (codes "PAGING", 2 ^ 31)
    ∷ []

-- The flags of the flags register RFLAGS (AMD64 manual, volume 2, section 3.1.6).
use Rattle.std.specs.Prelude.{ℕ, ◌^◌, List, [], ◌∷◌, codes}
use Rattle.bitflags.specs.Sets.{Row}
use Rattle.x86_flags.specs.declared.rflags.RFlags.{RFlags}

-- the bits of a value, as a number
abbrev pub rflags_bits : RFlags → ℕ
rflags_bits flags = flags.0

-- the name and the bits of each flag
abbrev pub rflags_flags : List Row
rflags_flags =
    (codes "CARRY_FLAG", 2 ^ 0)
    ∷ (codes "PARITY_FLAG", 2 ^ 2)
    ∷ (codes "AUXILIARY_CARRY_FLAG", 2 ^ 4)
    ∷ (codes "ZERO_FLAG", 2 ^ 6)
    ∷ (codes "SIGN_FLAG", 2 ^ 7)
    ∷ (codes "TRAP_FLAG", 2 ^ 8)
    ∷ (codes "INTERRUPT_FLAG", 2 ^ 9)
    ∷ (codes "DIRECTION_FLAG", 2 ^ 10)
    ∷ (codes "OVERFLOW_FLAG", 2 ^ 11)
    ∷ (codes "IOPL_LOW", 2 ^ 12)
    ∷ (codes "IOPL_HIGH", 2 ^ 13)
    ∷ (codes "NESTED_TASK", 2 ^ 14)
    ∷ (codes "RESUME_FLAG", 2 ^ 16)
    ∷ (codes "VIRTUAL_8086_MODE", 2 ^ 17)
    ∷ (codes "ALIGNMENT_CHECK", 2 ^ 18)
    ∷ (codes "VIRTUAL_INTERRUPT", 2 ^ 19)
    ∷ (codes "VIRTUAL_INTERRUPT_PENDING", 2 ^ 20)
    ∷ (codes "ID", 2 ^ 21)
    ∷ []

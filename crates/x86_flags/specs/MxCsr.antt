-- The flags of the SIMD control and status register MXCSR (AMD64 manual, volume 1, section 4.2.2).
use Rattle.std.specs.Prelude.{ℕ, ◌+◌, ◌^◌, List, [], ◌∷◌, codes}
use Rattle.bitflags.specs.Sets.{Row}
use Rattle.x86_flags.specs.declared.mxcsr.MxCsr.{MxCsr}

-- the bits of a value, as a number
abbrev pub mxcsr_bits : MxCsr → ℕ
mxcsr_bits flags = flags.0

-- the name and the bits of each flag
abbrev pub mxcsr_flags : List Row
mxcsr_flags =
    (codes "INVALID_OPERATION", 2 ^ 0)
    ∷ (codes "DENORMAL", 2 ^ 1)
    ∷ (codes "DIVIDE_BY_ZERO", 2 ^ 2)
    ∷ (codes "OVERFLOW", 2 ^ 3)
    ∷ (codes "UNDERFLOW", 2 ^ 4)
    ∷ (codes "PRECISION", 2 ^ 5)
    ∷ (codes "DENORMALS_ARE_ZEROS", 2 ^ 6)
    ∷ (codes "INVALID_OPERATION_MASK", 2 ^ 7)
    ∷ (codes "DENORMAL_MASK", 2 ^ 8)
    ∷ (codes "DIVIDE_BY_ZERO_MASK", 2 ^ 9)
    ∷ (codes "OVERFLOW_MASK", 2 ^ 10)
    ∷ (codes "UNDERFLOW_MASK", 2 ^ 11)
    ∷ (codes "PRECISION_MASK", 2 ^ 12)
    ∷ (codes "ROUNDING_CONTROL_NEGATIVE", 2 ^ 13)
    ∷ (codes "ROUNDING_CONTROL_POSITIVE", 2 ^ 14)
    ∷ (codes "ROUNDING_CONTROL_ZERO", 2 ^ 13 + 2 ^ 14)
    ∷ (codes "FLUSH_TO_ZERO", 2 ^ 15)
    ∷ []

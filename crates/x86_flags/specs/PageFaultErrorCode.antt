-- The error code of a page fault (AMD64 manual, volume 2, section 8.4.2; HLAT and SGX are Intel's).
use Rattle.std.specs.Prelude.{ℕ, ◌^◌, List, [], ◌∷◌, codes}
use Rattle.bitflags.specs.Sets.{Row}
use Rattle.x86_flags.specs.declared.page_fault_error_code.PageFaultErrorCode.{PageFaultErrorCode}

-- the bits of a value, as a number
abbrev pub page_fault_bits : PageFaultErrorCode → ℕ
page_fault_bits flags = flags.0

-- the name and the bits of each flag
abbrev pub page_fault_flags : List Row
page_fault_flags =
    (codes "PROTECTION_VIOLATION", 2 ^ 0)
    ∷ (codes "CAUSED_BY_WRITE", 2 ^ 1)
    ∷ (codes "USER_MODE", 2 ^ 2)
    ∷ (codes "MALFORMED_TABLE", 2 ^ 3)
    ∷ (codes "INSTRUCTION_FETCH", 2 ^ 4)
    ∷ (codes "PROTECTION_KEY", 2 ^ 5)
    ∷ (codes "SHADOW_STACK", 2 ^ 6)
    ∷ (codes "HLAT", 2 ^ 7)
    ∷ (codes "SGX", 2 ^ 15)
    ∷ (codes "RMP", 2 ^ 31)
    ∷ []

-- The flags of the control register CR4 (AMD64 manual, volume 2, section 3.1.3).
use Rattle.std.specs.Prelude.{ℕ, ◌^◌, List, [], ◌∷◌, codes}
use Rattle.bitflags.specs.Sets.{Row}
use Rattle.x86_flags.specs.declared.cr4_flags.Cr4Flags.{Cr4Flags}

-- the bits of a value, as a number
abbrev pub cr4_bits : Cr4Flags → ℕ
cr4_bits flags = flags.0

-- the name and the bits of each flag
abbrev pub cr4_flags : List Row
cr4_flags =
    (codes "VIRTUAL_8086_MODE_EXTENSIONS", 2 ^ 0)
    ∷ (codes "PROTECTED_MODE_VIRTUAL_INTERRUPTS", 2 ^ 1)
    ∷ (codes "TIMESTAMP_DISABLE", 2 ^ 2)
    ∷ (codes "DEBUGGING_EXTENSIONS", 2 ^ 3)
    ∷ (codes "PAGE_SIZE_EXTENSION", 2 ^ 4)
    ∷ (codes "PHYSICAL_ADDRESS_EXTENSION", 2 ^ 5)
    ∷ (codes "MACHINE_CHECK_EXCEPTION", 2 ^ 6)
    ∷ (codes "PAGE_GLOBAL", 2 ^ 7)
    ∷ (codes "PERFORMANCE_MONITOR_COUNTER", 2 ^ 8)
    ∷ (codes "OSFXSR", 2 ^ 9)
    ∷ (codes "OSXMMEXCPT_ENABLE", 2 ^ 10)
    ∷ (codes "USER_MODE_INSTRUCTION_PREVENTION", 2 ^ 11)
    ∷ (codes "L5_PAGING", 2 ^ 12)
    ∷ (codes "VIRTUAL_MACHINE_EXTENSIONS", 2 ^ 13)
    ∷ (codes "SAFER_MODE_EXTENSIONS", 2 ^ 14)
    ∷ (codes "FSGSBASE", 2 ^ 16)
    ∷ (codes "PCID", 2 ^ 17)
    ∷ (codes "OSXSAVE", 2 ^ 18)
    ∷ (codes "KEY_LOCKER", 2 ^ 19)
    ∷ (codes "SUPERVISOR_MODE_EXECUTION_PROTECTION", 2 ^ 20)
    ∷ (codes "SUPERVISOR_MODE_ACCESS_PREVENTION", 2 ^ 21)
    ∷ (codes "PROTECTION_KEY_USER", 2 ^ 22)
    ∷ (codes "CONTROL_FLOW_ENFORCEMENT", 2 ^ 23)
    ∷ (codes "PROTECTION_KEY_SUPERVISOR", 2 ^ 24)
    ∷ []

-- The flags and fields of a segment descriptor (AMD64 manual, volume 2, sections 4.7.1 and 4.8).
use Rattle.std.specs.Prelude.{ℕ, ◌+◌, ◌-◌, ◌^◌, List, [], ◌∷◌, codes}
use Rattle.bitflags.specs.Sets.{Row}
use Rattle.x86_tables.specs.declared.gdt.descriptor_flags.DescriptorFlags.{DescriptorFlags}

-- the bits of a value, as a number
abbrev pub descriptor_bits : DescriptorFlags → ℕ
descriptor_bits flags = flags.0

-- the name and the bits of each flag
abbrev pub descriptor_flags : List Row
descriptor_flags =
    (codes "ACCESSED", 2 ^ 40)
    ∷ (codes "WRITABLE", 2 ^ 41)
    ∷ (codes "CONFORMING", 2 ^ 42)
    ∷ (codes "EXECUTABLE", 2 ^ 43)
    ∷ (codes "USER_SEGMENT", 2 ^ 44)
    ∷ (codes "DPL_RING_3", 2 ^ 45 + 2 ^ 46)
    ∷ (codes "PRESENT", 2 ^ 47)
    ∷ (codes "AVAILABLE", 2 ^ 52)
    ∷ (codes "LONG_MODE", 2 ^ 53)
    ∷ (codes "DEFAULT_SIZE", 2 ^ 54)
    ∷ (codes "GRANULARITY", 2 ^ 55)
    ∷ (codes "LIMIT_0_15", 2 ^ 16 - 2 ^ 0)
    ∷ (codes "LIMIT_16_19", 2 ^ 52 - 2 ^ 48)
    ∷ (codes "BASE_0_23", 2 ^ 40 - 2 ^ 16)
    ∷ (codes "BASE_24_31", 2 ^ 64 - 2 ^ 56)
    ∷ []

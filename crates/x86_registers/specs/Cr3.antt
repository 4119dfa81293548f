-- The control register CR3 (AMD64 manual, volume 2, sections 3.1.2 and 5.5.1).
use Rattle.std.specs.Prelude.{ℕ, ◌≡◌, ◌*◌}
use Rattle.std.specs.Int.RustNames.{bit_and, bit_or}
use Rattle.bitflags.specs.Sets.{known_bits}
use Rattle.paging_core.specs.Field.{field_of}
use Rattle.x86_flags.specs.Cr3Flags.{cr3_bits, cr3_flags}
use Rattle.x86_flags.specs.declared.cr3_flags.Cr3Flags.{Cr3Flags}

-- the frame of the top page table, bits 12 to 51
abbrev pub root_of : ℕ → ℕ
root_of cr3 = field_of cr3 12 52

-- the identifier of the address space, bits 0 to 11
abbrev pub pcid_of : ℕ → ℕ
pcid_of cr3 = field_of cr3 0 12

-- the frame and the flags that are set
abbrev pub HasFlags : ℕ → ℕ × Cr3Flags → Type 0
HasFlags cr3 (frame, flags) = (frame ≡ root_of cr3) × (cr3_bits flags ≡ bit_and cr3 (known_bits cr3_flags))

-- the frame and the identifier
abbrev pub HasPcid : ℕ → ℕ × ℕ → Type 0
HasPcid cr3 (frame, pcid) = (frame ≡ root_of cr3) × (pcid ≡ pcid_of cr3)

-- the frame's address, joined bit by bit with the low bits
abbrev pub cr3_word : ℕ → ℕ → ℕ
cr3_word frame low = bit_or (frame * 4096) low

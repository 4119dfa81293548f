-- Segment descriptors (AMD64 manual, volume 2, section 4.8).
use Rattle.std.specs.Prelude.{ℕ, ◌+◌, ◌-◌, ◌*◌, ◌^◌, max, List, [], ◌∷◌, length}
use Rattle.paging_core.specs.Field.{field_of}
use Rattle.x86_tables.specs.declared.gdt.descriptor.Descriptor.{Descriptor}
use Rattle.x86_tables.specs.declared.gdt.descriptor.Descriptor.TheVariants.{UserSegment, SystemSegment}

-- the words that a descriptor takes in its table, the low one first: a system segment takes two (section 4.8.3)
abbrev pub descriptor_words : Descriptor → List ℕ
descriptor_words (UserSegment word) = word ∷ []
descriptor_words (SystemSegment low high) = low ∷ high ∷ []

-- the field DPL: bits 45 and 46 of the low word (section 4.7.1)
abbrev pub level_of : Descriptor → ℕ
level_of (UserSegment word) = field_of word 45 47
level_of (SystemSegment low high) = field_of low 45 47

-- where a task state segment ends: it has 104 bytes and maybe an I/O permission map (section 12.2.5)
abbrev pub tss_end : ℕ → List ℕ → ℕ
tss_end iomap_base iomap = max 104 (iomap_base + length iomap)

-- the descriptor of a 64-bit task state segment (section 4.8.3): the offset of its last byte in bits 0 to 15, bits
-- 0 to 23 of its address in bits 16 to 39, the type 9 (available) in bits 40 to 43, the present bit 47, bits 24 to
-- 31 of the address in bits 56 to 63, and bits 32 to 63 of the address in the low half of the high word
abbrev pub tss_descriptor : ℕ → ℕ → Descriptor
tss_descriptor address end =
    SystemSegment
    (end - 1 + field_of address 0 24 * 2 ^ 16 + 9 * 2 ^ 40 + 2 ^ 47 + field_of address 24 32 * 2 ^ 56)
    (field_of address 32 64)

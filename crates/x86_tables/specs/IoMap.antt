-- The I/O permission map of a task state segment (AMD64 manual, volume 2, section 12.2.5).
use Rattle.std.specs.Prelude.{ℕ, ◌-◌, List, length, slice_index_or, not, ◌==◌, nat_lt, if◌then◌else◌, Result, Ok, Err}
use Rattle.x86_tables.specs.Descriptor.{tss_descriptor, tss_end}
use Rattle.x86_tables.specs.declared.gdt.descriptor.Descriptor.{Descriptor}
use Rattle.x86_tables.specs.declared.tss.InvalidIoMap.{InvalidIoMap}
use Rattle.x86_tables.specs.declared.tss.InvalidIoMap.TheVariants.{IoMapBeforeTss, TooFarFromTss, InvalidTerminatingByte, TooLong, InvalidBase}

-- the byte that ends the map; an empty map needs none
abbrev pub last_byte : List ℕ → ℕ
last_byte iomap = slice_index_or iomap (length iomap - 1) 0xff

-- the segment's descriptor, or the first rule that the map breaks
abbrev pub iomap_verdict : ℕ → ℕ → ℕ → List ℕ → Result Descriptor InvalidIoMap
iomap_verdict tss_at iomap_base iomap_at iomap =
    if nat_lt 8193 (length iomap) then Err (TooLong (length iomap))
    else if nat_lt iomap_at tss_at then Err IoMapBeforeTss
    else if nat_lt 0xdfff (iomap_at - tss_at) then Err (TooFarFromTss (iomap_at - tss_at))
    else if not (last_byte iomap == 0xff) then Err (InvalidTerminatingByte (last_byte iomap))
    else if not (iomap_base == iomap_at - tss_at) then Err (InvalidBase (iomap_at - tss_at) iomap_base)
    else Ok (tss_descriptor tss_at (tss_end iomap_base iomap))

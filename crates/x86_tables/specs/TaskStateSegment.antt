-- The 64-bit task state segment (AMD64 manual, volume 2, section 12.2.5).
use Rattle.std.specs.Prelude.{ℕ, List, ◌++◌, replicate}
use Rattle.std.specs.List.{flat_map}
use Rattle.std.specs.Int.{to_le_bytes, w16, w64}
use Rattle.x86_tables.specs.declared.tss.TaskStateSegment.{TaskStateSegment}

-- no stacks, and the place of the I/O permission map past the segment's 104 bytes
abbrev pub new_tss : TaskStateSegment
new_tss = record {
  privilege_stack_table = replicate 3 0;
  interrupt_stack_table = replicate 7 0;
  iomap_base = 0x68;
}

-- addresses one after the other, low bytes first
abbrev pub address_bytes : List ℕ → List ℕ
address_bytes = flat_map (to_le_bytes w64)

-- the stacks RSP0 to RSP2 from byte 4 on, IST1 to IST7 from byte 36 on, and the place of the map at byte 102; all
-- other bytes are reserved, and 0
abbrev pub tss_bytes : TaskStateSegment → List ℕ
tss_bytes tss =
    replicate 4 0
    ++ address_bytes tss.privilege_stack_table
    ++ replicate 8 0
    ++ address_bytes tss.interrupt_stack_table
    ++ replicate 10 0
    ++ to_le_bytes w16 tss.iomap_base

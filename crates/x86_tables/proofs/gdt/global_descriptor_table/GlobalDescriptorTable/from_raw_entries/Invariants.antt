use Rattle.std.proofs.Common.{◌≡◌, take}
use Rattle.x86_tables.proofs.gdt.global_descriptor_table.GlobalDescriptorTable.from_raw_entries.Given as goal

abbrev pub invariant-loop-word : goal.invariant-loop-word
invariant-loop-word g l = l.table.items ≡ take l.word-index l.slice

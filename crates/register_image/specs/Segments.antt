-- A global descriptor table, and a task state segment.
use Rattle.std.specs.Prelude.{ℕ, List, [], ◌∷◌, ◌++◌, ◌+◌, ◌*◌, ◌-◌, Result, Ok, Err, codes, length}
use Rattle.std.specs.Int.{to_le_bytes, w16, w64}
use Rattle.paging_core.specs.Field.{field_of}
use Rattle.x86_tables.specs.Descriptor.{level_of, descriptor_words}
use Rattle.x86_tables.specs.IoMap.{iomap_verdict}
use Rattle.x86_tables.specs.TaskStateSegment.{tss_bytes}
use Rattle.x86_tables.specs.declared.gdt.descriptor.Descriptor.{Descriptor}
use Rattle.x86_tables.specs.declared.tss.InvalidIoMap.{InvalidIoMap}
use Rattle.x86_tables.specs.declared.tss.TaskStateSegment.{TaskStateSegment}
use Rattle.register_image.specs.Numbers.{line}

-- the null descriptor, code and data of a kernel, data and code of its users, a descriptor that is given, and one of a task
-- state segment
unfoldable pub words : ℕ → Descriptor → List ℕ
words given task =
    0 ∷ 0x00af9b000000ffff ∷ 0x00cf93000000ffff ∷ 0x00cff3000000ffff ∷ 0x00affb000000ffff ∷ given ∷ descriptor_words task

-- their selectors: each by the place of the descriptor, and its ring
unfoldable pub selectors : ℕ → Descriptor → List ℕ
selectors given task = 8 ∷ 16 ∷ 27 ∷ 35 ∷ (40 + field_of given 45 47) ∷ (48 + level_of task) ∷ []

-- the selectors, the words of the table, and the pointer to it
abbrev pub table_text : ℕ → ℕ → Descriptor → List ℕ
table_text at given task =
    line (codes "selectors") (selectors given task)
    ++ (line (codes "gdt") (words given task) ++ line (codes "gdtr") (to_le_bytes w16 (8 * length (words given task) - 1) ++ to_le_bytes w64 at))

-- both, if the task state segment can have the map of ports
abbrev pub verdict_text : ℕ → ℕ → TaskStateSegment → Result Descriptor InvalidIoMap → List ℕ
verdict_text at given tss (Ok task) = table_text at given task ++ line (codes "tss") (tss_bytes tss)
verdict_text at given tss (Err error) = codes "no segment\n"

-- what is printed of a task state segment and its table, or that there is no segment
abbrev pub segments_text : ℕ → ℕ → ℕ → TaskStateSegment → ℕ → List ℕ → List ℕ
segments_text at given tss_at tss map_at map = verdict_text at given tss (iomap_verdict tss_at tss.iomap_base map_at map)

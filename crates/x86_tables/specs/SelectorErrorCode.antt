-- The error code of an exception that a segment selector raised (AMD64 manual, volume 2, section 8.4.1).
use Rattle.std.specs.Prelude.{ℕ, Bool, ◌==◌, if◌then◌else◌}
use Rattle.paging_core.specs.Field.{field_of}
use Rattle.x86_tables.specs.declared.idt.selector_error_code.DescriptorTable.{DescriptorTable}
use Rattle.x86_tables.specs.declared.idt.selector_error_code.DescriptorTable.TheVariants.{Gdt, Idt, Ldt}

-- the bit EXT
abbrev pub is_external : ℕ → Bool
is_external code = field_of code 0 1 == 1

-- the interrupt table if the bit IDT is set, and else the local or the global one by the bit TI
abbrev pub selector_table : ℕ → DescriptorTable
selector_table code =
    if field_of code 1 2 == 1 then Idt
    else if field_of code 2 3 == 1 then Ldt
    else Gdt

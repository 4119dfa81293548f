-- A gate of the interrupt descriptor table (AMD64 manual, volume 2, section 4.8.4).
use Rattle.std.specs.Prelude.{ℕ, List, ◌++◌}
use Rattle.std.specs.Borrow.{Lends, MutBor, Fml, RattleType}
use Rattle.std.specs.Int.{to_le_bytes, w16, w32}
use Rattle.paging_core.specs.Field.{field_of}
use Rattle.x86_tables.specs.EntryOptions.{minimal_options}
use Rattle.x86_tables.specs.declared.idt.entry.Entry.{Entry}
use Rattle.x86_tables.specs.declared.idt.entry_options.EntryOptions.{EntryOptions}
use Rattle.x86_tables.specs.contracts.idt.entry.Entry.{the_row}
use Rattle.x86_tables.specs.contracts.idt.entry_options.EntryOptions.{the_row as options_row}

-- a gate that is not present
abbrev pub absent_gate : {F : Type 0} → Entry F
absent_gate = record { address = 0; options = minimal_options; handler = record {} }

-- bits 0 to 15 of the handler's address, the code segment, the options, bits 16 to 31 and bits 32 to 63 of the
-- address, and 4 reserved bytes
abbrev pub gate_bytes : ℕ → EntryOptions → List ℕ
gate_bytes address options =
    to_le_bytes w16 (field_of address 0 16)
    ++ to_le_bytes w16 options.cs.0
    ++ to_le_bytes w16 options.bits
    ++ to_le_bytes w16 (field_of address 16 32)
    ++ to_le_bytes w32 (field_of address 32 64)
    ++ to_le_bytes w32 0

module _ (F : RattleType) where
  -- the gate ends with this address and the last options behind the reference
  abbrev pub lends_options : MutBor (Entry F.Denot) → ℕ → MutBor EntryOptions → Fml
  lends_options gate address options =
      Lends (the_row F) options_row gate options (λ last. record gate.now { address = address; options = last })

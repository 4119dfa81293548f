-- What a gate says besides its handler's address (AMD64 manual, volume 2, section 4.8.4).
use Rattle.std.specs.Prelude.{ℕ}
use Rattle.x86_tables.specs.declared.idt.entry_options.EntryOptions.{EntryOptions}

-- the type 14 in bits 8 to 11, an interrupt gate, and all else 0: not present, at ring 0, on no stack of its own
abbrev pub minimal_options : EntryOptions
minimal_options = record { cs = record { 0 = 0 }; bits = 0x0e00 }

-- the same with the present bit 15, in this code segment
abbrev pub handler_options : ℕ → EntryOptions
handler_options cs = record { cs = record { 0 = cs }; bits = 0x8e00 }

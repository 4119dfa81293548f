-- Interrupt descriptor tables.
use Rattle.std.specs.Prelude.{ℕ, ◌+◌, ◌*◌, ◌^◌, List, [], ◌∷◌, ◌++◌, ◌==◌, nat_le, zero, suc, codes, if◌then◌else◌, Option, Some, None}
use Rattle.std.specs.Int.{to_le_bytes, w16, w64}
use Rattle.x86_flags.specs.PrivilegeLevel.{level_number}
use Rattle.x86_tables.specs.InterruptDescriptorTable.{entry_of as entry_at, gate_of, new_table, with_entry}
use Rattle.x86_tables.specs.declared.idt.entry.Entry.{Entry}
use Rattle.x86_tables.specs.declared.idt.handler.HandlerFunc.{HandlerFunc}
use Rattle.x86_tables.specs.declared.idt.interrupt_descriptor_table.InterruptDescriptorTable.{InterruptDescriptorTable}
use Rattle.register_image.specs.declared.gates.Gate.{Gate}
use Rattle.register_image.specs.Numbers.{line}

-- the number of its stack, 0 if it has none
abbrev pub stack_of : ℕ → ℕ
stack_of stack = if nat_le stack 7 then stack else 0

-- bits 32 to 47 of a gate: its stack; the type, 14 of an interrupt gate and 15 of a trap gate; the ring; and whether it is
-- present (AMD64 manual, volume 2, section 4.8.4)
abbrev pub options_bits : Gate → ℕ
options_bits gate =
    stack_of gate.stack + (if gate.off then 14 else 15) * 2 ^ 8 + level_number gate.ring * 2 ^ 13 + (if gate.present then 1 else 0) * 2 ^ 15

-- the gate in a table, in this code segment
abbrev pub gate_entry : {F : Type 0} → ℕ → Gate → Entry F
gate_entry cs gate = record {
  address = gate.handler;
  options = record { cs = record { 0 = cs }; bits = options_bits gate };
  handler = record {};
}

-- the gate of a vector whose handler takes no error code and returns, in its place, if there is one
abbrev pub with_plain : ℕ → InterruptDescriptorTable → Gate → Option (Entry HandlerFunc) → InterruptDescriptorTable
with_plain cs table gate (Some old) = with_entry table gate.vector (gate_entry cs gate)
with_plain cs table gate None = table

-- the table with a gate in its place
abbrev pub with_gate : ℕ → InterruptDescriptorTable → Gate → InterruptDescriptorTable
with_gate cs table gate =
    if gate.vector == 8 then record table { double_fault = gate_entry cs gate }
    else if gate.vector == 10 then record table { invalid_tss = gate_entry cs gate }
    else if gate.vector == 11 then record table { segment_not_present = gate_entry cs gate }
    else if gate.vector == 12 then record table { stack_segment_fault = gate_entry cs gate }
    else if gate.vector == 13 then record table { general_protection_fault = gate_entry cs gate }
    else if gate.vector == 14 then record table { page_fault = gate_entry cs gate }
    else if gate.vector == 17 then record table { alignment_check = gate_entry cs gate }
    else if gate.vector == 18 then record table { machine_check = gate_entry cs gate }
    else if gate.vector == 21 then record table { cp_protection_exception = gate_entry cs gate }
    else if gate.vector == 29 then record table { vmm_communication_exception = gate_entry cs gate }
    else if gate.vector == 30 then record table { security_exception = gate_entry cs gate }
    else with_plain cs table gate (entry_at table gate.vector)

-- one after another
abbrev pub with_gates : ℕ → InterruptDescriptorTable → List Gate → InterruptDescriptorTable
with_gates cs table [] = table
with_gates cs table (gate ∷ gates) = with_gates cs (with_gate cs table gate) gates

-- the bytes of a vector's gate
abbrev pub gate_line : InterruptDescriptorTable → ℕ → List ℕ
gate_line table vector = line (codes "gate") (gate_of table vector)

-- of a number of vectors, from one on
unfoldable pub gates_text : InterruptDescriptorTable → ℕ → ℕ → List ℕ
gates_text table vector zero = []
gates_text table vector (suc count) = gate_line table vector ++ gates_text table (vector + 1) count

-- the pointer to a table of these gates, and the table
abbrev pub table_text : ℕ → ℕ → List Gate → List ℕ
table_text at cs gates =
    line (codes "idtr") (to_le_bytes w16 4095 ++ to_le_bytes w64 at) ++ gates_text (with_gates cs new_table gates) 0 256

-- The table of gates (AMD64 manual, volume 2, sections 4.6.5 and 8.2).
use Rattle.std.specs.Prelude.{ℕ, ◌-◌, ◌≤◌, List, [], Option, Some, None, nat_le, ◌==◌, if◌then◌else◌, replicate, slice_get, slice_set, slice_range}
use Rattle.std.specs.Borrow.{Lends, LendsIf, MutBor, Fml, Array, RattleType}
use Rattle.x86_tables.specs.Entry.{gate_bytes, absent_gate}
use Rattle.x86_tables.specs.declared.idt.entry.Entry.{Entry}
use Rattle.x86_tables.specs.declared.idt.handler.HandlerFunc.{HandlerFunc}
use Rattle.x86_tables.specs.declared.idt.handler.HandlerFuncWithErrCode.{HandlerFuncWithErrCode}
use Rattle.x86_tables.specs.declared.idt.handler.PageFaultHandlerFunc.{PageFaultHandlerFunc}
use Rattle.x86_tables.specs.declared.idt.handler.DivergingHandlerFunc.{DivergingHandlerFunc}
use Rattle.x86_tables.specs.declared.idt.handler.DivergingHandlerFuncWithErrCode.{DivergingHandlerFuncWithErrCode}
use Rattle.x86_tables.specs.declared.idt.interrupt_descriptor_table.InterruptDescriptorTable.{InterruptDescriptorTable}
use Rattle.x86_tables.specs.contracts.idt.interrupt_descriptor_table.InterruptDescriptorTable.{the_row}
use Rattle.x86_tables.specs.Gates.{with_part}
use Rattle.x86_tables.specs.contracts.idt.entry.Entry.{the_row as entry_row}
use Rattle.x86_tables.specs.contracts.idt.handler.HandlerFunc.{the_row as handler_row}

-- the type of a gate, as a loan names it
abbrev pub gate_row : RattleType
gate_row = entry_row handler_row

-- no gate is present
abbrev pub new_table : InterruptDescriptorTable
new_table = record {
  divide_error = absent_gate;
  debug = absent_gate;
  non_maskable_interrupt = absent_gate;
  breakpoint = absent_gate;
  overflow = absent_gate;
  bound_range_exceeded = absent_gate;
  invalid_opcode = absent_gate;
  device_not_available = absent_gate;
  double_fault = absent_gate;
  coprocessor_segment_overrun = absent_gate;
  invalid_tss = absent_gate;
  segment_not_present = absent_gate;
  stack_segment_fault = absent_gate;
  general_protection_fault = absent_gate;
  page_fault = absent_gate;
  reserved_1 = absent_gate;
  x87_floating_point = absent_gate;
  alignment_check = absent_gate;
  machine_check = absent_gate;
  simd_floating_point = absent_gate;
  virtualization = absent_gate;
  cp_protection_exception = absent_gate;
  reserved_2 = record { gates = replicate 6 absent_gate };
  hv_injection_exception = absent_gate;
  vmm_communication_exception = absent_gate;
  security_exception = absent_gate;
  reserved_3 = absent_gate;
  interrupts = record { gates = replicate 224 absent_gate };
}

-- the bytes of a gate, by the form of its handler: one that returns, with and without an error code, that of page
-- faults, and one that does not return, with and without an error code
abbrev pub gate : Entry HandlerFunc → List ℕ
gate entry = gate_bytes entry.address entry.options

abbrev pub gate_with_code : Entry HandlerFuncWithErrCode → List ℕ
gate_with_code entry = gate_bytes entry.address entry.options

abbrev pub page_fault_gate : Entry PageFaultHandlerFunc → List ℕ
page_fault_gate entry = gate_bytes entry.address entry.options

abbrev pub diverging_gate : Entry DivergingHandlerFunc → List ℕ
diverging_gate entry = gate_bytes entry.address entry.options

abbrev pub diverging_gate_with_code : Entry DivergingHandlerFuncWithErrCode → List ℕ
diverging_gate_with_code entry = gate_bytes entry.address entry.options

-- the bytes of one gate of several
abbrev pub gate_or_none : Option (Entry HandlerFunc) → List ℕ
gate_or_none (Some entry) = gate entry
gate_or_none None = []

-- the bytes of the gate of a vector
abbrev pub gate_of : InterruptDescriptorTable → ℕ → List ℕ
gate_of table vector =
    if vector == 0 then gate table.divide_error
    else if vector == 1 then gate table.debug
    else if vector == 2 then gate table.non_maskable_interrupt
    else if vector == 3 then gate table.breakpoint
    else if vector == 4 then gate table.overflow
    else if vector == 5 then gate table.bound_range_exceeded
    else if vector == 6 then gate table.invalid_opcode
    else if vector == 7 then gate table.device_not_available
    else if vector == 8 then diverging_gate_with_code table.double_fault
    else if vector == 9 then gate table.coprocessor_segment_overrun
    else if vector == 10 then gate_with_code table.invalid_tss
    else if vector == 11 then gate_with_code table.segment_not_present
    else if vector == 12 then gate_with_code table.stack_segment_fault
    else if vector == 13 then gate_with_code table.general_protection_fault
    else if vector == 14 then page_fault_gate table.page_fault
    else if vector == 15 then gate table.reserved_1
    else if vector == 16 then gate table.x87_floating_point
    else if vector == 17 then gate_with_code table.alignment_check
    else if vector == 18 then diverging_gate table.machine_check
    else if vector == 19 then gate table.simd_floating_point
    else if vector == 20 then gate table.virtualization
    else if vector == 21 then gate_with_code table.cp_protection_exception
    else if nat_le vector 27 then gate_or_none (slice_get table.reserved_2.gates (vector - 22))
    else if vector == 28 then gate table.hv_injection_exception
    else if vector == 29 then gate_with_code table.vmm_communication_exception
    else if vector == 30 then gate_with_code table.security_exception
    else if vector == 31 then gate table.reserved_3
    else gate_or_none (slice_get table.interrupts.gates (vector - 32))

-- the gate of a vector whose handler takes no error code and returns; no other vector has one here
abbrev pub entry_of : InterruptDescriptorTable → ℕ → Option (Entry HandlerFunc)
entry_of table vector =
    if vector == 0 then Some table.divide_error
    else if vector == 1 then Some table.debug
    else if vector == 2 then Some table.non_maskable_interrupt
    else if vector == 3 then Some table.breakpoint
    else if vector == 4 then Some table.overflow
    else if vector == 5 then Some table.bound_range_exceeded
    else if vector == 6 then Some table.invalid_opcode
    else if vector == 7 then Some table.device_not_available
    else if vector == 9 then Some table.coprocessor_segment_overrun
    else if vector == 16 then Some table.x87_floating_point
    else if vector == 19 then Some table.simd_floating_point
    else if vector == 20 then Some table.virtualization
    else if vector == 28 then Some table.hv_injection_exception
    else if nat_le 32 vector then slice_get table.interrupts.gates (vector - 32)
    else None

-- the table with another gate at such a vector
abbrev pub with_entry : InterruptDescriptorTable → ℕ → Entry HandlerFunc → InterruptDescriptorTable
with_entry table vector entry =
    if vector == 0 then record table { divide_error = entry }
    else if vector == 1 then record table { debug = entry }
    else if vector == 2 then record table { non_maskable_interrupt = entry }
    else if vector == 3 then record table { breakpoint = entry }
    else if vector == 4 then record table { overflow = entry }
    else if vector == 5 then record table { bound_range_exceeded = entry }
    else if vector == 6 then record table { invalid_opcode = entry }
    else if vector == 7 then record table { device_not_available = entry }
    else if vector == 9 then record table { coprocessor_segment_overrun = entry }
    else if vector == 16 then record table { x87_floating_point = entry }
    else if vector == 19 then record table { simd_floating_point = entry }
    else if vector == 20 then record table { virtualization = entry }
    else if vector == 28 then record table { hv_injection_exception = entry }
    else record table { interrupts = record { gates = slice_set table.interrupts.gates (vector - 32) entry } }

-- the vectors from `lower` up to `upper`, `upper` excluded, are vectors of interrupts
abbrev pub has_slice : ℕ → ℕ → Type 0
has_slice lower upper = (32 ≤ lower) × (lower ≤ upper) × (upper ≤ 256)

-- the gates of a range of the vectors from 32 on
abbrev pub slice_of : InterruptDescriptorTable → ℕ → ℕ → List (Entry HandlerFunc)
slice_of table lower upper = slice_range table.interrupts.gates (lower - 32) (upper - 32)

-- the table with other gates at these vectors
abbrev pub with_slice : InterruptDescriptorTable → ℕ → ℕ → List (Entry HandlerFunc) → InterruptDescriptorTable
with_slice table lower upper entries =
    record table { interrupts = record { gates = with_part table.interrupts.gates (lower - 32) (upper - 32) entries } }

-- the table ends with the last gate behind the reference at the vector, and unchanged if there is none
abbrev pub lends_entry : MutBor InterruptDescriptorTable → ℕ → Option (MutBor (Entry HandlerFunc)) → Fml
lends_entry table vector entry = LendsIf the_row gate_row table entry (with_entry table.now vector) table.now

-- the same with the gates of a slice
abbrev pub lends_slice : MutBor InterruptDescriptorTable → ℕ → ℕ → MutBor (List (Entry HandlerFunc)) → Fml
lends_slice table lower upper entries =
    Lends the_row (Array gate_row 0) table entries (with_slice table.now lower upper)

-- the same if there is such a slice, and unchanged if there is none
abbrev pub lends_slice_if : MutBor InterruptDescriptorTable → ℕ → ℕ → Option (MutBor (List (Entry HandlerFunc))) → Fml
lends_slice_if table lower upper entries =
    LendsIf the_row (Array gate_row 0) table entries (with_slice table.now lower upper) table.now

-- One flag of the flags register RFLAGS, by its place (AMD64 manual, volume 2, section 3.1.6).
use Rattle.std.specs.Prelude.{ℕ, ◌+◌, Bool, true, false}
use Rattle.std.specs.Int.{bit_at}
use Rattle.paging_core.specs.Field.{with_bit_field}
use Rattle.x86_registers.specs.declared.cpu.Cpu.{Cpu}

-- whether maskable interrupts are taken
abbrev pub interrupt_flag : ℕ
interrupt_flag = 9

-- whether supervisor code may touch user pages, if the processor can keep it from them
abbrev pub alignment_check : ℕ
alignment_check = 18

-- the flag, as a bit
abbrev pub flag_of : ℕ → Cpu → ℕ
flag_of place cpu = bit_at cpu.rflags place

-- the register file with the flag set or clear, and all else as it is
abbrev pub with_flag : ℕ → Bool → Cpu → Cpu
with_flag place true cpu = record cpu { rflags = with_bit_field cpu.rflags place (place + 1) 1 }
with_flag place false cpu = record cpu { rflags = with_bit_field cpu.rflags place (place + 1) 0 }

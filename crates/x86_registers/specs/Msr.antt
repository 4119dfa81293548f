-- The model specific registers of the register file, by their numbers (AMD64 manual, volume 2, appendix A;
-- those of control-flow enforcement are Intel's).
use Rattle.std.specs.Prelude.{ℕ, Option, Some, None, ◌==◌, if◌then◌else◌}
use Rattle.x86_registers.specs.declared.cpu.Cpu.{Cpu}
use Rattle.x86_registers.specs.declared.model_specific.Msr.{Msr}

-- the number of a model specific register
abbrev pub msr_number : Msr → ℕ
msr_number msr = msr.0

-- the bits of the register of this number, if there is one
abbrev pub msr_bits : Cpu → ℕ → Option ℕ
msr_bits cpu number =
    if number == 0xC0000080 then Some cpu.efer
    else if number == 0xC0000081 then Some cpu.star
    else if number == 0xC0000082 then Some cpu.lstar
    else if number == 0xC0000084 then Some cpu.sfmask
    else if number == 0xC0000100 then Some cpu.fs_base
    else if number == 0xC0000101 then Some cpu.gs_base
    else if number == 0xC0000102 then Some cpu.kernel_gs_base
    else if number == 0x6A0 then Some cpu.u_cet
    else if number == 0x6A2 then Some cpu.s_cet
    else if number == 0x1B then Some cpu.apic_base
    else None

-- the register file with other bits in the register of this number; unchanged if there is none
abbrev pub with_msr : Cpu → ℕ → ℕ → Cpu
with_msr cpu number value =
    if number == 0xC0000080 then record cpu { efer = value }
    else if number == 0xC0000081 then record cpu { star = value }
    else if number == 0xC0000082 then record cpu { lstar = value }
    else if number == 0xC0000084 then record cpu { sfmask = value }
    else if number == 0xC0000100 then record cpu { fs_base = value }
    else if number == 0xC0000101 then record cpu { gs_base = value }
    else if number == 0xC0000102 then record cpu { kernel_gs_base = value }
    else if number == 0x6A0 then record cpu { u_cet = value }
    else if number == 0x6A2 then record cpu { s_cet = value }
    else if number == 0x1B then record cpu { apic_base = value }
    else cpu

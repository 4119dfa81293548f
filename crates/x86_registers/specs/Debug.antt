-- The registers of breakpoints (AMD64 manual, volume 2, section 13.1.1).
use Rattle.std.specs.Prelude.{ℕ}
use Rattle.x86_flags.specs.declared.debug_address_register_number.DebugAddressRegisterNumber.{DebugAddressRegisterNumber}
use Rattle.x86_flags.specs.declared.debug_address_register_number.DebugAddressRegisterNumber.TheVariants.{Dr0, Dr1, Dr2, Dr3}
use Rattle.x86_registers.specs.declared.cpu.Cpu.{Cpu}

-- the address of the breakpoint of this register
abbrev pub breakpoint_address : Cpu → DebugAddressRegisterNumber → ℕ
breakpoint_address cpu Dr0 = cpu.dr0
breakpoint_address cpu Dr1 = cpu.dr1
breakpoint_address cpu Dr2 = cpu.dr2
breakpoint_address cpu Dr3 = cpu.dr3

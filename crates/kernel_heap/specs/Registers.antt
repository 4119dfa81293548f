-- The registers of a machine.
use Rattle.std.specs.Prelude.{ℕ, ◌+◌, ◌*◌, ◌^◌}
use Rattle.machine_model.specs.declared.call.Call.{Call}
use Rattle.machine_model.specs.declared.call.Call.TheVariants.{Probe}
use Rattle.machine_model.specs.declared.answer.Reply.{Reply}
use Rattle.machine_model.specs.declared.answer.Reply.TheVariants.{Fault}
use Rattle.x86_registers.specs.declared.cpu.Cpu.{Cpu}
use Rattle.x86_registers.specs.Cpu.{new_cpu}

-- The registers of a new machine. Those of a new processor, in 64-bit mode over four levels of tables (bits 0 and 31 of
-- CR0, bit 5 of CR4, bits 8 and 10 of EFER); a write by the supervisor needs the right to write too (bit 16 of CR0), and a
-- page may deny fetches (bit 11 of EFER); and the root table's address in CR3 (AMD64 manual, volume 2, sections 3.1.1 to
-- 3.1.3, 3.1.7 and 5.3.2).
abbrev pub machine_cpu : ℕ → Cpu
machine_cpu root = record new_cpu { cr0 = 2 ^ 0 + 2 ^ 16 + 2 ^ 31; cr3 = 4096 * root; cr4 = 2 ^ 5; efer = 2 ^ 8 + 2 ^ 10 + 2 ^ 11 }

-- the registers after a probe of an address: a fault puts the address into CR2 (AMD64 manual, volume 2, section 8.2.15)
abbrev pub probed_cpu : Cpu → ℕ → Reply → Cpu
probed_cpu cpu at (Fault code) = record cpu { cr2 = at }
probed_cpu cpu at reply = cpu

-- the registers after any call: no other one changes them
abbrev pub cpu_after : Cpu → Call → Reply → Cpu
cpu_after cpu (Probe at access user) reply = probed_cpu cpu at reply
cpu_after cpu call reply = cpu

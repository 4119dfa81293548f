-- What is written into the registers of a new machine.
use Rattle.std.proofs.Common.{◌≡◌, ℕ, ◌+◌, ◌*◌, ◌^◌, refl}
use Rattle.std.specs.Int.RustNames.{bit_or}
use Rattle.bitflags.specs.Sets.{known_bits, known_from}
use Rattle.x86_flags.specs.Cr0Flags.{cr0_flags}
use Rattle.x86_flags.specs.Cr4Flags.{cr4_flags}
use Rattle.x86_flags.specs.EferFlags.{efer_flags}
use Rattle.x86_registers.specs.Cpu.{new_cpu}
use Rattle.x86_registers.specs.Keeping.{keeping}
use Rattle.kernel_heap.specs.Registers.{machine_cpu}

-- the flags, over a register of value 0
pub cr0_is : keeping (known_bits cr0_flags) 0 (bit_or (bit_or (2 ^ 0) (2 ^ 16)) (2 ^ 31)) ≡ 2 ^ 0 + 2 ^ 16 + 2 ^ 31
unfolding known_from
cr0_is = refl

pub cr4_is : keeping (known_bits cr4_flags) 0 (2 ^ 5) ≡ 2 ^ 5
unfolding known_from
cr4_is = refl

pub efer_is : keeping (known_bits efer_flags) 0 (bit_or (bit_or (2 ^ 8) (2 ^ 10)) (2 ^ 11)) ≡ 2 ^ 8 + 2 ^ 10 + 2 ^ 11
unfolding known_from
efer_is = refl

-- all four written
pub registers_are : (root cr0 cr3 cr4 efer : ℕ) → cr0 ≡ 2 ^ 0 + 2 ^ 16 + 2 ^ 31 → cr3 ≡ 4096 * root → cr4 ≡ 2 ^ 5 → efer ≡ 2 ^ 8 + 2 ^ 10 + 2 ^ 11 →
    record new_cpu { cr0 = cr0; cr3 = cr3; cr4 = cr4; efer = efer } ≡ machine_cpu root
registers_are root cr0 cr3 cr4 efer is_0 is_3 is_4 is_efer i = record new_cpu { cr0 = is_0 i; cr3 = is_3 i; cr4 = is_4 i; efer = is_efer i }

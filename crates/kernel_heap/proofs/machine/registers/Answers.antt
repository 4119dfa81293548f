use Rattle.std.proofs.Common.{◌≡◌, ◌*◌, ◌^◌, ◌∙◌, ap, arith}
use Rattle.std.specs.Int.RustNames.{bit_or}
use Rattle.bitflags.specs.Sets.{known_bits}
use Rattle.x86_flags.specs.Cr0Flags.{cr0_flags}
use Rattle.x86_flags.specs.EferFlags.{efer_flags}
use Rattle.x86_registers.specs.Keeping.{keeping}
use Rattle.kernel_heap.proofs.Registers.{cr0_is, cr4_is, efer_is, registers_are}
use Rattle.kernel_heap.proofs.machine.registers.Goals as goal

pub returns-clause-registers : goal.returns-clause-registers
returns-clause-registers c =
    let address : c.as_u64.result ≡ c.args.root * 4096 = c.as_u64.ensures.value ∙ c.start_address.ensures in
    rw (c.write-3.ensures.written, c.write-2.ensures.written, c.write.ensures.written, c.new-cpu.ensures)
    (registers_are c.args.root _ _ _ _
    (ap (keeping (known_bits cr0_flags) 0) (c.bitor-2.ensures ∙ ap (λ bits. bit_or bits (2 ^ 31)) c.bitor.ensures) ∙ cr0_is)
    (omega (arith, address))
    cr4_is
    (ap (keeping (known_bits efer_flags) 0) (c.bitor-4.ensures ∙ ap (λ bits. bit_or bits (2 ^ 11)) c.bitor-3.ensures) ∙ efer_is))

pub returns-clause-top : goal.returns-clause-top
returns-clause-top c =
    let address : c.as_u64.result ≡ c.args.root * 4096 = c.as_u64.ensures.value ∙ c.start_address.ensures in
    let fits = c.as_u64.ensures.fits in
    rw (c.write-3.ensures.written, c.write-2.ensures.written) (omega (arith, address, fits))

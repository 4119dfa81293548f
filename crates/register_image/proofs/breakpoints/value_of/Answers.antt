use Rattle.std.proofs.Common.{◌≡◌, ◌+◌, ◌*◌, ◌^◌, ℕ, bit_and, ap, refl, ◌∙◌}
use Rattle.bitflags.specs.Sets.{known_from}
use Rattle.x86_flags.specs.BreakpointCondition.{condition_bits}
use Rattle.x86_flags.specs.BreakpointSize.{size_bits}
use Rattle.x86_flags.specs.DebugAddressRegisterNumber.{register_number}
use Rattle.x86_flags.specs.Dr7Value.{dr7_valid, with_field}
use Rattle.x86_flags.specs.declared.breakpoint_condition.BreakpointCondition.{BreakpointCondition}
use Rattle.x86_flags.specs.declared.breakpoint_condition.BreakpointCondition.TheVariants.{InstructionExecution, DataWrites, IoReadsWrites, DataReadsWrites}
use Rattle.x86_flags.specs.declared.breakpoint_size.BreakpointSize.{BreakpointSize}
use Rattle.x86_flags.specs.declared.breakpoint_size.BreakpointSize.TheVariants.{Length1B, Length2B, Length8B, Length4B}
use Rattle.x86_flags.specs.declared.debug_address_register_number.DebugAddressRegisterNumber.{DebugAddressRegisterNumber}
use Rattle.x86_flags.specs.declared.debug_address_register_number.DebugAddressRegisterNumber.TheVariants.{Dr0, Dr1, Dr2, Dr3}
use Rattle.register_image.specs.Breakpoints.{breakpoint_bits}
use Rattle.register_image.proofs.breakpoints.value_of.Goals as goal

-- the bits of a register, of a condition and of a size lie apart
bits_are : (number : DebugAddressRegisterNumber) (condition : BreakpointCondition) (size : BreakpointSize) →
    with_field (with_field (bit_and (2 ^ (2 * register_number number)) dr7_valid) (16 + 4 * register_number number)
    (condition_bits condition)) (18 + 4 * register_number number) (size_bits size)
    ≡ breakpoint_bits (register_number number) (condition_bits condition) (size_bits size)
unfolding known_from
bits_are Dr0 InstructionExecution Length1B = refl
bits_are Dr0 InstructionExecution Length2B = refl
bits_are Dr0 InstructionExecution Length4B = refl
bits_are Dr0 InstructionExecution Length8B = refl
bits_are Dr0 DataWrites Length1B = refl
bits_are Dr0 DataWrites Length2B = refl
bits_are Dr0 DataWrites Length4B = refl
bits_are Dr0 DataWrites Length8B = refl
bits_are Dr0 IoReadsWrites Length1B = refl
bits_are Dr0 IoReadsWrites Length2B = refl
bits_are Dr0 IoReadsWrites Length4B = refl
bits_are Dr0 IoReadsWrites Length8B = refl
bits_are Dr0 DataReadsWrites Length1B = refl
bits_are Dr0 DataReadsWrites Length2B = refl
bits_are Dr0 DataReadsWrites Length4B = refl
bits_are Dr0 DataReadsWrites Length8B = refl
bits_are Dr1 InstructionExecution Length1B = refl
bits_are Dr1 InstructionExecution Length2B = refl
bits_are Dr1 InstructionExecution Length4B = refl
bits_are Dr1 InstructionExecution Length8B = refl
bits_are Dr1 DataWrites Length1B = refl
bits_are Dr1 DataWrites Length2B = refl
bits_are Dr1 DataWrites Length4B = refl
bits_are Dr1 DataWrites Length8B = refl
bits_are Dr1 IoReadsWrites Length1B = refl
bits_are Dr1 IoReadsWrites Length2B = refl
bits_are Dr1 IoReadsWrites Length4B = refl
bits_are Dr1 IoReadsWrites Length8B = refl
bits_are Dr1 DataReadsWrites Length1B = refl
bits_are Dr1 DataReadsWrites Length2B = refl
bits_are Dr1 DataReadsWrites Length4B = refl
bits_are Dr1 DataReadsWrites Length8B = refl
bits_are Dr2 InstructionExecution Length1B = refl
bits_are Dr2 InstructionExecution Length2B = refl
bits_are Dr2 InstructionExecution Length4B = refl
bits_are Dr2 InstructionExecution Length8B = refl
bits_are Dr2 DataWrites Length1B = refl
bits_are Dr2 DataWrites Length2B = refl
bits_are Dr2 DataWrites Length4B = refl
bits_are Dr2 DataWrites Length8B = refl
bits_are Dr2 IoReadsWrites Length1B = refl
bits_are Dr2 IoReadsWrites Length2B = refl
bits_are Dr2 IoReadsWrites Length4B = refl
bits_are Dr2 IoReadsWrites Length8B = refl
bits_are Dr2 DataReadsWrites Length1B = refl
bits_are Dr2 DataReadsWrites Length2B = refl
bits_are Dr2 DataReadsWrites Length4B = refl
bits_are Dr2 DataReadsWrites Length8B = refl
bits_are Dr3 InstructionExecution Length1B = refl
bits_are Dr3 InstructionExecution Length2B = refl
bits_are Dr3 InstructionExecution Length4B = refl
bits_are Dr3 InstructionExecution Length8B = refl
bits_are Dr3 DataWrites Length1B = refl
bits_are Dr3 DataWrites Length2B = refl
bits_are Dr3 DataWrites Length4B = refl
bits_are Dr3 DataWrites Length8B = refl
bits_are Dr3 IoReadsWrites Length1B = refl
bits_are Dr3 IoReadsWrites Length2B = refl
bits_are Dr3 IoReadsWrites Length4B = refl
bits_are Dr3 IoReadsWrites Length8B = refl
bits_are Dr3 DataReadsWrites Length1B = refl
bits_are Dr3 DataReadsWrites Length2B = refl
bits_are Dr3 DataReadsWrites Length4B = refl
bits_are Dr3 DataReadsWrites Length8B = refl

pub returns : goal.returns
returns c =
    let n = register_number c.args.number in
    let condition = condition_bits c.args.condition in
    let size = size_bits c.args.size in
    c.bits.ensures.value ∙ c.set_size.ensures
    ∙ ap (λ (bits : ℕ). with_field bits (18 + 4 * n) size) c.set_condition.ensures
    ∙ ap (λ (bits : ℕ). with_field (with_field bits (16 + 4 * n) condition) (18 + 4 * n) size) c.from-value.ensures
    ∙ ap (λ (bits : ℕ). with_field (with_field (bit_and bits dr7_valid) (16 + 4 * n) condition) (18 + 4 * n) size) c.local_breakpoint_enable.ensures
    ∙ bits_are c.args.number c.args.condition c.args.size

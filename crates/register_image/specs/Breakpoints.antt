-- Values of the debug control register DR7 (AMD64 manual, volume 2, section 13.1.1).
use Rattle.std.specs.Prelude.{ℕ, ◌+◌, ◌*◌, ◌^◌, List, ◌++◌, codes}
use Rattle.x86_flags.specs.BreakpointCondition.{condition_bits}
use Rattle.x86_flags.specs.BreakpointSize.{size_bits, size_bytes}
use Rattle.x86_flags.specs.DebugAddressRegisterNumber.{register_number}
use Rattle.x86_flags.specs.declared.breakpoint_condition.BreakpointCondition.{BreakpointCondition}
use Rattle.x86_flags.specs.declared.breakpoint_condition.BreakpointCondition.TheVariants.{InstructionExecution, DataWrites, IoReadsWrites, DataReadsWrites}
use Rattle.x86_flags.specs.declared.breakpoint_size.BreakpointSize.{BreakpointSize}
use Rattle.x86_flags.specs.declared.breakpoint_size.BreakpointSize.TheVariants.{Length1B, Length2B, Length8B, Length4B}
use Rattle.x86_flags.specs.declared.debug_address_register_number.DebugAddressRegisterNumber.{DebugAddressRegisterNumber}
use Rattle.register_image.specs.Numbers.{number_text}

-- one breakpoint, of the current task: the bit that turns it on, its condition, and its size
abbrev pub breakpoint_bits : ℕ → ℕ → ℕ → ℕ
breakpoint_bits number condition size = 2 ^ (2 * number) + condition * 2 ^ (16 + 4 * number) + size * 2 ^ (18 + 4 * number)

-- what a breakpoint waits for
abbrev pub condition_word : BreakpointCondition → List ℕ
condition_word InstructionExecution = codes "fetch"
condition_word DataWrites = codes "write"
condition_word IoReadsWrites = codes "port"
condition_word DataReadsWrites = codes "access"

-- what it waits for, its bytes, and the register's value
abbrev pub values_line : List ℕ → ℕ → ℕ → List ℕ
values_line word bytes value = codes "breakpoint " ++ (word ++ (number_text bytes ++ (number_text value ++ codes "\n")))

abbrev pub breakpoint_line : DebugAddressRegisterNumber → BreakpointCondition → BreakpointSize → List ℕ
breakpoint_line number condition size =
    values_line (condition_word condition) (size_bytes size) (breakpoint_bits (register_number number) (condition_bits condition) (size_bits size))

-- of each size
abbrev pub condition_lines : DebugAddressRegisterNumber → BreakpointCondition → List ℕ
condition_lines number condition =
    breakpoint_line number condition Length1B
    ++ (breakpoint_line number condition Length2B ++ (breakpoint_line number condition Length4B ++ breakpoint_line number condition Length8B))

-- of each condition
abbrev pub breakpoint_lines : DebugAddressRegisterNumber → List ℕ
breakpoint_lines number =
    condition_lines number InstructionExecution
    ++ (condition_lines number DataWrites ++ (condition_lines number IoReadsWrites ++ condition_lines number DataReadsWrites))

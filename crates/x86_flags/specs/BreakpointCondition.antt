use Rattle.std.specs.Prelude.{ℕ}
use Rattle.x86_flags.specs.declared.breakpoint_condition.BreakpointCondition.{BreakpointCondition}
use Rattle.x86_flags.specs.declared.breakpoint_condition.BreakpointCondition.TheVariants.{InstructionExecution, DataWrites, IoReadsWrites, DataReadsWrites}

-- the two bits of a condition in DR7
abbrev pub condition_bits : BreakpointCondition → ℕ
condition_bits InstructionExecution = 0
condition_bits DataWrites = 1
condition_bits IoReadsWrites = 2
condition_bits DataReadsWrites = 3

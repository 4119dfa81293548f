use Rattle.std.specs.Prelude.{ℕ}
use Rattle.x86_flags.specs.declared.breakpoint_size.BreakpointSize.{BreakpointSize}
use Rattle.x86_flags.specs.declared.breakpoint_size.BreakpointSize.TheVariants.{Length1B, Length2B, Length8B, Length4B}

-- how many bytes a breakpoint watches
abbrev pub size_bytes : BreakpointSize → ℕ
size_bytes Length1B = 1
size_bytes Length2B = 2
size_bytes Length8B = 8
size_bytes Length4B = 4

-- the two bits of a size in DR7
abbrev pub size_bits : BreakpointSize → ℕ
size_bits Length1B = 0
size_bits Length2B = 1
size_bits Length8B = 2
size_bits Length4B = 3

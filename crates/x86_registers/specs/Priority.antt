-- The priority class in CR8.
use Rattle.std.specs.Prelude.{ℕ, ◌%◌, Option, Some, None, nat_le, if◌then◌else◌}
use Rattle.x86_flags.specs.PriorityClass.{class_number}
use Rattle.x86_flags.specs.declared.priority_class.PriorityClass.{PriorityClass}

-- the number of a class, and 0 for none
abbrev pub priority_number : Option PriorityClass → ℕ
priority_number None = 0
priority_number (Some class) = class_number class

-- the number of the class in the low 8 bits of CR8, which name none from 16 on
abbrev pub priority_in : ℕ → ℕ
priority_in bits = if nat_le (bits % 256) 15 then bits % 256 else 0

use Rattle.std.proofs.Common.{◌≡◌, ◌++◌, take, string_bytes}
use Rattle.call_lines.specs.Written.{hexadecimal}
use Rattle.heap_program.specs.Text.{spaced}
use Rattle.heap_program.proofs.text.push_slots.Given as goal

abbrev pub invariant-loop-slot : goal.invariant-loop-slot
invariant-loop-slot l = string_bytes l.out ≡ string_bytes l.fn.out ++ spaced hexadecimal (take l.slot-index l.slots)

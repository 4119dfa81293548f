use Rattle.std.proofs.Common.{◌≡◌, ◌-◌, ◌≤◌, ◌++◌, length, take, string_bytes}
use Rattle.hex.specs.Hex.{encode_lower}
use Rattle.heap_program.proofs.digits.push_digits.Given as goal

abbrev pub invariant-loop-done : goal.invariant-loop-done
invariant-loop-done l = (string_bytes l.out ≡ string_bytes l.fn.out ++ encode_lower (take l.done l.bytes)) × (l.done ≤ length l.bytes)

abbrev pub decreases-loop-done : goal.decreases-loop-done
decreases-loop-done l = length l.bytes - l.done

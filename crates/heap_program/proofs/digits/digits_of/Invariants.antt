use Rattle.std.proofs.Common.{◌≡◌, ◌*◌, ◌++◌, length, take, drop}
use Rattle.hex.specs.Hex.{encode_with, lower_digits}
use Rattle.heap_program.proofs.digits.digits_of.Given as goal

abbrev pub invariant-loop-k : goal.invariant-loop-k
invariant-loop-k l = (take (2 * l.k) l.digits ++ encode_with lower_digits (drop l.k l.bytes) ≡ encode_with lower_digits l.bytes) × (length l.digits ≡ 64)

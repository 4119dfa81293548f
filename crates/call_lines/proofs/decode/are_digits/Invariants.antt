use Rattle.std.proofs.Common.{◌≡◌, ◌*◌, drop}
use Rattle.call_lines.proofs.Decoded.{has_bytes}
use Rattle.call_lines.proofs.decode.are_digits.Given as goal

abbrev pub invariant-loop-k : goal.invariant-loop-k
invariant-loop-k l = has_bytes 0 l.digits ≡ has_bytes (2 * l.k) (drop (2 * l.k) l.digits)

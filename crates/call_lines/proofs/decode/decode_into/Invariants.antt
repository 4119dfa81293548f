use Rattle.std.proofs.Common.{◌≡◌, ◌*◌, take, drop}
use Rattle.hex.specs.Hex.{decode_pairs}
use Rattle.hex.proofs.Pairs.{prepend}
use Rattle.call_lines.proofs.decode.decode_into.Given as goal

abbrev pub invariant-loop-k : goal.invariant-loop-k
invariant-loop-k l = decode_pairs 0 l.digits ≡ prepend (take l.k l.bytes) (decode_pairs (2 * l.k) (drop (2 * l.k) l.digits))

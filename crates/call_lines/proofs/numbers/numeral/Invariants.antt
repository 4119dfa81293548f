use Rattle.std.proofs.Common.{drop, ◌<◌, ◌^◌}
use Rattle.call_lines.proofs.Numerals.{IsLeft}
use Rattle.call_lines.proofs.numbers.numeral.Given as goal

abbrev pub invariant-loop-byte : goal.invariant-loop-byte
invariant-loop-byte l = record { left : IsLeft l.base l.digits l.value (drop l.byte-index l.digits); fits : l.value < 2 ^ 64 }

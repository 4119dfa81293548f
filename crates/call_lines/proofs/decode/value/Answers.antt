use Rattle.std.proofs.Common.{arith}
use Rattle.hex.specs.Hex.{hex_digit_value}
use Rattle.call_lines.proofs.Decoded.{VALUES_at, value_some, value_none}
use Rattle.call_lines.proofs.decode.value.Goals as goal

pub returns-then-value-lt16 : goal.returns-then-value-lt16
returns-then-value-lt16 c =
    let at = VALUES_at c.args.digit (omega arith) in
    record { value = value_some 0 _ (hex_digit_value c.args.digit) at.0 at.1 c.if-value-lt16.true; small = c.if-value-lt16.true }

pub returns-else-value-lt16 : goal.returns-else-value-lt16
returns-else-value-lt16 c =
    let at = VALUES_at c.args.digit (omega arith) in
    record { value = value_none _ (hex_digit_value c.args.digit) at.1 c.if-value-lt16.false; small = tt }

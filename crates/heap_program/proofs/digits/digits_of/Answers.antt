use Rattle.std.proofs.Common.{◌+◌, ◌*◌, slice_set, length-set, ◌∙◌, arith}
use Rattle.hex.specs.Hex.{lower_digits}
use Rattle.hex.proofs.Pairs.{encode_step, encode_done}
use Rattle.heap_program.proofs.digits.digits_of.Goals as goal

pub loop-k-preserved : goal.loop-k-preserved
loop-k-preserved c =
    let l = c.loop-k in
    let many = l.invariant.1 in (
      encode_step lower_digits c.args.bytes.now l.digits l.k _ _ (omega (arith, c.told-bytes)) (omega (arith, many))
          c.digit.ensures c.digit-in-loop-k.ensures l.invariant.0,
      length-set (slice_set l.digits (2 * l.k) c.digit.result) (2 * l.k + 1) c.digit-in-loop-k.result ∙ length-set l.digits (2 * l.k) c.digit.result ∙ many,
    )

pub returns : goal.returns
returns c = encode_done lower_digits c.args.bytes.now c.loop-k.digits c.loop-k.k (omega (arith, c.told-bytes))
    (omega (arith, c.told-bytes, c.loop-k.invariant.1)) c.loop-k.invariant.0

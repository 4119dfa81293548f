use Rattle.std.proofs.Common.{◌*◌, length, sym, ap, ◌∙◌, arith}
use Rattle.std.specs.Result.{result_ok}
use Rattle.hex.proofs.Pairs.{decode_start, decode_step, decode_err, decode_done}
use Rattle.call_lines.proofs.Decoded.{decode_even, ok_of, err_of}
use Rattle.call_lines.proofs.decode.decode_into.Goals as goal

pub loop-k-init : goal.loop-k-init
loop-k-init c = decode_start c.args.digits.now c.args.bytes.now

pub returns-in-None : goal.returns-in-None
returns-in-None c =
    let digits = c.args.digits.now in
    let k = c.loop-k.k in
    let bad = err_of _ (sym (c.pair.ensures (2 * k)) ∙ c.in-None.is) in
    ap result_ok (decode_even digits (length c.args.bytes.now) c.requires
    ∙ decode_err digits c.loop-k.bytes k bad.0 (omega (arith, c.requires)) bad.1 c.loop-k.invariant)

pub loop-k-preserved : goal.loop-k-preserved
loop-k-preserved c =
    let k = c.loop-k.k in
    decode_step c.args.digits.now c.loop-k.bytes k c.in-Some.byte (omega (arith, c.requires)) (omega arith)
    (ok_of _ _ (sym (c.pair.ensures (2 * k)) ∙ c.in-Some.is)) c.loop-k.invariant

pub returns : goal.returns
returns c =
    let digits = c.args.digits.now in
    ap result_ok (decode_even digits (length c.args.bytes.now) c.requires
    ∙ decode_done digits c.loop-k.bytes c.loop-k.k (omega arith) (omega (arith, c.requires)) c.loop-k.invariant)

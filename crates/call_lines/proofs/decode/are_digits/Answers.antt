use Rattle.std.proofs.Common.{◌*◌, is_some, not, refl, sym, ap, ◌∙◌, arith}
use Rattle.std.specs.Result.{result_ok}
use Rattle.call_lines.proofs.Decoded.{even_pairs, digits_step, digits_err, digits_done}
use Rattle.call_lines.proofs.decode.are_digits.Goals as goal

pub loop-k-init : goal.loop-k-init
loop-k-init c = refl

pub returns-then-is_none : goal.returns-then-is_none
returns-then-is_none c =
    let digits = c.args.digits.now in
    let k = c.loop-k.k in
    sym
    (ap (λ r. is_some (result_ok r)) (even_pairs digits c.requires)
    ∙ digits_err digits k c.pair.result (omega (arith, c.requires)) (c.pair.ensures (2 * k)) (c.is_none.ensures ∙ ap not c.if-is_none.true) c.loop-k.invariant)

pub loop-k-preserved : goal.loop-k-preserved
loop-k-preserved c =
    let k = c.loop-k.k in
    digits_step c.args.digits.now k c.pair.result (omega (arith, c.requires)) (c.pair.ensures (2 * k))
    (c.is_none.ensures ∙ ap not c.if-is_none.false) c.loop-k.invariant

pub returns : goal.returns
returns c =
    let digits = c.args.digits.now in
    sym
    (ap (λ r. is_some (result_ok r)) (even_pairs digits c.requires)
    ∙ digits_done digits c.loop-k.k (omega (arith, c.requires)) c.loop-k.invariant)

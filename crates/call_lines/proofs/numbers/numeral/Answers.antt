use Rattle.std.proofs.Common.{◌+◌, ◌∷◌, length, get_or, drop, sym, ◌∙◌, subst, arith, ⊎_elim, false-eqb}
use Rattle.std.proofs.lemmas.List.{drop_more, drop_all}
use Rattle.call_lines.proofs.Numerals.{IsLeft, left_bad, left_large, left_done}
use Rattle.call_lines.proofs.numbers.numeral.Goals as goal

pub returns-in_err-value : goal.returns-in_err-value
returns-in_err-value c =
    let digits = c.args.digits.now in
    let i = c.loop-byte.byte-index in
    let b = get_or digits i 0 in
    let left : IsLeft c.args.base digits c.loop-byte.value (b ∷ drop (i + 1) digits) =
    subst (IsLeft c.args.base digits c.loop-byte.value) (drop_more digits i 0 c.loop-byte-test.true) c.loop-byte.invariant.left in
    c.from_residual.ensures
    ∙ sym (⊎_elim
    (left_bad c.args.base c.args.most digits c.loop-byte.value b (drop (i + 1) digits) left)
    (left_large c.args.base c.args.most digits c.loop-byte.value b (drop (i + 1) digits) (omega arith) left)
    c.in_err-value.ensures)

pub returns : goal.returns
returns c =
    let digits = c.args.digits.now in
    let i = c.loop-byte.byte-index in
    sym (left_done c.args.base c.args.most digits c.loop-byte.value (subst (IsLeft c.args.base digits c.loop-byte.value)
    (drop_all i digits c.loop-byte-test.false) c.loop-byte.invariant.left)
    (omega (arith, false-eqb (length digits) 0 (sym (sym c.is_empty.ensures ∙ c.if-is_empty.false))))
    c.if-digits-most.false c.loop-byte.invariant.fits)

use Rattle.std.proofs.Common.{◌≡◌, ℕ, suc, ◌-◌, ◌/◌, ◌%◌, ◌≤◌, ◌<◌, ◌∷◌, length, drop, false, slice_set, length-set, sym, ap, ◌∙◌, arith}
use Rattle.std.specs.Fmt.{digits_onto, digit_glyph}
use Rattle.heap_program.proofs.Blocks.{digits_front, onto_last, onto_step, lower_glyph, set_before}
use Rattle.heap_program.proofs.digits.write_hexadecimal.Goals as goal

pub loop-at-preserved : goal.loop-at-preserved
loop-at-preserved c =
    let l = c.loop-at in
    let first = c.args.end - 64 in
    let within : l.at ≤ length l.row = omega (arith, l.invariant.1, l.invariant.2, c.requires.within) in
    let more : first < l.at = c.loop-at-test.true in
    let next : l.at - first ≡ suc (l.at - 1 - first) = omega (arith, more) in
    let written : drop (l.at - 1) (slice_set l.row (l.at - 1) c.digit.result) ≡ digit_glyph false (l.left % 16) ∷ drop l.at l.row =
    set_before l.row l.at c.digit.result (digit_glyph false (l.left % 16)) (omega (arith, more)) within
    (c.digit.ensures ∙ sym (lower_glyph (l.left % 16) (omega arith))) in (
      omega (arith, more),
      omega (arith, l.invariant.1),
      length-set l.row (l.at - 1) c.digit.result ∙ l.invariant.2,
      ap (digits_onto (l.at - 1 - first) 16 false (l.left / 16)) written
          ∙ sym (onto_step (l.at - first) (l.at - 1 - first) l.left (drop l.at l.row) next c.if-left-eq0.false)
          ∙ l.invariant.3,
    )

pub returns-after-loop-at-clause-written : goal.returns-after-loop-at-clause-written
returns-after-loop-at-clause-written c =
    let l = c.loop-at in
    let first = c.args.end - 64 in
    let none : l.at - first ≡ 0 = omega (arith, c.loop-at-test.false) in
    sym (ap (λ (k : ℕ). digits_onto k 16 false l.left (drop l.at l.row)) none) ∙ l.invariant.3 ∙ digits_front c.args.number (drop c.args.end c.args.row.now)

pub returns-then-left-eq0-clause-written : goal.returns-then-left-eq0-clause-written
returns-then-left-eq0-clause-written c =
    let l = c.loop-at in
    let first = c.args.end - 64 in
    let within : l.at ≤ length l.row = omega (arith, l.invariant.1, l.invariant.2, c.requires.within) in
    let more : first < l.at = c.loop-at-test.true in
    let written : drop (l.at - 1) (slice_set l.row (l.at - 1) c.digit.result) ≡ digit_glyph false (l.left % 16) ∷ drop l.at l.row =
    set_before l.row l.at c.digit.result (digit_glyph false (l.left % 16)) (omega (arith, more)) within
    (c.digit.ensures ∙ sym (lower_glyph (l.left % 16) (omega arith))) in
    written ∙ sym (onto_last (l.at - first) l.left (drop l.at l.row) (omega (arith, more)) c.if-left-eq0.true)
    ∙ l.invariant.3 ∙ digits_front c.args.number (drop c.args.end c.args.row.now)

use Rattle.std.proofs.Common.{arith}
use Rattle.run_figures.proofs.Counts.{all_zero}
use Rattle.run_figures.proofs.sizes.end_from.Goals as goal

pub returns : goal.returns
returns c =
    let long = c.loop-number.invariant.long in
    all_zero c.loop-number.sizes.items c.args.sizes.now.items long (λ k less.
    c.loop-number.invariant.zero k (omega (arith, less, long, c.loop-number-test.false, c.loop-number.auto)))

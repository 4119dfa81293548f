use Rattle.std.proofs.Common.{arith}
use Rattle.kernel_heap.proofs.NoneLive.{none_live}
use Rattle.kernel_heap.proofs.numbered_blocks.end_from.Goals as goal

pub returns : goal.returns
returns c =
    let long = c.loop-number.invariant.long in
    none_live c.loop-number.blocks.items c.args.blocks.now.items long (λ k less.
    c.loop-number.invariant.none k (omega (arith, less, long, c.loop-number-test.false, c.loop-number.auto)))

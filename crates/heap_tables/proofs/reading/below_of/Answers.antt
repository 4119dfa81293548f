use Rattle.std.proofs.Common.{arith}
use Rattle.heap_tables.proofs.Numbers.{few_low, few_under}
use Rattle.heap_tables.proofs.reading.below_of.Goals as goal

pub overflow_mul-below : goal.overflow_mul-below
overflow_mul-below c =
    let low = few_low c.args.left c.args.number c.requires.left.0 c.requires.number in
    omega (arith, low)

pub overflow_add-below : goal.overflow_add-below
overflow_add-below c =
    let low = few_low c.args.left c.args.number c.requires.left.0 c.requires.number in
    omega (arith, low, c.requires.index)

pub returns-clause-few : goal.returns-clause-few
returns-clause-few c = few_under c.args.left c.args.number c.args.index c.requires.left.0 c.requires.left.1 c.requires.number c.requires.index

pub returns-clause-low : goal.returns-clause-low
returns-clause-low c =
    let low = few_low c.args.left c.args.number c.requires.left.0 c.requires.number in
    omega (arith, low, c.requires.index)

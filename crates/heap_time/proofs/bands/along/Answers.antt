use Rattle.std.proofs.Common.{arith}
use Rattle.heap_time.proofs.Numbers.{few_units}
use Rattle.heap_time.proofs.bands.along.Goals as goal

pub overflow_mul-part : goal.overflow_mul-part
overflow_mul-part c =
    let fits = few_units c.args.part c.args.units c.requires.part c.requires.units in
    omega (arith, fits)

use Rattle.std.proofs.Common.{arith}
use Rattle.heap_time.proofs.Numbers.{few_pixels}
use Rattle.heap_time.proofs.bands.pixels_of.Goals as goal

pub overflow_mul-result : goal.overflow_mul-result
overflow_mul-result c =
    let few = few_pixels c.args.bytes c.args.band.height c.requires.bytes c.requires.band.1.1.1 in
    omega (arith, few)

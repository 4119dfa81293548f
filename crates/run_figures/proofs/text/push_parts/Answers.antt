use Rattle.std.proofs.Common.{arith}
use Rattle.run_figures.proofs.Sums.{greatest_within}
use Rattle.run_figures.proofs.text.push_parts.Goals as goal

pub permille-scattered-requires-clause-within : goal.permille-scattered-requires-clause-within
permille-scattered-requires-clause-within c =
    let least = greatest_within c.args.extents.now in
    omega (arith, least, c.greatest_free-greatest.ensures, c.count_part-free.ensures.bytes)

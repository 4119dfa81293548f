use Rattle.std.proofs.Common.{arith}
use Rattle.run_figures.proofs.Sums.{greatest_more}
use Rattle.run_figures.proofs.counting.greatest_free.Goals as goal

pub loop-extent-preserved : goal.loop-extent-preserved
loop-extent-preserved c = grind (arith, greatest_more)

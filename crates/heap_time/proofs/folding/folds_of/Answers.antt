use Rattle.heap_time.proofs.Steps.{folds_begin}
use Rattle.heap_time.proofs.folding.folds_of.Goals as goal

pub loop-times-init : goal.loop-times-init
loop-times-init c = folds_begin c.args.ranges.now

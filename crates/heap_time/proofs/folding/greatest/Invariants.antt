use Rattle.std.proofs.Common.{◌≡◌, take}
use Rattle.std.specs.List.{fold}
use Rattle.heap_time.specs.Axis.{greater}
use Rattle.heap_time.proofs.folding.greatest.Given as goal

abbrev pub invariant-loop-range : goal.invariant-loop-range
invariant-loop-range l = l.best ≡ fold (greater l.folds) (record { low = 0; high = 0 }) (take l.range-index l.ranges)

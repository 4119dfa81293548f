use Rattle.std.proofs.Common.{◌≡◌, ◌-◌}
use Rattle.heap_time.specs.Axis.{folds_from, folds_of}
use Rattle.heap_time.proofs.folding.folds_of.Given as goal

abbrev pub invariant-loop-times : goal.invariant-loop-times
invariant-loop-times l = folds_from (10 - l._times) l.folds l.ranges ≡ folds_of l.ranges

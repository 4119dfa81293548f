use Rattle.std.proofs.Common.{◌≡◌, max, drop}
use Rattle.heap_curves.specs.Columns.{greatest}
use Rattle.heap_curves.proofs.columns.greatest.Given as goal

abbrev pub invariant-loop-moment : goal.invariant-loop-moment
invariant-loop-moment l = max l.most (greatest l.counted (drop l.moment-index l.moments)) ≡ greatest l.counted l.moments

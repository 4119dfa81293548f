use Rattle.std.proofs.Common.{◌+◌, ◌-◌}
use Rattle.meminterval.specs.Tree.{entries}
use Rattle.address_space.proofs.Places.{Passed}
use Rattle.address_space.proofs.runs.lowest_place.Given as goal

abbrev pub invariant-loop-at : goal.invariant-loop-at
invariant-loop-at l = Passed (entries l.runs) l.base l.pages l.at

abbrev pub decreases-loop-at : goal.decreases-loop-at
decreases-loop-at l = l.end + 1 - l.at

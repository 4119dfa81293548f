use Rattle.std.proofs.Common.{◌-◌, ◌≤◌}
use Rattle.meminterval.specs.Tree.{entries}
use Rattle.address_space.specs.RunChanges.{AreInRuns}
use Rattle.address_space.proofs.runs.first_gap.Given as goal

abbrev pub invariant-loop-page : goal.invariant-loop-page
invariant-loop-page l = record { from : l.first ≤ l.page; held : AreInRuns (entries l.runs) l.first l.page }

abbrev pub decreases-loop-page : goal.decreases-loop-page
decreases-loop-page l = l.end - l.page

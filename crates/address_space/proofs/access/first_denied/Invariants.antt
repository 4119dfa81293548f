use Rattle.std.proofs.Common.{◌+◌, ◌-◌}
use Rattle.meminterval.specs.Tree.{entries}
use Rattle.address_space.specs.Runs.{rights_in}
use Rattle.address_space.proofs.Denied.{IsPassed}
use Rattle.address_space.proofs.access.first_denied.Given as goal

abbrev pub invariant-loop-page : goal.invariant-loop-page
invariant-loop-page l = IsPassed (rights_in (entries l.runs)) l.access.write l.access.user l.at l.page

abbrev pub decreases-loop-page : goal.decreases-loop-page
decreases-loop-page l = l.last + 1 - l.page

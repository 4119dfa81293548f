use Rattle.std.proofs.Common.{◌-◌, ◌^◌}
use Rattle.meminterval.specs.Tree.{entries}
use Rattle.address_space.proofs.Listing.{Listed}
use Rattle.address_space.proofs.runs.list.Given as goal

abbrev pub invariant-loop-entry : goal.invariant-loop-entry
invariant-loop-entry l = Listed l.at (entries l.runs) l.list.items (2 ^ 52)

abbrev pub decreases-loop-entry : goal.decreases-loop-entry
decreases-loop-entry l = 2 ^ 52 - l.at

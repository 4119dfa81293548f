use Rattle.meminterval.specs.Tree.{entries}
use Rattle.address_space.proofs.RunChanges.{AreTakenTo}
use Rattle.address_space.proofs.run_changes.take_out.Given as goal

abbrev pub invariant-loop-run : goal.invariant-loop-run
invariant-loop-run l = AreTakenTo (entries l.fn.runs) (entries l.runs) l.first l.at l.end

abbrev pub decreases-loop-run : goal.decreases-loop-run
decreases-loop-run l = l.at

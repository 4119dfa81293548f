use Rattle.std.proofs.Common.{◌-◌}
use Rattle.meminterval.specs.Tree.{entries}
use Rattle.address_space.proofs.CopiedRuns.{AreCopiedTo}
use Rattle.address_space.proofs.run_changes.copy.Given as goal

abbrev pub invariant-loop-done : goal.invariant-loop-done
invariant-loop-done l = AreCopiedTo (entries l.fn.runs) (entries l.runs) l.from l.pages l.to l.done

abbrev pub decreases-loop-done : goal.decreases-loop-done
decreases-loop-done l = l.pages - l.done

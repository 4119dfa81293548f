use Rattle.paging_core.proofs.Runs.{IsRemoving}
use Rattle.paging_core.proofs.pool.remove_run.Given as goal

abbrev pub invariant-loop-number : goal.invariant-loop-number
invariant-loop-number l = IsRemoving l.fn.free l.free l.first l.number

use Rattle.paging_core.proofs.Runs.{IsInserting}
use Rattle.paging_core.proofs.pool.insert_run.Given as goal

abbrev pub invariant-loop-number : goal.invariant-loop-number
invariant-loop-number l = IsInserting l.fn.free l.free l.first l.number

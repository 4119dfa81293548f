use Rattle.paged_systems.specs.System.{paged}
use Rattle.paged_systems.specs.Written.{AreBytesWritten}
use Rattle.paged_systems.proofs.paged_system.PagedSystem.write_each.Given as goal

abbrev pub invariant-loop-k : goal.invariant-loop-k
invariant-loop-k l = AreBytesWritten (paged l.fn.self) (paged l.self) l.address l.bytes l.k

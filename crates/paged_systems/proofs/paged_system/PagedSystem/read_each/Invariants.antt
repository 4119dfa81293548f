use Rattle.paged_systems.specs.System.{paged}
use Rattle.paged_systems.specs.Written.{AreRead}
use Rattle.paged_systems.proofs.paged_system.PagedSystem.read_each.Given as goal

abbrev pub invariant-loop-k : goal.invariant-loop-k
invariant-loop-k l = AreRead (paged l.self) l.address l.k l.bytes.items

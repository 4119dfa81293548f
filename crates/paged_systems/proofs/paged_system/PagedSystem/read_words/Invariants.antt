use Rattle.std.proofs.Common.{◌+◌, ◌*◌}
use Rattle.paged_systems.specs.System.{paged}
use Rattle.paged_systems.specs.Written.{AreRead}
use Rattle.paged_systems.proofs.paged_system.PagedSystem.read_words.Given as goal

abbrev pub invariant-loop-k : goal.invariant-loop-k
invariant-loop-k l = AreRead (paged l.self) l.address (l.done + 8 * l.k) l.bytes.items

use Rattle.std.proofs.Common.{◌+◌}
use Rattle.address_space.specs.Seen.{tables_of}
use Rattle.address_space.proofs.Unmapped.{AreUnmappedTo}
use Rattle.address_space.proofs.space.Space.unmap.Given as goal

abbrev pub invariant-loop-end : goal.invariant-loop-end
invariant-loop-end l = AreUnmappedTo (tables_of l.fn.self) (tables_of l.self) l.first (l.first + l.pages) l.end l.count

abbrev pub decreases-loop-end : goal.decreases-loop-end
decreases-loop-end l = l.end

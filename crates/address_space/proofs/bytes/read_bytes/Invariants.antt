use Rattle.std.proofs.Common.{◌-◌, ◌≤◌, length}
use Rattle.paging_core.specs.Walk.{reached}
use Rattle.address_space.specs.Access.{AreBytesAt}
use Rattle.address_space.proofs.bytes.read_bytes.Given as goal

abbrev pub invariant-loop-root : goal.invariant-loop-root
invariant-loop-root l = record { read : AreBytesAt (reached l.frames l.root) l.at l.bytes.items; few : length l.bytes.items ≤ l.wanted }

abbrev pub decreases-loop-root : goal.decreases-loop-root
decreases-loop-root l = l.wanted - length l.bytes.items

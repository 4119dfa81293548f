use Rattle.std.proofs.Common.{◌≡◌, ◌+◌, length}
use Rattle.paging_core.specs.Walk.{reached}
use Rattle.address_space.specs.Access.{AreBytesAt}
use Rattle.address_space.proofs.bytes.read_on.Given as goal

abbrev pub invariant-loop-step : goal.invariant-loop-step
invariant-loop-step l = record { read : AreBytesAt (reached l.frames l.fn.root) l.at l.bytes.items; size : length l.bytes.items ≡ l.count + l.step }

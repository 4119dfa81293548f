use Rattle.std.proofs.Common.{◌-◌, length}
use Rattle.address_space.proofs.Written.{AreWrittenTo}
use Rattle.address_space.proofs.bytes.write_bytes.Given as goal

abbrev pub invariant-loop-done : goal.invariant-loop-done
invariant-loop-done l = AreWrittenTo l.fn.frames l.frames l.root l.at l.done l.bytes

abbrev pub decreases-loop-done : goal.decreases-loop-done
decreases-loop-done l = length l.bytes - l.done

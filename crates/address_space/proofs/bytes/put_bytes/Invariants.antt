use Rattle.address_space.specs.Access.{AreBytesPut}
use Rattle.address_space.proofs.bytes.put_bytes.Given as goal

abbrev pub invariant-loop-step : goal.invariant-loop-step
invariant-loop-step l = AreBytesPut l.fn.words l.words l.offset l.step l.bytes

use Rattle.std.proofs.Common.{◌≡◌, drop}
use Rattle.register_image.specs.Gates.{with_gates}
use Rattle.register_image.proofs.gates.set_gates.Given as goal

abbrev pub invariant-loop-gate : goal.invariant-loop-gate
invariant-loop-gate l = with_gates l.cpu.cs l.table (drop l.gate-index l.gates) ≡ with_gates l.cpu.cs l.fn.table l.gates

use Rattle.std.proofs.Common.{◌≡◌, ◌-◌, ◌++◌, string_bytes}
use Rattle.register_image.specs.Gates.{gates_text}
use Rattle.register_image.proofs.gates.push_gates.Given as goal

abbrev pub invariant-loop-vector : goal.invariant-loop-vector
invariant-loop-vector l = string_bytes l.out ++ gates_text l.table l.vector (256 - l.vector) ≡ string_bytes l.fn.out ++ gates_text l.table 0 256

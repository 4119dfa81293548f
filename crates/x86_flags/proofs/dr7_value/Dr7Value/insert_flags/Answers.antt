use Rattle.x86_flags.specs.Dr7Value.{dr7_valid}
use Rattle.x86_flags.proofs.Dr7.{mask-or}
use Rattle.x86_flags.proofs.dr7_value.Dr7Value.insert_flags.Goals as goal

pub invariant_of-self : goal.invariant_of-self
invariant_of-self c = rw c.valid_bits.ensures (mask-or dr7_valid c.self.inside.bits c.bits.result c.self.invariant)

use Rattle.std.proofs.Common.{◌-◌}
use Rattle.x86_flags.specs.Dr7Value.{dr7_valid}
use Rattle.x86_flags.proofs.Dr7.{mask-kept}
use Rattle.x86_flags.proofs.dr7_value.Dr7Value.remove_flags.Goals as goal

pub invariant_of-self : goal.invariant_of-self
invariant_of-self c = mask-kept dr7_valid c.self.inside.bits (18446744073709551615 - c.bits.result) c.self.invariant

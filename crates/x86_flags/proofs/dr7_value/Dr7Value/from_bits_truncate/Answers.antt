use Rattle.x86_flags.specs.Dr7Value.{dr7_valid}
use Rattle.x86_flags.proofs.Dr7.{mask-and}
use Rattle.x86_flags.proofs.dr7_value.Dr7Value.from_bits_truncate.Goals as goal

pub invariant_of-result : goal.invariant_of-result
invariant_of-result c = rw c.valid_bits.ensures (mask-and dr7_valid c.args.bits)

use Rattle.std.proofs.Common.{rules}
use Rattle.x86_flags.proofs.Dr7.{IsDr7-below, IsDr7-with_condition}
use Rattle.x86_flags.proofs.dr7_value.Dr7Value.set_condition.Goals as goal

pub replace_field-self-inside-requires-clause-bits : goal.replace_field-self-inside-requires-clause-bits
replace_field-self-inside-requires-clause-bits c = IsDr7-below c.self.inside.bits c.self.invariant

pub invariant_of-self : goal.invariant_of-self
invariant_of-self c =
    rw (c.replace_field-self-inside.ensures, c.get.ensures) (IsDr7-with_condition c.args.n c.self.inside.bits _ c.self.invariant (search rules))

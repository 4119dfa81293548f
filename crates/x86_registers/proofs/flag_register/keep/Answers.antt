use Rattle.x86_registers.proofs.Masks.{keeping-is, keeping-bit_at}
use Rattle.x86_registers.proofs.flag_register.keep.Goals as goal

pub returns-clause-number : goal.returns-clause-number
returns-clause-number c = keeping-is c.args.mask c.args.old c.args.value c.ranges.mask.fits c.ranges.old.fits

pub returns-clause-bits : goal.returns-clause-bits
returns-clause-bits c = keeping-bit_at c.args.mask c.args.old c.args.value c.ranges.mask.fits c.ranges.old.fits

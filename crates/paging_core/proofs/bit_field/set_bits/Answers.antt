use Rattle.std.proofs.Common.{arith}
use Rattle.paging_core.proofs.FieldBits.{set_by_mask, replaces_field}
use Rattle.paging_core.proofs.bit_field.set_bits.Goals as goal

pub returns-clause-value : goal.returns-clause-value
returns-clause-value c =
    rw c.mask.ensures
    (set_by_mask c.args.word c.args.low c.args.high c.args.value c.requires.order c.requires.fits (omega arith) c.requires.within)

pub returns-clause-bits : goal.returns-clause-bits
returns-clause-bits c =
    rw (c.mask.ensures, set_by_mask c.args.word c.args.low c.args.high c.args.value c.requires.order c.requires.fits (omega arith) c.requires.within)
    (replaces_field c.args.word c.args.low c.args.high c.args.value c.requires.order c.requires.fits)

use Rattle.std.proofs.Common.{◌-◌, ◌^◌, ◌/◌}
use Rattle.std.proofs.Math.Nat.{mod-lt}
use Rattle.std.proofs.lemmas.Nat.{pow_pos}
use Rattle.paging_core.proofs.FieldBits.{field_of_mask}
use Rattle.paging_core.proofs.bit_field.get_bits.Goals as goal

pub returns-clause-value : goal.returns-clause-value
returns-clause-value c = rw c.mask.ensures (field_of_mask c.args.low c.args.high c.requires.order c.args.word)

pub returns-clause-fits : goal.returns-clause-fits
returns-clause-fits c =
    rw (c.mask.ensures, field_of_mask c.args.low c.args.high c.requires.order c.args.word)
    (mod-lt (c.args.word / 2 ^ c.args.low) (pow_pos (c.args.high - c.args.low)))

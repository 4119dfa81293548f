use Rattle.paging_core.proofs.FieldBits.{mask_of}
use Rattle.paging_core.proofs.bit_field.mask.Goals as goal

pub returns : goal.returns
returns c = mask_of c.args.low c.args.high c.requires.order c.requires.within

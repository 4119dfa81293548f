use Rattle.std.proofs.Common.{arith}
use Rattle.paging_core.specs.Address.{is_canonical}
use Rattle.heap_picture.proofs.Slots.{neither, not_canonical}
use Rattle.heap_picture.proofs.large.canonical.Goals as goal

pub returns-then-number-gt-LAST_ADDRESS-clause-canonical : goal.returns-then-number-gt-LAST_ADDRESS-clause-canonical
returns-then-number-gt-LAST_ADDRESS-clause-canonical c = neither (is_canonical c.args.number)
    (not_canonical c.args.number (omega (arith, c.if-number-gt-LAST_ADDRESS.true)))

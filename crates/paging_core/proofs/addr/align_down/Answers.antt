use Rattle.std.proofs.Common.{arith}
use Rattle.paging_core.proofs.Alignment.{align-some, down_by_mask, down-multiple, down-near}
use Rattle.paging_core.proofs.addr.align_down.Goals as goal

pub returns-clause-value : goal.returns-clause-value
returns-clause-value c = down_by_mask c.args.align c.requires.power (omega arith) c.args.addr (omega arith)

pub returns-clause-multiple : goal.returns-clause-multiple
returns-clause-multiple c =
    rw (down_by_mask c.args.align c.requires.power (omega arith) c.args.addr (omega arith)) (down-multiple c.args.addr c.args.align)

pub returns-clause-near : goal.returns-clause-near
returns-clause-near c =
    rw (down_by_mask c.args.align c.requires.power (omega arith) c.args.addr (omega arith))
    (down-near c.args.addr c.args.align (align-some c.args.align c.requires.power (omega arith)))

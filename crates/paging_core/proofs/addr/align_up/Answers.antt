use Rattle.std.proofs.Common.{arith}
use Rattle.paging_core.proofs.Alignment.{up-fits}
use Rattle.paging_core.proofs.addr.align_up.Goals as goal

pub overflow_add-addr : goal.overflow_add-addr
overflow_add-addr c = omega (arith, up-fits c.args.align c.requires.power (omega arith) c.args.addr c.requires.fits)

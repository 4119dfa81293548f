use Rattle.paging_core.proofs.Addresses.{truncated_low, truncated_high}
use Rattle.paging_core.proofs.addr.VirtAddr.new_truncate.Goals as goal

pub returns-then-addr-eq0 : goal.returns-then-addr-eq0
returns-then-addr-eq0 c = truncated_low c.args.addr c.if-addr-eq0.true

pub returns-else-addr-eq0 : goal.returns-else-addr-eq0
returns-else-addr-eq0 c = truncated_high c.args.addr c.if-addr-eq0.false

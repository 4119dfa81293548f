use Rattle.dlmalloc.proofs.Bins.OneOrder.{one_order}
use Rattle.dlmalloc.proofs.order_laws.one_order.Goals as goal

pub returns : goal.returns
returns c = λ old one two distinct a b to from. one_order old one two distinct a b to from

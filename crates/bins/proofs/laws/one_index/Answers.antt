use Rattle.bins.proofs.OneIndex.{one_index}
use Rattle.bins.proofs.laws.one_index.Goals as goal

pub returns : goal.returns
returns c = λ regions words bins index other linked linked' size. one_index regions words bins index other linked linked' size

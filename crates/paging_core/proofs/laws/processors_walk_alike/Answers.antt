use Rattle.paging_core.proofs.ProcessorWalk.{walks_alike}
use Rattle.paging_core.proofs.laws.processors_walk_alike.Goals as goal

pub returns : goal.returns
returns c = walks_alike

use Rattle.paging_core.proofs.ProcessorWalk.{walk_steps}
use Rattle.paging_core.proofs.laws.walk_steps_by_indices.Goals as goal

pub returns : goal.returns
returns c = walk_steps

use Rattle.heap_curves.proofs.Meets.{columns_meet}
use Rattle.heap_curves.proofs.laws.columns_meet_the_most.Goals as goal

pub returns : goal.returns
returns c = columns_meet

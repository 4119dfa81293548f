use Rattle.guest_walk.proofs.Usual.{walks_alike}
use Rattle.guest_walk.proofs.laws.walks_as_the_processor.Goals as goal

pub returns : goal.returns
returns c = walks_alike

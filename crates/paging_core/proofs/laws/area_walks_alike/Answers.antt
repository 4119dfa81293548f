use Rattle.paging_core.proofs.AreaWalk.{area_walks}
use Rattle.paging_core.proofs.laws.area_walks_alike.Goals as goal

pub returns : goal.returns
returns c = area_walks

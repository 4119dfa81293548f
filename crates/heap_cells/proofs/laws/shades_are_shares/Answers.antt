use Rattle.heap_cells.proofs.Shares.{shares}
use Rattle.heap_cells.proofs.laws.shades_are_shares.Goals as goal

pub returns : goal.returns
returns c = shares

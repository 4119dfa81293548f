use Rattle.heap_cells.proofs.Drawn.{drawn}
use Rattle.heap_cells.proofs.laws.bars_are_cells.Goals as goal

pub returns : goal.returns
returns c = drawn

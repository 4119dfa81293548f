use Rattle.heap_cells.proofs.Tiling.{tiling}
use Rattle.heap_cells.proofs.laws.rows_are_the_band.Goals as goal

pub returns : goal.returns
returns c = tiling

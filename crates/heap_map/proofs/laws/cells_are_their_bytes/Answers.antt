use Rattle.heap_map.proofs.Pixels.{cells_are}
use Rattle.heap_map.proofs.laws.cells_are_their_bytes.Goals as goal

pub returns : goal.returns
returns c = cells_are

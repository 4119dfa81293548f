use Rattle.heap_map.proofs.Lines.{lines_are}
use Rattle.heap_map.proofs.laws.lines_are_the_heap.Goals as goal

pub returns : goal.returns
returns c = lines_are

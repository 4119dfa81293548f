use Rattle.heap_recorder.proofs.KeptHeap.{parts_drawn}
use Rattle.heap_recorder.proofs.laws.each_region_is_drawn_once.Goals as goal

pub returns : goal.returns
returns c = parts_drawn

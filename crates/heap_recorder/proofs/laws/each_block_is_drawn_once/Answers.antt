use Rattle.heap_recorder.proofs.DrawnOnce.{drawn_once}
use Rattle.heap_recorder.proofs.laws.each_block_is_drawn_once.Goals as goal

pub returns : goal.returns
returns c = drawn_once

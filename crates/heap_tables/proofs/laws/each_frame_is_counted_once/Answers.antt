use Rattle.heap_tables.proofs.Counted.{counted_once}
use Rattle.heap_tables.proofs.laws.each_frame_is_counted_once.Goals as goal

pub returns : goal.returns
returns c = counted_once

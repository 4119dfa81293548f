use Rattle.heap_recorder.proofs.KeptLines.{lines_are_calls}
use Rattle.heap_recorder.proofs.laws.lines_are_the_calls.Goals as goal

pub returns : goal.returns
returns c = lines_are_calls

use Rattle.std.proofs.Common.{arith}
use Rattle.heap_tables.proofs.Squares.{grown_begin}
use Rattle.heap_tables.proofs.tables.square_frames.Goals as goal

pub loop-times-init : goal.loop-times-init
loop-times-init c = record { grown = grown_begin c.args.frames; some = omega arith; few = omega arith }

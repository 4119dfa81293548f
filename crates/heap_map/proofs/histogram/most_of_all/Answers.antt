use Rattle.std.proofs.Common.{refl, arith}
use Rattle.heap_map.proofs.Heights.{most_begin}
use Rattle.heap_map.proofs.histogram.most_of_all.Goals as goal

pub loop-bar-init : goal.loop-bar-init
loop-bar-init c = record { rest = most_begin 0 32 0 c.args.extents.now refl refl refl; few = omega arith }

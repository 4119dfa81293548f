use Rattle.std.proofs.Common.{refl, arith}
use Rattle.heap_curves.proofs.Loops.{height_begin}
use Rattle.heap_curves.proofs.lanes.lanes_height.Goals as goal

pub loop-lane-init : goal.loop-lane-init
loop-lane-init c = record { rest = height_begin c.args.users.now; place = refl; few = omega arith }

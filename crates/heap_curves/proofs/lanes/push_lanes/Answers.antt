use Rattle.std.proofs.Common.{ℕ, List, ◌++◌, ap, arith, string_bytes}
use Rattle.heap_curves.proofs.Loops.{lanes_begin}
use Rattle.heap_curves.proofs.lanes.push_lanes.Goals as goal

pub loop-lane-init : goal.loop-lane-init
loop-lane-init c = record {
  rest = ap (λ (t : List ℕ). string_bytes c.args.out.now ++ t) (lanes_begin c.args.calls c.args.y c.args.users.now);
  place = omega arith;
  few = omega arith;
}

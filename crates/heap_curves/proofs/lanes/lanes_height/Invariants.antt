use Rattle.std.proofs.Common.{◌≡◌, ◌≤◌, ◌+◌, ◌-◌, ◌*◌, ◌^◌}
use Rattle.heap_curves.specs.Lanes.{height_from, lanes_height}
use Rattle.heap_curves.proofs.lanes.lanes_height.Given as goal

abbrev pub invariant-loop-lane : goal.invariant-loop-lane
invariant-loop-lane l = record {
  rest : l.height + height_from (6 - l.lane) l.low l.users ≡ lanes_height l.users;
  place : l.height ≡ 19 * l.lane;
  few : l.low ≤ 2 ^ 64;
}

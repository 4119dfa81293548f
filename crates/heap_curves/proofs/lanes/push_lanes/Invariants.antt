use Rattle.std.proofs.Common.{◌≡◌, ◌≤◌, ◌+◌, ◌-◌, ◌*◌, ◌^◌, ◌++◌, string_bytes}
use Rattle.heap_curves.specs.Lanes.{lanes_from, lanes_text}
use Rattle.heap_curves.proofs.lanes.push_lanes.Given as goal

abbrev pub invariant-loop-lane : goal.invariant-loop-lane
invariant-loop-lane l = record {
  rest : string_bytes l.out ++ lanes_from (6 - l.lane) l.calls l.below l.low l.users ≡ string_bytes l.fn.out ++ lanes_text l.y l.calls l.users;
  place : l.below ≡ l.y + 19 * l.lane;
  few : l.low ≤ 2 ^ 64;
}

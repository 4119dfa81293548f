use Rattle.std.proofs.Common.{◌≡◌, ◌<◌, ◌^◌, ◌++◌, drop, string_bytes}
use Rattle.heap_curves.specs.Lanes.{lane_regions_text}
use Rattle.heap_curves.proofs.lanes.push_regions.Given as goal

abbrev pub invariant-loop-user : goal.invariant-loop-user
invariant-loop-user l = record {
  rest : string_bytes l.out ++ lane_regions_text l.calls l.y l.start l.drawn (drop l.user-index l.users) ≡ string_bytes
      l.fn.out ++ lane_regions_text l.calls l.y l.start 0 l.users;
  few : l.drawn < 2 ^ 81;
}

use Rattle.std.proofs.Common.{◌≡◌, ◌≤◌}
use Rattle.guest_walk.specs.GuestWalk.{guest_walk, finding_of}
use Rattle.guest_walk.proofs.GuestSteps.{from_table}
use Rattle.guest_walk.proofs.whole.walk.Given as goal

abbrev pub invariant-loop-step : goal.invariant-loop-step
invariant-loop-step l = record {
  in_time : l.step ≤ 3;
  onward : guest_walk l.fn.mode l.fn.width l.fn.words l.fn.root l.fn.page ≡ from_table l.fn.mode l.fn.width l.fn.words l.fn.page l.step (finding_of l.from);
}

use Rattle.std.proofs.Common.{◌≡◌, ◌≤◌, ◌++◌, drop, length}
use Rattle.heap_recorder.specs.Regions.{now_after}
use Rattle.heap_recorder.proofs.regions.now_after.Given as goal

abbrev pub invariant-loop-region : goal.invariant-loop-region
invariant-loop-region l = record {
  rest : l.after.items ++ now_after l.call (drop l.place l.now) (drop l.region-index l.list) ≡ now_after l.call l.now l.list;
  within : l.place ≤ length l.now;
}

use Rattle.std.proofs.Common.{◌≡◌, ◌≤◌}
use Rattle.machine_model.specs.State.{State}
use Rattle.heap_program.specs.Progress.{IsAt}
use Rattle.heap_picture.specs.Large.{larges_from}
use Rattle.heap_picture.proofs.large.larges_from.Given as goal

abbrev pub invariant-loop-place : goal.invariant-loop-place
invariant-loop-place l = record {
  count : (s : State) → IsAt l.machine s → l.number ≡ larges_from s.large l.start l.place;
  few : l.number ≤ l.place;
}

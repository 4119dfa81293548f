use Rattle.std.proofs.Common.{◌≤◌}
use Rattle.machine_model.specs.State.{State}
use Rattle.heap_program.specs.Drawing.{HasDrawnCalls}
use Rattle.heap_program.specs.Progress.{IsAt}
use Rattle.heap_program.proofs.generate.Drawing.draw_calls.Given as goal

abbrev pub invariant-calls : goal.invariant-calls
invariant-calls l = record {
  drawn : (s : State) → IsAt l.fn.self.machine s → HasDrawnCalls s l.fn.self l.self l._made;
  given : l.self.given ≤ l._made;
  refused : l.self.refused ≤ l._made;
}

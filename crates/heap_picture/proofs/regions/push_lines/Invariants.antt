use Rattle.std.proofs.Common.{◌≡◌, ◌+◌, ◌*◌, ◌++◌, drop, string_bytes}
use Rattle.machine_model.specs.State.{State}
use Rattle.heap_program.specs.Progress.{IsAt}
use Rattle.heap_picture.specs.Regions.{region_lines_text}
use Rattle.heap_picture.proofs.regions.push_lines.Given as goal

abbrev pub invariant-loop-line : goal.invariant-loop-line
invariant-loop-line l = record {
  rest : (s : State) → IsAt l.machine s → string_bytes l.out ++ region_lines_text s.large l.most l.below
      (drop l.line-index l.lines) ≡ string_bytes l.fn.out ++ region_lines_text s.large l.most l.y l.lines;
  place : l.below ≡ l.y + 25 * l.line-index;
}

use Rattle.std.proofs.Common.{◌≡◌, ◌≤◌, ◌+◌, ◌++◌, drop}
use Rattle.machine_model.specs.State.{total_pages}
use Rattle.heap_picture.specs.Lines.{region_lines_from, region_lines}
use Rattle.heap_picture.proofs.lines.region_lines.Given as goal

abbrev pub invariant-loop-place : goal.invariant-loop-place
invariant-loop-place l = record {
  rest : l.lines.items ++ region_lines_from l.line (drop l.place l.regions) ≡ region_lines l.regions;
  few : l.line.pages + total_pages (drop l.place l.regions) ≤ total_pages l.regions;
}

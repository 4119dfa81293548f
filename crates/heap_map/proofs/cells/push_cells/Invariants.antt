use Rattle.std.proofs.Common.{◌≡◌, ◌≤◌, ◌<◌, ◌-◌, ◌++◌, string_bytes}
use Rattle.heap_map.specs.Cells.{row_cells, runs_from, row_cells_text}
use Rattle.heap_map.proofs.cells.push_cells.Given as goal

abbrev pub invariant-loop-next : goal.invariant-loop-next
invariant-loop-next l = record {
  place : l.start < l.next;
  rest : string_bytes l.out ++ runs_from l.cell l.base l.y l.line l.start l.next l.same (row_cells - l.next) ≡ string_bytes
      l.fn.out ++ row_cells_text l.cell l.base l.y l.line;
  used : l.same.used ≤ 18;
  held : l.same.held ≤ 18;
}

use Rattle.std.proofs.Common.{◌≡◌, ◌≤◌, ◌*◌, ◌^◌, take}
use Rattle.std.specs.List.{sum_by}
use Rattle.heap_tables.specs.Rows.{line_pages}
use Rattle.heap_tables.proofs.tables.all_pages.Given as goal

abbrev pub invariant-loop-line : goal.invariant-loop-line
invariant-loop-line l = record {
  sum : l.pages ≡ sum_by line_pages (take l.line-index l.lines);
  few : l.pages ≤ l.line-index * 2 ^ 64;
}

use Rattle.std.proofs.Common.{◌≡◌, ◌<◌, ◌≤◌, ◌*◌, ◌^◌, ℕ, get_or, take, vec_len}
use Rattle.std.specs.List.{sum_by}
use Rattle.heap_cells.specs.Spans.{overlap}
use Rattle.heap_cells.specs.Shades.{cell_columns}
use Rattle.heap_cells.specs.Changes.{changed_bytes}
use Rattle.heap_cells.proofs.sums.changes.Given as goal

abbrev pub invariant-loop-span : goal.invariant-loop-span
invariant-loop-span l = record {
  each : (k : ℕ) → k < cell_columns l.scale → get_or l.sums.items k 0 ≡ changed_bytes l.scale l.change l.row (take l.span-index l.spans) k;
  length : vec_len l.sums ≡ cell_columns l.scale;
  few : sum_by (overlap l.row.low l.row.high) (take l.span-index l.spans) ≤ l.span-index * 2 ^ 64;
}

use Rattle.std.proofs.Common.{◌≡◌, ◌≤◌, ◌+◌, ◌*◌, ◌^◌, drop}
use Rattle.machine_model.specs.State.{total_pages}
use Rattle.heap_picture.proofs.lines.total_pages.Given as goal

abbrev pub invariant-loop-region : goal.invariant-loop-region
invariant-loop-region l = record {
  rest : l.pages + total_pages (drop l.region-index l.regions) ≡ total_pages l.regions;
  few : l.pages ≤ l.region-index * 2 ^ 64;
}

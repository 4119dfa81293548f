use Rattle.std.proofs.Common.{◌≡◌, ◌≤◌, take}
use Rattle.std.specs.List.{count_by}
use Rattle.heap_time.specs.Covers.{held_cover, band_meets}
use Rattle.heap_time.proofs.covers.held_in.Given as goal

abbrev pub invariant-loop-held : goal.invariant-loop-held
invariant-loop-held l = record {
  count : l.number ≡ count_by (λ held. band_meets l.band (held_cover held)) (take l.held-index l.heap);
  few : l.number ≤ l.held-index;
}

use Rattle.std.proofs.Common.{◌≡◌, ◌≤◌, take}
use Rattle.std.specs.List.{count_by}
use Rattle.heap_time.specs.Covers.{stay_cover, band_meets}
use Rattle.heap_time.proofs.covers.stays_in.Given as goal

abbrev pub invariant-loop-stay : goal.invariant-loop-stay
invariant-loop-stay l = record {
  count : l.number ≡ count_by (λ stay. band_meets l.band (stay_cover stay)) (take l.stay-index l.stays);
  few : l.number ≤ l.stay-index;
}

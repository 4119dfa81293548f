use Rattle.std.proofs.Common.{◌≡◌, ◌≤◌, ◌*◌, ◌^◌, take}
use Rattle.heap_time.specs.Covers.{parts_number}
use Rattle.heap_time.proofs.covers.parts_number.Given as goal

abbrev pub invariant-loop-band : goal.invariant-loop-band
invariant-loop-band l = record {
  sum : l.number ≡ parts_number (take l.band-index l.bands) l.stays l.heap;
  few : l.number ≤ l.band-index * 2 ^ 65;
}

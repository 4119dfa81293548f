use Rattle.std.proofs.Common.{◌≡◌, false, take}
use Rattle.std.specs.List.{list_any}
use Rattle.heap_history.specs.declared.band.Band.{Band}
use Rattle.heap_time.proofs.legend.are_folded.Given as goal

abbrev pub invariant-loop-band : goal.invariant-loop-band
invariant-loop-band l = list_any (λ (band : Band). band.folded) (take l.band-index l.bands) ≡ false

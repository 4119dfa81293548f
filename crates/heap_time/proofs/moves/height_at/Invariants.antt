use Rattle.std.proofs.Common.{◌≡◌, drop}
use Rattle.heap_time.specs.Moves.{height_at}
use Rattle.heap_time.proofs.moves.height_at.Given as goal

abbrev pub invariant-loop-band : goal.invariant-loop-band
invariant-loop-band l = height_at l.address (drop l.band-index l.bands) ≡ height_at l.address l.bands

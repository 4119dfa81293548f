use Rattle.std.proofs.Common.{◌≡◌, take}
use Rattle.heap_cells.specs.Rows.{all_bars}
use Rattle.heap_cells.proofs.rows.all_bars.Given as goal

abbrev pub invariant-loop-band : goal.invariant-loop-band
invariant-loop-band l = l.bars.items ≡ all_bars l.scale l.shades l.spans (take l.band-index l.bands)

use Rattle.heap_time.proofs.OnAxis.{on_the_axis}
use Rattle.heap_time.proofs.laws.bands_tile_the_axis.Goals as goal

pub returns : goal.returns
returns c = on_the_axis

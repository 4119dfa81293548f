use Rattle.dlmalloc.proofs.Blocks.Chunks.{blocks_apart}
use Rattle.dlmalloc.proofs.heap.Dlmalloc.law_blocks_apart.Goals as goal

pub returns : goal.returns
returns g c = blocks_apart c.requires

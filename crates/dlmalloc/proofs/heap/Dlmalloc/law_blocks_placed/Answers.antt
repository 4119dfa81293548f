use Rattle.dlmalloc.proofs.Blocks.Chunks.{block_placed}
use Rattle.dlmalloc.proofs.heap.Dlmalloc.law_blocks_placed.Goals as goal

pub returns : goal.returns
returns g c = block_placed g.A.Links.regions g.A.Links.word c.args.self.now c.requires

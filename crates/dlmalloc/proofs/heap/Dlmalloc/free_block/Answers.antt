use Rattle.dlmalloc.proofs.Blocks.Chunks.{block_chunk, block_head, freed_block}
use Rattle.dlmalloc.proofs.heap.Dlmalloc.free_block.Goals as goal

pub size-size-requires : goal.size-size-requires
size-size-requires g c = block_head g.A.Links.regions g.A.Links.word c.args.self.now c.requires.intact.sound
    c.args.ptr c.requires.block.0 c.requires.block.1

pub dispose_chunk-requires-clause-chunk : goal.dispose_chunk-requires-clause-chunk
dispose_chunk-requires-clause-chunk g c = block_chunk g.A.Links.regions g.A.Links.word c.args.self.now c.requires.intact.sound c.args.ptr c.requires.block.0
    c.requires.block.1 c.size-size.result c.size-size.ensures.value

pub returns-clause-freed : goal.returns-clause-freed
returns-clause-freed g c = freed_block c.args.ptr c.requires.intact.sound c.dispose_chunk.ensures.freed.state
    c.dispose_chunk.ensures.freed.less c.dispose_chunk.ensures.turned.moved c.dispose_chunk.ensures.turned.bins.order

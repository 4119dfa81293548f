use Rattle.heap_program.proofs.LiveBlocks.{holds_blocks}
use Rattle.heap_program.proofs.laws.live_blocks.Goals as goal

pub returns : goal.returns
returns c = holds_blocks

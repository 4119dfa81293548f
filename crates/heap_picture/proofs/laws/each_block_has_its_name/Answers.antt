use Rattle.heap_picture.proofs.Names.{names}
use Rattle.heap_picture.proofs.laws.each_block_has_its_name.Goals as goal

pub returns : goal.returns
returns c = names c.each_block_is_drawn_once.ensures

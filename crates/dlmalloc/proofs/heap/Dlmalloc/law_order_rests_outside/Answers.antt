use Rattle.dlmalloc.proofs.Names.{refl}
use Rattle.dlmalloc.proofs.Blocks.WordsOutside.{still_binned}
use Rattle.dlmalloc.proofs.heap.Dlmalloc.law_order_rests_outside.Goals as goal

pub returns : goal.returns
returns g c = λ sound system stay outside before. (
  still_binned sound system stay outside c.law_index_stays.ensures before,
  λ n. refl,
)

use Rattle.dlmalloc.proofs.Blocks.WordsOutside.{still_sound, still_state, still_binned}
use Rattle.dlmalloc.proofs.heap.Dlmalloc.law_rests_outside.Goals as goal

pub returns : goal.returns
returns g c = λ sound system stay outside. (
  still_sound sound system stay outside,
  still_state sound system stay outside,
  still_binned sound system stay outside c.law_index_stays.ensures,
)

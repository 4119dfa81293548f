use lib.Count.{ones}
use Rattle.std.proofs.Common.{refl}
use Rattle.dlmalloc_rows.proofs.chunks.words_of_a_chunk_change.Goals as goal

pub new-requires : goal.new-requires
unfolding ones
new-requires g c = refl

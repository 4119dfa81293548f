use lib.Count.{ones}
use Rattle.std.proofs.Common.{refl}
use Rattle.dlmalloc_rows.proofs.system.words_and_bytes_are_kept.Goals as goal

pub new-requires : goal.new-requires
unfolding ones
new-requires g c = refl

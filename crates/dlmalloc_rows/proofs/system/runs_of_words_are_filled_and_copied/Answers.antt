use lib.Count.{ones}
use Rattle.std.proofs.Common.{refl}
use Rattle.dlmalloc_rows.proofs.system.runs_of_words_are_filled_and_copied.Goals as goal

pub new-requires : goal.new-requires
unfolding ones
new-requires g c = refl

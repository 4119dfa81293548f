use lib.Count.{ones}
use Rattle.std.proofs.Common.{refl}
use Rattle.dlmalloc_rows.proofs.system.given_back.Goals as goal

pub new-requires : goal.new-requires
unfolding ones
new-requires c = refl

use lib.Count.{ones}
use Rattle.std.proofs.Common.{refl}
use Rattle.dlmalloc_rows.proofs.system.what_a_system_takes_back.Goals as goal

pub new-requires : goal.new-requires
unfolding ones
new-requires g c = refl

use lib.Count.{ones}
use Rattle.std.proofs.Common.{refl}
use Rattle.dlmalloc_rows.proofs.plain_list.answers_as_a_plain_list_does.Goals as goal

pub new-requires : goal.new-requires
unfolding ones
new-requires g c = refl

use Rattle.kernel_tables.proofs.CacheLaws.{hidden}
use Rattle.kernel_tables.proofs.laws.caches_hide_the_area.Goals as goal

pub returns : goal.returns
returns c = hidden

use Rattle.kernel_tables.proofs.CacheLaws.{reloaded}
use Rattle.kernel_tables.proofs.laws.reloaded_caches_agree.Goals as goal

pub returns : goal.returns
returns c = reloaded

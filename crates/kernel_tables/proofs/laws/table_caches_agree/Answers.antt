use Rattle.kernel_tables.proofs.CacheLaws.{tables}
use Rattle.kernel_tables.proofs.laws.table_caches_agree.Goals as goal

pub returns : goal.returns
returns c = tables

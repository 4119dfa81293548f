use Rattle.tlb_cache.proofs.Index.{none_chained}
use Rattle.tlb_cache.proofs.page_index.PageIndex.new.Goals as goal

pub returns-clause-none : goal.returns-clause-none
returns-clause-none c = none_chained _ _ _

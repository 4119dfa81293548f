use Rattle.paging_core.proofs.ProcessorWalk.{none_has_pat}
use Rattle.paging_core.proofs.laws.no_entry_has_pat.Goals as goal

pub returns : goal.returns
returns c = none_has_pat

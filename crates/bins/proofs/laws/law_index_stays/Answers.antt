use Rattle.bins.proofs.Stays.{index_stays}
use Rattle.bins.proofs.laws.law_index_stays.Goals as goal

pub returns : goal.returns
returns c = λ regions regions' old new bins index linked kept. index_stays linked kept

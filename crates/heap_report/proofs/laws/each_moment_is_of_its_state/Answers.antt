use Rattle.heap_report.proofs.KeptMoments.{each_moment}
use Rattle.heap_report.proofs.laws.each_moment_is_of_its_state.Goals as goal

pub returns : goal.returns
returns c = each_moment

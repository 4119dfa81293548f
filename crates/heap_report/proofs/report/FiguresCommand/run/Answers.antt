use Rattle.std.proofs.Common.{refl}
use Rattle.heap_report.proofs.report.FiguresCommand.run.Goals as goal

pub returns-clause-few : goal.returns-clause-few
returns-clause-few g c = c.report_main.ensures.tells.statuses

pub returns-clause-comes : goal.returns-clause-comes
returns-clause-comes g c = (c.report_main.result, refl, c.report_main.ensures.tells)

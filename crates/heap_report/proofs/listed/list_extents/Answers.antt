use Rattle.std.proofs.Common.{rules, refl}
use Rattle.heap_report.proofs.Listing.{listed_from}
use Rattle.heap_report.proofs.listed.list_extents.Goals as goal

pub returns : goal.returns
returns c = listed_from c.args.replay c.answer.new.self c.in_ok-answer.answer _ c.in_ok-answer.ensures c.in_ok-extents.ensures refl (search rules) refl

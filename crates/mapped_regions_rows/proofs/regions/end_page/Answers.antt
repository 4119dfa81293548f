use Rattle.std.proofs.Common.{◌*◌, sym}
use Rattle.mapped_regions_rows.proofs.Missed.{missed_by_all}
use Rattle.mapped_regions_rows.proofs.regions.end_page.Goals as goal

pub returns-clause-boundary : goal.returns-clause-boundary
returns-clause-boundary c = missed_by_all (4096 * c.in_ok-end.end) c.args.list.now (sym c.if-not-are_missed.ensures)

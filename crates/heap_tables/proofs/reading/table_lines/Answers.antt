use Rattle.std.proofs.Common.{rules}
use Rattle.heap_tables.proofs.EachPage.{lines_walked, lines_owned}
use Rattle.heap_tables.proofs.reading.table_lines.Goals as goal

pub returns-clause-walked : goal.returns-clause-walked
returns-clause-walked c = lines_walked c.args.frames.now c.args.regions.now c.args.root c.in_ok-all.all.items (search rules)

pub returns-clause-owned : goal.returns-clause-owned
returns-clause-owned c = lines_owned c.args.frames.now c.args.regions.now c.args.root c.in_ok-all.all.items (search rules)

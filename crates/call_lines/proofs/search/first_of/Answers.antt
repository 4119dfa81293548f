use Rattle.call_lines.proofs.Found.{position_found}
use Rattle.call_lines.proofs.search.first_of.Goals as goal

pub returns : goal.returns
returns c = position_found c.args.byte c.args.bytes.now c.memchr.result c.memchr.ensures

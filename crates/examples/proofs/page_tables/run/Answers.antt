use Rattle.std.proofs.Common.{rules}
use Rattle.examples.proofs.page_tables.run.Goals as goal

pub map_range-requires-clause-mappable : goal.map_range-requires-clause-mappable
map_range-requires-clause-mappable c = record { range = search rules; unmapped = search rules; room = search rules }

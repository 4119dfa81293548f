use Rattle.std.proofs.Common.{rules}
use Rattle.paged_systems.proofs.paged_words.run_of.Goals as goal

pub returns : goal.returns
returns c = record { few = search rules; short = search rules; page = search rules; some = search rules }

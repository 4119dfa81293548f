use Rattle.std.proofs.Common.{rules}
use Rattle.paged_systems.proofs.twin_system.TwinSystem.word.Goals as goal

pub word-requires : goal.word-requires
word-requires c = c.args.self.now.twin.covered c.args.at c.requires

pub returns : goal.returns
returns c = record { reached = search rules; flat = search rules }

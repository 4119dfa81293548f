use Rattle.paged_systems.specs.System.{paged}
use Rattle.paged_systems.proofs.Still.{mapped_word}
use Rattle.paged_systems.proofs.paged_system.PagedSystem.word.Goals as goal

pub word-requires : goal.word-requires
word-requires c = record { word = mapped_word (paged c.args.self.now) c.args.at c.args.self.now.kept c.requires }

use Rattle.std.proofs.Common.{length}
use Rattle.paged_systems.specs.System.{paged}
use Rattle.paged_systems.proofs.StillRuns.{first_mapped}
use Rattle.paged_systems.proofs.paged_system.PagedSystem.words.Goals as goal

pub words-requires : goal.words-requires
words-requires c = record {
  word = first_mapped (paged c.args.self.now) c.args.at (length c.args.words.now)
      c.args.self.now.kept c.requires;
  fits = c.requires.page;
}

use Rattle.std.proofs.Common.{refl}
use Rattle.std.proofs.lemmas.Nat.{and_mask}
use Rattle.paging_core.proofs.Counts.{missing_levels}
use Rattle.paging_core.proofs.missing.missing_tables.Goals as goal

pub returns-clause-count : goal.returns-clause-count
returns-clause-count g c =
    rw (c.missing_of_level.ensures.count, c.missing_of_level-2.ensures.count, c.missing_of_level-3.ensures.count)
    (missing_levels (g.M.PhysicalMemory.words c.args.frames.now) c.args.root c.args.first c.args.pages _ _ c.requires.range (and_mask c.args.first 36) refl)

use Rattle.std.proofs.Common.{rules}
use Rattle.run_figures.proofs.Totals.{all_ended}
use Rattle.run_figures.proofs.sizes.BlockSizes.clear.Goals as goal

pub invariant_of-self : goal.invariant_of-self
invariant_of-self c = all_ended c.self.inside.sizes.items c.end_from.new.sizes.items _ c.end_from.ensures (search rules)

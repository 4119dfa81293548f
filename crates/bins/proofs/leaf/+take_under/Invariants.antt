use Rattle.bins.proofs.leaf.+take_under.Given as goal

abbrev pub decreases-take_under : goal.decreases-take_under
decreases-take_under g l = l.levels

use Rattle.bins.proofs.leave.+unlink_under.Given as goal

abbrev pub decreases-unlink_under : goal.decreases-unlink_under
decreases-unlink_under g l = l.levels

use Rattle.number_set.proofs.level.Level.+filled.Given as goal

abbrev pub decreases-filled : goal.decreases-filled
decreases-filled l = l.bound

use Rattle.meminterval.specs.Subtree.{tree_of}
use Rattle.meminterval.specs.Tree.{levels}
use Rattle.meminterval.proofs.shortening.+shorten_below.Given as goal

abbrev pub decreases-shorten_below : goal.decreases-shorten_below
decreases-shorten_below g l = levels (tree_of l.tree)

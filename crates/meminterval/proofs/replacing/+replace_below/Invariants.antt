use Rattle.meminterval.specs.Subtree.{tree_of}
use Rattle.meminterval.specs.Tree.{levels}
use Rattle.meminterval.proofs.replacing.+replace_below.Given as goal

abbrev pub decreases-replace_below : goal.decreases-replace_below
decreases-replace_below g l = levels (tree_of l.tree.now)

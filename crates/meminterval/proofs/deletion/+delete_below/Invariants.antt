use Rattle.meminterval.specs.Subtree.{tree_of}
use Rattle.meminterval.specs.Tree.{levels}
use Rattle.meminterval.proofs.deletion.+delete_below.Given as goal

abbrev pub decreases-delete_below : goal.decreases-delete_below
decreases-delete_below g l = levels (tree_of l.tree)

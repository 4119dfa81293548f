use Rattle.meminterval.specs.Subtree.{tree_of}
use Rattle.meminterval.specs.Tree.{levels}
use Rattle.meminterval.proofs.iterators_mut.+place_below.Given as goal

abbrev pub decreases-place_below : goal.decreases-place_below
decreases-place_below g l = levels (tree_of l.tree.now)

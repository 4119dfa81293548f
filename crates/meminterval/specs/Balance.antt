-- Trees that record what is right and are balanced, before and after a change.
use Rattle.std.specs.Prelude.{◌≡◌, ℕ, ◌+◌, ◌<◌, ◌≤◌, ◌^◌, ◌∷◌, ◌++◌, max, length}
use Rattle.std.specs.declared.cmp.Ordering.{Ordering}
use Rattle.meminterval.specs.declared.interval.Interval.{Interval}
use Rattle.meminterval.specs.declared.node.Node.{Node}
use Rattle.meminterval.specs.declared.node.Subtree.{Subtree}
use Rattle.meminterval.specs.Subtree.{tree_of, tree_of_node, IsRecorded, IsRecordedNode}
use Rattle.meminterval.specs.Tree.{entries, levels, DifferByAtMost, IsBalanced}

module _ {T V : Type 0} (cmp : T → T → Ordering) where
  -- two trees that record what is right and are balanced, and have room for a pair between them
  pub record AreSides (l r : Subtree T V) : Type 0 where
    pub left : IsRecorded cmp l × IsBalanced (tree_of l)
    pub right : IsRecorded cmp r × IsBalanced (tree_of r)
    pub room : length (entries (tree_of l)) + length (entries (tree_of r)) < 2 ^ 63

  -- t has the pairs of l, e and r in that order, records what is right, is balanced, and is as high as the higher of l and
  -- r or one level higher
  pub record IsRestored (l : Subtree T V) (e : Interval T × V) (r t : Subtree T V) : Type 0 where
    pub pairs : entries (tree_of t) ≡ entries (tree_of l) ++ e ∷ entries (tree_of r)
    pub recorded : IsRecorded cmp t
    pub balanced : IsBalanced (tree_of t)
    pub not_lower : max (levels (tree_of l)) (levels (tree_of r)) ≤ levels (tree_of t)
    pub not_higher : levels (tree_of t) ≤ max (levels (tree_of l)) (levels (tree_of r)) + 1
    pub in_balance :
        DifferByAtMost 1 (levels (tree_of l)) (levels (tree_of r)) → levels (tree_of t) ≡ max (levels (tree_of l)) (levels (tree_of r)) + 1

  -- a node and the trees below it record what is right and are balanced, and there are at most 2^63 pairs
  pub record IsSoundBelow (n : Node T V) : Type 0 where
    pub recorded : IsRecordedNode cmp n
    pub balanced : IsBalanced (tree_of_node n)
    pub room : length (entries (tree_of_node n)) ≤ 2 ^ 63

  -- the tree records what is right, is balanced, and has n levels or one fewer
  pub record HasLostAtMostALevel (n : ℕ) (t : Subtree T V) : Type 0 where
    pub recorded : IsRecorded cmp t
    pub balanced : IsBalanced (tree_of t)
    pub not_higher : levels (tree_of t) ≤ n
    pub not_lower : n ≤ levels (tree_of t) + 1

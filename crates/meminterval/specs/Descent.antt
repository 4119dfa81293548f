-- The way down a tree to a place, at most a given number of turns long.
use Rattle.std.specs.Prelude.{ℕ, zero, suc, ◌-◌, cond, nat_lt, Option, Some, None, length}
use Rattle.meminterval.specs.declared.node.Node.{Node}
use Rattle.meminterval.specs.declared.node.Subtree.{Subtree}
use Rattle.meminterval.specs.declared.node.Subtree.TheVariants.{Empty, Fork'}
use Rattle.meminterval.specs.Subtree.{tree_of}
use Rattle.meminterval.specs.Tree.{visited}

module _ {T V : Type 0} where
  -- the subtree in which the k-th pair after the node's own lies
  abbrev pub turn : Node T V → ℕ → Subtree T V
  turn n k = cond (nat_lt k (length (visited (tree_of n.right)))) n.right n.left

  -- its place there
  abbrev pub rest : Node T V → ℕ → ℕ
  rest n k = cond (nat_lt k (length (visited (tree_of n.right)))) k (k - length (visited (tree_of n.right)))

  -- the node with another tree there
  abbrev pub put_turn : Node T V → ℕ → Subtree T V → Node T V
  put_turn n k w = cond (nat_lt k (length (visited (tree_of n.right)))) (record n { right = w }) (record n { left = w })

  -- the node at a place, or the one on the way to it after this many turns
  abbrev pub reached : ℕ → Subtree T V → ℕ → Option (Node T V)
  reached d Empty k = None
  reached d (Fork' p l i v g n s r) zero = Some (record { left = l; interval = i; value = v; greatest = g; levels = n; size = s; right = r })
  reached zero (Fork' p l i v g n s r) (suc k) = Some (record { left = l; interval = i; value = v; greatest = g; levels = n; size = s; right = r })
  reached (suc d) (Fork' p l i v g n s r) (suc k) = cond (nat_lt k (length (visited (tree_of r)))) (reached d r k) (reached d l (k - length (visited (tree_of r))))

  -- the place below that node
  abbrev pub left_after : ℕ → Subtree T V → ℕ → ℕ
  left_after d Empty k = k
  left_after d (Fork' p l i v g n s r) zero = 0
  left_after zero (Fork' p l i v g n s r) (suc k) = suc k
  left_after (suc d) (Fork' p l i v g n s r) (suc k) = cond (nat_lt k (length (visited (tree_of r)))) (left_after d r k) (left_after d l (k - length (visited (tree_of r))))

  -- the tree with another node there
  abbrev pub put_reached : ℕ → Subtree T V → ℕ → Node T V → Subtree T V
  put_reached d Empty k w = Empty
  put_reached d (Fork' p l i v g n s r) zero w = Fork' p w.left w.interval w.value w.greatest w.levels w.size w.right
  put_reached zero (Fork' p l i v g n s r) (suc k) w = Fork' p w.left w.interval w.value w.greatest w.levels w.size w.right
  put_reached (suc d) (Fork' p l i v g n s r) (suc k) w = cond (nat_lt k (length (visited (tree_of r)))) (Fork' p l i v g n s (put_reached d r k w)) (Fork' p (put_reached d l (k - length (visited (tree_of r))) w) i v g n s r)

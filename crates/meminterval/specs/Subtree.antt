-- What a node with its two subtrees is seen as, and that what it records of them is right.
use Rattle.std.specs.Prelude.{◌≡◌, ◌≤◌, ◌^◌, length, Option, Some, None}
use Rattle.std.specs.declared.alloc.Global.{Global}
use Rattle.std.specs.declared.boxed.Box.{Box}
use Rattle.std.specs.declared.cmp.Ordering.{Ordering}
use Rattle.std.specs.Ordering.{ord_max}
use Rattle.meminterval.specs.declared.interval.Interval.{Interval}
use Rattle.meminterval.specs.declared.node.Node.{Node}
use Rattle.meminterval.specs.declared.node.Subtree.{Subtree}
use Rattle.meminterval.specs.declared.node.Subtree.TheVariants.{Empty, Fork'}
use Rattle.meminterval.specs.Entries.{IsOrdered}
use Rattle.meminterval.specs.Interval.{by_ends}
use Rattle.meminterval.specs.Tree.{Tree, Leaf, Fork, entries, levels, IsBalanced}

-- the greater of an end and a greatest end, if there is one
abbrev pub raised : {T : Type 0} → (T → T → Ordering) → T → Option T → T
raised cmp x None = x
raised cmp x (Some y) = ord_max cmp x y

module _ {T V : Type 0} where
  -- the tree without the numbers that its nodes keep
  abbrev pub tree_of : Subtree T V → Tree (Interval T × V)
  tree_of Empty = Leaf
  tree_of (Fork' p l i v g n s r) = Fork (tree_of l) (i, v) (tree_of r)

  -- a node with its two subtrees
  abbrev pub tree_of_node : Node T V → Tree (Interval T × V)
  tree_of_node n = Fork (tree_of n.left) (n.interval, n.value) (tree_of n.right)

  -- a pair with no subtrees
  abbrev pub single : Interval T → V → Node T V
  single i v = record { left = Empty; interval = i; value = v; greatest = i.end; levels = 1; size = 1; right = Empty }

  -- the two subtrees of a node, and its pair
  pub record IsSplit (n : Node T V) (parts : Subtree T V × Box (Node T V) Global × Subtree T V) : Type 0 where
    pub left : parts.0 ≡ n.left
    pub interval : parts.1.value.interval ≡ n.interval
    pub value : parts.1.value.value ≡ n.value
    pub right : parts.2 ≡ n.right

  module _ (cmp : T → T → Ordering) where
    -- the greatest end of the pairs
    abbrev pub greatest_end : Tree (Interval T × V) → Option T
    greatest_end Leaf = None
    greatest_end (Fork l e r) = Some (raised cmp (raised cmp e.0.end (greatest_end l)) (greatest_end r))

    -- each node records the greatest end, the levels and the size of the tree below it
    abbrev pub IsRecorded : Subtree T V → Type 0
    IsRecorded Empty = Unit {0}
    IsRecorded (Fork' p l i v g n s r) = IsRecorded l × IsRecorded r
        × (Some g ≡ greatest_end (Fork (tree_of l) (i, v) (tree_of r)))
        × (n ≡ levels (Fork (tree_of l) (i, v) (tree_of r)))
        × (s ≡ length (entries (Fork (tree_of l) (i, v) (tree_of r))))

    -- the same of a node and the trees below it
    abbrev pub IsRecordedNode : Node T V → Type 0
    IsRecordedNode n = IsRecorded n.left × IsRecorded n.right
        × (Some n.greatest ≡ greatest_end (tree_of_node n))
        × (n.levels ≡ levels (tree_of_node n))
        × (n.size ≡ length (entries (tree_of_node n)))

    -- what is recorded is right, the pairs are in order, and there are at most 2^63
    pub record IsSearchable (t : Subtree T V) : Type 0 where
      pub recorded : IsRecorded t
      pub ordered : IsOrdered (by_ends cmp) (entries (tree_of t))
      pub few : length (entries (tree_of t)) ≤ 2 ^ 63

    -- what is recorded is right, the tree is balanced, its pairs are in order, and there are at most 2^63
    pub record IsSound (t : Subtree T V) : Type 0 where
      pub recorded : IsRecorded t
      pub balanced : IsBalanced (tree_of t)
      pub ordered : IsOrdered (by_ends cmp) (entries (tree_of t))
      pub few : length (entries (tree_of t)) ≤ 2 ^ 63

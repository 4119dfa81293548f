-- The pairs of a tree that overlap an interval, and what a search for them has left to look at.
use Rattle.std.specs.Prelude.{ℕ, ◌+◌, ◌≤◌, List, [], ◌∷◌, ◌++◌, vec_capacity}
use Rattle.std.specs.List.{filter}
use Rattle.std.specs.declared.cmp.Ordering.{Ordering}
use Rattle.std.specs.Borrow.{Bor}
use Rattle.std.specs.declared.vec.Vec.{Vec}
use Rattle.meminterval.specs.declared.interval.Interval.{Interval}
use Rattle.meminterval.specs.declared.node.Node.{Node}
use Rattle.meminterval.specs.Entries.{IsOrdered}
use Rattle.meminterval.specs.Interval.{by_ends, overlaps}
use Rattle.meminterval.specs.Subtree.{tree_of_node, IsRecordedNode}
use Rattle.meminterval.specs.Tree.{Tree, entries, levels, visited}

module _ {T V : Type 0} where
  -- the pairs below nodes, those of the last node first
  abbrev pub to_visit : List (Bor (Node T V)) → List (Interval T × V)
  to_visit [] = []
  to_visit (n ∷ ns) = to_visit ns ++ visited (tree_of_node n.now)

  module _ (cmp : T → T → Ordering) where
    -- the pairs whose intervals overlap i, in the order node, right subtree, left subtree
    abbrev pub overlapping : Interval T → Tree (Interval T × V) → List (Interval T × V)
    overlapping i t = filter (λ e. overlaps cmp e.0 i) (visited t)

    -- what the node records is right, and its pairs are in order
    abbrev pub IsSoundNode : Node T V → Type 0
    IsSoundNode n = IsRecordedNode cmp n × IsOrdered (by_ends cmp) (entries (tree_of_node n))

    -- nodes at the places from k on, each of which has fewer levels than there are places from its own on
    abbrev pub IsWalk : ℕ → ℕ → List (Bor (Node T V)) → Type 0
    IsWalk places k [] = Unit {0}
    IsWalk places k (n ∷ ns) = IsSoundNode n.now × (levels (tree_of_node n.now) + k ≤ places) × IsWalk places (k + 1) ns

    -- the nodes of a vector are such a walk, in which its capacity is the number of places
    abbrev pub IsWalkOf : {A : Type 0} → Vec (Bor (Node T V)) A → Type 0
    IsWalkOf nodes = IsWalk (vec_capacity nodes) 0 nodes.items

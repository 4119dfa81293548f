-- What an insertion leaves of a tree.
use Rattle.std.specs.Prelude.{◌≡◌, ◌+◌, ◌≤◌, None, IsSome}
use Rattle.std.specs.declared.cmp.Ordering.{Ordering}
use Rattle.meminterval.specs.declared.insertion.Insertion.{Insertion}
use Rattle.meminterval.specs.declared.insertion.Insertion.TheVariants.{Added, Present, NoMemory}
use Rattle.meminterval.specs.declared.interval.Interval.{Interval}
use Rattle.meminterval.specs.declared.node.Subtree.{Subtree}
use Rattle.meminterval.specs.Entries.{value_at, with_entry}
use Rattle.meminterval.specs.Interval.{by_ends}
use Rattle.meminterval.specs.Subtree.{tree_of, IsRecorded}
use Rattle.meminterval.specs.Tree.{entries, levels, IsBalanced}

module _ {T V : Type 0} (cmp : T → T → Ordering) (pair : Interval T × V) (before : Subtree T V) where
  -- the pair was not there, and stands in its place among the others
  pub record IsAdded (after : Subtree T V) : Type 0 where
    pub absent : value_at (by_ends cmp) pair.0 (entries (tree_of before)) ≡ None
    pub pairs : entries (tree_of after) ≡ with_entry (by_ends cmp) pair (entries (tree_of before))
    pub recorded : IsRecorded cmp after
    pub balanced : IsBalanced (tree_of after)
    pub not_lower : levels (tree_of before) ≤ levels (tree_of after)
    pub not_higher : levels (tree_of after) ≤ levels (tree_of before) + 1

  -- the pair's interval was there, and the nodes are as they were
  pub record IsPresent (after : Subtree T V) : Type 0 where
    pub there : IsSome (value_at (by_ends cmp) pair.0 (entries (tree_of before)))
    pub same : after ≡ before

  -- the pair was not there, and the nodes are as they were
  pub record IsInsertRefused (after : Subtree T V) : Type 0 where
    pub absent : value_at (by_ends cmp) pair.0 (entries (tree_of before)) ≡ None
    pub same : after ≡ before

  abbrev pub IsInsertion : Insertion T V → Type 0
  IsInsertion (Added after) = IsAdded after
  IsInsertion (Present after) = IsPresent after
  IsInsertion (NoMemory after) = IsInsertRefused after

-- A cursor over the pairs that overlap an interval, which replaces their values.
use Rattle.std.specs.Prelude.{◌≡◌, ℕ, zero, suc, ◌+◌, List, drop, Option, Some, None}
use Rattle.std.specs.List.{filter, slice_get}
use Rattle.std.specs.Borrow.{MutBor}
use Rattle.std.specs.declared.cmp.Ordering.{Ordering}
use Rattle.meminterval.specs.declared.interval.Interval.{Interval}
use Rattle.meminterval.specs.declared.iterators_mut.IntervalTreeIteratorMut.{IntervalTreeIteratorMut}
use Rattle.meminterval.specs.Interval.{overlaps}
use Rattle.meminterval.specs.Place.{map_at, place_from, with_value}
use Rattle.meminterval.specs.Tree.{Tree, visited}

abbrev pub Cursor : Type 0 → Type 0 → Type 0
Cursor T V = IntervalTreeIteratorMut T V

-- the last of the first n items
abbrev pub last_of : {E : Type 0} → List E → ℕ → Option E
last_of xs zero = None
last_of xs (suc k) = slice_get xs k

-- the tree with f of the last of its first n pairs, in the order node, right subtree, left subtree
abbrev pub map_last : {E : Type 0} → (E → E) → Tree E → ℕ → Tree E
map_last f t zero = t
map_last f t (suc k) = map_at f t k

module _ {T V : Type 0} where
  -- a cursor over the tree that was lent, before its first pair
  pub record IsBefore (t : MutBor (Tree (Interval T × V))) (i : Interval T) (c : Cursor T V) : Type 0 where
    pub same : c.tree.ghost_name ≡ t.ghost_name
    pub tree : c.tree.now ≡ t.now
    pub interval : c.interval ≡ i
    pub passed : c.passed ≡ 0

  -- the pair that was passed last
  abbrev pub last_passed : Cursor T V → Option (Interval T × V)
  last_passed c = last_of (visited c.tree.now) c.passed

  -- the cursor whose tree has another value at that pair
  abbrev pub with_value_there : Cursor T V → V → Cursor T V
  with_value_there c w = record c { tree = record c.tree { now = map_last (with_value w) c.tree.now c.passed } }

  abbrev pub moved_to : Cursor T V → Option ℕ → Cursor T V
  moved_to c None = c
  moved_to c (Some k) = record c { passed = k + 1 }

  module _ (cmp : T → T → Ordering) where
    -- the pairs that overlap and were not passed, in the order node, right subtree, left subtree
    abbrev pub left_of : Cursor T V → List (Interval T × V)
    left_of c = filter (λ e. overlaps cmp e.0 c.interval) (drop c.passed (visited c.tree.now))

    -- the cursor after the first pair that overlaps and was not passed, if there is one
    abbrev pub moved : Cursor T V → Cursor T V
    moved c = moved_to c (place_from (λ e. overlaps cmp e.0 c.interval) c.passed (visited c.tree.now))

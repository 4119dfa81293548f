-- What a cursor ends as, once the pair that it answered is no longer used.
use Rattle.std.specs.Prelude.{◌≡◌, ℕ, Bool, Option, [], ⊤}
use Rattle.std.specs.Borrow.{Fml, LendsIf, MutBor, RattleType, follows_so}
use mathlib.Core.Option.{none}
use mir.Syntax.{named}
use Rattle.std.specs.declared.cmp.Ordering.{Ordering}
use Rattle.meminterval.specs.QueryMut.{Cursor, map_last, moved, with_value_there}
use Rattle.meminterval.specs.declared.interval.Interval.{Interval}
use Rattle.meminterval.specs.Place.{with_value}
use Rattle.meminterval.specs.Tree.{Tree}
use Rattle.meminterval.specs.contracts.tree.IntervalTree as tree
use Rattle.meminterval.specs.contracts.iterators_mut.IntervalTreeIteratorMut as cursor

-- the functions by which keys are compared and cloned
abbrev pub KeyMembers : Type 0 → Type 1
KeyMembers T = record { eq : T → T → Bool; partial_cmp : T → T → Option Ordering; cmp : T → T → Ordering; is_clone : T → T → Type 0; is_infallible : T → Type 0 }

module _ (T V : RattleType) (key : KeyMembers T.Denot) where
  -- a cursor's type, as the logic holds it; its lifetime is the second of the signature
  abbrev pub cursor_row : RattleType
  cursor_row = cursor.the_row (record { mir = named 1; lft = [] }) T V (record { cmp = key.cmp }) (record { eq = key.eq }) (record { partial_cmp = key.partial_cmp }) (record { is_clone = key.is_clone; is_infallible = key.is_infallible })

  -- the cursor is after the next pair, if there is one
  abbrev pub ends_moved : MutBor (Cursor T.Denot V.Denot) → Fml
  ends_moved c = follows_so cursor_row cursor_row c.ghost_name none (λ _ _. ⊤) (λ n. n ≡ moved key.cmp c.now)

  -- a tree's type, as the logic holds it
  abbrev pub tree_row : RattleType
  tree_row = tree.the_row T V (record { cmp = key.cmp }) (record { eq = key.eq }) (record { partial_cmp = key.partial_cmp }) (record { is_clone = key.is_clone; is_infallible = key.is_infallible })

  -- the tree ends with the value of the last of its first n pairs as it is left there
  abbrev pub LendsLastOf : MutBor (Tree (Interval T.Denot × V.Denot)) → ℕ → Option (MutBor V.Denot) → Fml
  LendsLastOf t n r = LendsIf tree_row V t r (λ w. map_last (with_value w) t.now n) t.now

  -- the cursor ends with the value of the pair that was passed last as it is left there
  abbrev pub LendsLast : MutBor (Cursor T.Denot V.Denot) → Option (MutBor V.Denot) → Fml
  LendsLast c r = LendsIf cursor_row V c r (with_value_there c.now) c.now

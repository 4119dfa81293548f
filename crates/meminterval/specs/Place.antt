-- The places of pairs, counted from 0 in the order of a query.
use Rattle.std.specs.Prelude.{ℕ, zero, suc, ◌+◌, ◌-◌, Bool, cond, nat_lt, Option, Some, None, List, [], ◌∷◌, length}
use Rattle.std.specs.Option.{option_map}
use Rattle.meminterval.specs.declared.interval.Interval.{Interval}
use Rattle.meminterval.specs.declared.node.Subtree.{Subtree}
use Rattle.meminterval.specs.declared.node.Subtree.TheVariants.{Empty, Fork'}
use Rattle.meminterval.specs.Subtree.{tree_of}
use Rattle.meminterval.specs.Tree as tree
use Rattle.meminterval.specs.Tree.{Tree, Leaf, visited}

module _ {E : Type 0} where
  -- the least place from k on at which the item passes
  abbrev pub place_from : (E → Bool) → ℕ → List E → Option ℕ
  place_from p k [] = None
  place_from p zero (x ∷ xs) = cond (p x) (Some 0) (option_map (λ n. n + 1) (place_from p zero xs))
  place_from p (suc k) (x ∷ xs) = option_map (λ n. n + 1) (place_from p k xs)

  -- the tree with f of the pair at a place
  abbrev pub map_at : (E → E) → Tree E → ℕ → Tree E
  map_at f Leaf k = Leaf
  map_at f (tree.Fork l e r) zero = tree.Fork l (f e) r
  map_at f (tree.Fork l e r) (suc k) = cond (nat_lt k (length (visited r))) (tree.Fork l e (map_at f r k)) (tree.Fork (map_at f l (k - length (visited r))) e r)

-- the pair with another value
abbrev pub with_value : {T V : Type 0} → V → Interval T × V → Interval T × V
with_value w e = (e.0, w)

-- the nodes with another value at a place
abbrev pub put_value : {T V : Type 0} → V → Subtree T V → ℕ → Subtree T V
put_value w Empty k = Empty
put_value w (Fork' p l i v g n s r) zero = Fork' p l i w g n s r
put_value w (Fork' p l i v g n s r) (suc k) = cond (nat_lt k (length (visited (tree_of r)))) (Fork' p l i v g n s (put_value w r k)) (Fork' p (put_value w l (k - length (visited (tree_of r)))) i v g n s r)

-- the nodes with another value at the last of the first n places
abbrev pub put_last : {T V : Type 0} → V → Subtree T V → ℕ → Subtree T V
put_last w t zero = t
put_last w t (suc k) = put_value w t k

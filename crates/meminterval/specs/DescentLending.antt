-- What a tree ends as, once a node of it that was lent is no longer used.
use Rattle.std.specs.Prelude.{ℕ, Option}
use Rattle.std.specs.Borrow.{Fml, Lends, LendsIf, MutBor, RattleType}
use Rattle.meminterval.specs.declared.node.Node.{Node}
use Rattle.meminterval.specs.declared.node.Subtree.{Subtree}
use Rattle.meminterval.specs.contracts.node.Node as node
use Rattle.meminterval.specs.contracts.node.Subtree as subtree
use Rattle.meminterval.specs.Descent.{put_reached, put_turn}
use Rattle.meminterval.specs.Place.{put_last, put_value}

module _ (T V : RattleType) where
  -- the node ends with the tree in which the way goes on as it is left there
  abbrev pub LendsTurn : MutBor (Node T.Denot V.Denot) → ℕ → MutBor (Subtree T.Denot V.Denot) → Fml
  LendsTurn n k r = Lends (node.the_row T V) (subtree.the_row T V) n r (put_turn n.now k)

  -- the tree ends with the node that was reached as it is left there
  abbrev pub LendsReached : MutBor (Subtree T.Denot V.Denot) → ℕ → ℕ → Option (MutBor (Node T.Denot V.Denot)) → Fml
  LendsReached t d k r = LendsIf (subtree.the_row T V) (node.the_row T V) t r (put_reached d t.now k) t.now

  -- the tree ends with the value at a place as it is left there
  abbrev pub LendsValue : MutBor (Subtree T.Denot V.Denot) → ℕ → Option (MutBor V.Denot) → Fml
  LendsValue t k r = LendsIf (subtree.the_row T V) V t r (λ w. put_value w t.now k) t.now

  -- the tree ends with the value at the last of the first n places as it is left there
  abbrev pub LendsLastValue : MutBor (Subtree T.Denot V.Denot) → ℕ → Option (MutBor V.Denot) → Fml
  LendsLastValue t n r = LendsIf (subtree.the_row T V) V t r (λ w. put_last w t.now n) t.now

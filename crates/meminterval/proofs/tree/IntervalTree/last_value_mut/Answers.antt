use Rattle.std.proofs.Common.{sym}
use Rattle.meminterval.specs.Subtree.{tree_of}
use Rattle.meminterval.proofs.Depth.{low}
use Rattle.meminterval.proofs.Descents.{read_same}
use Rattle.meminterval.proofs.Places.{sound_put_last, tree_of-put_last}
use Rattle.meminterval.proofs.tree.IntervalTree.last_value_mut.Goals as goal

pub last_value_below-requires-clause-low : goal.last_value_below-requires-clause-low
last_value_below-requires-clause-low g c = low (tree_of c.self.inside.root) c.self.invariant.balanced c.self.invariant.few

pub invariant_of-self-lent : goal.invariant_of-self-lent
invariant_of-self-lent g c = λ r. (λ w. sound_put_last w g.T.Ord.cmp c.self.inside.root c.args.passed c.self.invariant, c.self.invariant)

pub returns : goal.returns
returns g c = (
  read_same _ (λ w. rw (sym c.self.view_is) (tree_of-put_last w c.self.inside.root c.args.passed)) c.self.view_is,
  record { lends = tt; value = rw (sym c.self.view_is) c.last_value_below.ensures.value },
)

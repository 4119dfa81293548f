use Rattle.std.proofs.Common.{arith}
use Rattle.meminterval.specs.Interval.{overlaps}
use Rattle.meminterval.specs.Subtree.{tree_of}
use Rattle.meminterval.specs.Tree.{visited}
use Rattle.meminterval.proofs.Search.{places_within}
use Rattle.meminterval.proofs.Trees.{length_visited}
use Rattle.meminterval.proofs.tree.IntervalTree.place_from.Goals as goal

pub returns-clause-within : goal.returns-clause-within
returns-clause-within g c =
    rw (← c.self.view_is) (places_within (λ e. overlaps g.T.Ord.cmp e.0 c.args.interval.now)
    (visited (tree_of c.self.inside.root)) c.args.passed c.place_below.result c.place_below.ensures)

pub returns-clause-few : goal.returns-clause-few
returns-clause-few g c =
    let few = c.self.invariant.few in
    rw (← c.self.view_is) (omega (arith, few, length_visited (tree_of c.self.inside.root)))

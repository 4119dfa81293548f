use Rattle.std.proofs.Common.{arith, length-append}
use Rattle.meminterval.specs.Interval.{by_ends}
use Rattle.meminterval.specs.Subtree.{tree_of}
use Rattle.meminterval.specs.Tree.{entries}
use Rattle.meminterval.proofs.Ordered.{ordered_front}
use Rattle.meminterval.proofs.tree.IntervalTree.delete_max.Goals as goal

pub invariant_of-self : goal.invariant_of-self
invariant_of-self g c =
    let s = rw (← c.in-Fork.ensures.value, ← c.take_greatest-rest.ensures.pairs) at c.self.invariant.ordered in
    let few = rw (← c.in-Fork.ensures.value, ← c.take_greatest-rest.ensures.pairs, length-append) at c.self.invariant.few in
    record {
      recorded = c.take_greatest-rest.ensures.rest.recorded;
      balanced = c.take_greatest-rest.ensures.rest.balanced;
      ordered = ordered_front (by_ends g.T.Ord.cmp) (entries (tree_of c.take_greatest-rest.result.0)) _ s;
      few = omega (arith, few);
    }

use Rattle.std.proofs.Common.{arith}
use Rattle.meminterval.specs.Interval.{by_ends}
use Rattle.meminterval.specs.Subtree.{tree_of}
use Rattle.meminterval.specs.Tree.{entries}
use Rattle.meminterval.proofs.Ordered.{ordered_without, without_length}
use Rattle.meminterval.proofs.tree.IntervalTree.delete.Goals as goal

pub invariant_of-self : goal.invariant_of-self
invariant_of-self g c =
    let few = c.self.invariant.few in
    let fewer = without_length (by_ends g.T.Ord.cmp) c.args.interval.now (entries (tree_of c.self.inside.root)) in
    record {
      recorded = c.delete_below.ensures.rest.recorded;
      balanced = c.delete_below.ensures.rest.balanced;
      ordered = rw (c.delete_below.ensures.pairs, c.replace-root.ensures.value)
          (ordered_without (by_ends g.T.Ord.cmp) c.args.interval.now _ c.self.invariant.ordered);
      few = rw (c.delete_below.ensures.pairs, c.replace-root.ensures.value)
          (omega (arith, few, fewer));
    }

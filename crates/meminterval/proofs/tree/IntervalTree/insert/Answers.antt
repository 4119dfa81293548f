use Rattle.std.proofs.Common.{sym, ap, ◌∙◌, arith}
use Rattle.meminterval.specs.Interval.{by_ends}
use Rattle.meminterval.specs.Subtree.{tree_of}
use Rattle.meminterval.specs.Tree.{entries}
use Rattle.meminterval.proofs.Ordered.{by_ends-total, ordered_with, with_entry_length, with_there}
use Rattle.meminterval.proofs.tree.IntervalTree.insert.Goals as goal

pub invariant_of-self : goal.invariant_of-self
invariant_of-self g c =
    let added = rw c.replace-root.ensures.value at c.in-Added.ensures in
    let pairs = added.pairs in
    let few = rw (← c.self.view_is) at c.requires.room in
    record {
      recorded = added.recorded;
      balanced = added.balanced;
      ordered = rw pairs (ordered_with (by_ends g.T.Ord.cmp) (by_ends-total g.met.T.Ord.total) _ _ c.self.invariant.ordered);
      few = rw pairs (omega (arith, few, with_entry_length (by_ends g.T.Ord.cmp) (c.args.interval, c.args.value) (entries (tree_of c.self.inside.root))));
    }

pub returns-in-Present-clause-ok : goal.returns-in-Present-clause-ok
returns-in-Present-clause-ok g c =
    let present = rw c.replace-root.ensures.value at c.in-Present.ensures in
    let there = rw c.self.view_is at present.there in
    let s = rw c.self.view_is at c.self.invariant.ordered in
    ap (λ t. entries (tree_of t)) present.same ∙ ap entries c.self.view_is
    ∙ sym (with_there (by_ends g.T.Ord.cmp) (by_ends-total g.met.T.Ord.total) (c.args.interval, c.args.value) (entries c.args.self.now) s there)

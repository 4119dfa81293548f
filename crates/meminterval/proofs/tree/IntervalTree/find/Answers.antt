use Rattle.std.proofs.Common.{sym, ◌∙◌}
use Rattle.meminterval.specs.Interval.{by_ends}
use Rattle.meminterval.proofs.Ordered.{by_ends-total, ordered_front, ordered_after, value_left, value_middle, value_right}
use Rattle.meminterval.proofs.tree.IntervalTree.find.Goals as goal

pub returns-in-Equal : goal.returns-in-Equal
returns-in-Equal g c =
    let s = rw c.in-Fork.is at c.loop-at.invariant.ordered in
    let h = rw c.deref.ensures at (sym c.cmp.ensures ∙ c.in-Equal.is) in
    rw (c.deref-in-Equal.ensures, ← c.loop-at.invariant.same, c.in-Fork.is)
    (sym (value_middle (by_ends g.T.Ord.cmp) (by_ends-total g.met.T.Ord.total) _ _ _ s _ h))

pub loop-at-preserved-in-Less : goal.loop-at-preserved-in-Less
loop-at-preserved-in-Less g c =
    let s = rw c.in-Fork.is at c.loop-at.invariant.ordered in
    let e = rw c.in-Fork.is at c.loop-at.invariant.same in
    let h = rw c.deref.ensures at (sym c.cmp.ensures ∙ c.in-Less.is) in
    rw c.deref-in-Less.ensures (record {
      ordered = ordered_front (by_ends g.T.Ord.cmp) _ _ s;
      same = sym (value_left (by_ends g.T.Ord.cmp) (by_ends-total g.met.T.Ord.total) _ _ _ s _ h) ∙ e;
    })

pub loop-at-preserved : goal.loop-at-preserved
loop-at-preserved g c =
    let s = rw c.in-Fork.is at c.loop-at.invariant.ordered in
    let e = rw c.in-Fork.is at c.loop-at.invariant.same in
    let h = rw c.deref.ensures at (sym c.cmp.ensures ∙ c.in-Greater.is) in
    rw c.deref-in-Greater.ensures (record {
      ordered = ordered_after (by_ends g.T.Ord.cmp) _ _ _ s;
      same = sym (value_right (by_ends g.T.Ord.cmp) (by_ends-total g.met.T.Ord.total) _ _ _ s _ h) ∙ e;
    })

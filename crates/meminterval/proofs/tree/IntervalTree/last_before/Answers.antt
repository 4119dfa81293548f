use Rattle.std.proofs.Common.{sym, ap, ◌∙◌}
use Rattle.std.specs.Option.{option_map}
use Rattle.meminterval.specs.Entries.{or_else}
use Rattle.meminterval.specs.Entry.{pair_of}
use Rattle.meminterval.specs.Interval.{by_ends}
use Rattle.meminterval.proofs.Ordered.{ordered_front, ordered_after, last_below, last_above, or_else-assoc}
use Rattle.meminterval.proofs.tree.IntervalTree.last_before.Goals as goal

pub loop-at-preserved-then-starts_below : goal.loop-at-preserved-then-starts_below
loop-at-preserved-then-starts_below g c =
    let s = rw c.in-Fork.is at c.loop-at.invariant.ordered in
    let e = rw c.in-Fork.is at c.loop-at.invariant.same in
    let t = rw c.deref.ensures at (sym c.starts_below.ensures ∙ c.if-starts_below.true) in
    rw (c.deref-then-starts_below.ensures, c.deref-then-starts_below-2.ensures, c.deref-then-starts_below-3.ensures) (record {
      ordered = ordered_after (by_ends g.T.Ord.cmp) _ _ _ s;
      same = sym (or_else-assoc _ _ (option_map pair_of c.loop-at.greatest))
          ∙ ap (λ o. or_else o (option_map pair_of c.loop-at.greatest)) (sym
          (last_below g.T.Ord.cmp g.met.T.Ord.total c.args.key.now _ _ _ s t)) ∙ e;
    })

pub loop-at-preserved : goal.loop-at-preserved
loop-at-preserved g c =
    let s = rw c.in-Fork.is at c.loop-at.invariant.ordered in
    let e = rw c.in-Fork.is at c.loop-at.invariant.same in
    let t = rw c.deref.ensures at (sym c.starts_below.ensures ∙ c.if-starts_below.false) in
    rw c.deref-else-starts_below.ensures (record {
      ordered = ordered_front (by_ends g.T.Ord.cmp) _ _ s;
      same = ap (λ o. or_else o (option_map pair_of c.loop-at.greatest)) (sym (last_above g.T.Ord.cmp g.met.T.Ord.total c.args.key.now _ _ _ s t)) ∙ e;
    })

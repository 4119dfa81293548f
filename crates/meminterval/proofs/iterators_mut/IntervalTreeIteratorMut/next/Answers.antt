use Rattle.std.proofs.Common.{refl, ap, ◌∙◌}
use Rattle.meminterval.specs.Interval.{overlaps}
use Rattle.meminterval.specs.Place.{place_from}
use Rattle.meminterval.specs.QueryMut.{last_passed, moved}
use Rattle.meminterval.specs.Tree.{visited}
use Rattle.meminterval.proofs.Cursor.{ended, found, last_is}
use Rattle.meminterval.proofs.iterators_mut.IntervalTreeIteratorMut.next.Goals as goal

pub returns-then-advance : goal.returns-then-advance
returns-then-advance g c =
    let here = c.pair.ensures ∙ ap last_passed c.advance.ensures.cursor in
    let place = place_from (λ e. overlaps g.T.Ord.cmp e.0 c.args.self.now.interval) c.args.self.now.passed (visited c.args.self.now.tree.now) in (
      (refl, λ _. tt, c.advance.ensures.cursor),
      record {
        cursor = tt;
        pairs = found g.T.Ord.cmp c.args.self.now place refl (c.advance.ensures.moved.0 c.if-advance.true) c.pair.result here;
        last = last_is (last_passed (moved g.T.Ord.cmp c.args.self.now)) c.pair.result here;
      },
    )

pub returns-else-advance : goal.returns-else-advance
returns-else-advance g c =
    let place = place_from (λ e. overlaps g.T.Ord.cmp e.0 c.args.self.now.interval) c.args.self.now.passed (visited c.args.self.now.tree.now) in (
      (refl, λ _. tt, c.advance.ensures.cursor),
      record {
        cursor = tt;
        pairs = ended g.T.Ord.cmp c.args.self.now place refl c.advance.result c.if-advance.false c.advance.ensures.moved.1;
        last = tt;
      },
    )

use Rattle.std.proofs.Common.{length, sym, ap, ◌∙◌, arith}
use Rattle.meminterval.specs.Entries.{with_entries}
use Rattle.meminterval.specs.Interval.{by_ends}
use Rattle.meminterval.specs.Tree.{entries}
use Rattle.meminterval.proofs.Ordered.{with_entry_length}
use Rattle.meminterval.proofs.tree.IntervalTree.from_pairs.Goals as goal

pub loop-interval-preserved : goal.loop-interval-preserved
loop-interval-preserved g c =
    let put = c.in_ok-insert.ensures.ok in
    let taken = c.in-Some.ensures.steps.0 in
    let one = with_entry_length (by_ends g.T.Ord.cmp) (c.in-Some.interval, c.in-Some.value) (entries c.loop-interval.tree) in
    let len = ap (λ es. length es) taken in
    let room = c.loop-interval.invariant.room in
    record {
      pairs = ap (λ es. with_entries (by_ends g.T.Ord.cmp) c.next.new.self.rest.items es) put
          ∙ sym (ap (λ xs. with_entries (by_ends g.T.Ord.cmp) xs (entries c.loop-interval.tree)) taken)
          ∙ c.loop-interval.invariant.pairs;
      room = rw put (omega (arith, one, len, room));
    }

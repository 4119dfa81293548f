use Rattle.meminterval.proofs.Ends.{entries_map, balanced_map, ordered_ends, length_mapped}
use Rattle.meminterval.proofs.tree.IntervalTree.shorten.Goals as goal

pub invariant_of-self : goal.invariant_of-self
invariant_of-self g c = record {
  recorded = c.shorten_below.ensures.recorded;
  balanced = rw (c.shorten_below.ensures.tree, c.replace-root.ensures.value) (balanced_map _ _ c.self.invariant.balanced);
  ordered = let own = rw (← c.self.view_is) at c.requires.alone in rw (
    c.shorten_below.ensures.tree,
    c.replace-root.ensures.value,
    entries_map,
  ) (ordered_ends g.T.Ord.cmp g.met.T.Ord.total _ _ _ own
      c.self.invariant.ordered);
  few = rw (c.shorten_below.ensures.tree, c.replace-root.ensures.value, length_mapped) c.self.invariant.few;
}

pub returns-clause-pairs : goal.returns-clause-pairs
returns-clause-pairs g c = let a = c.shorten_below.ensures.tree in let b = c.replace-root.ensures.value in rw (a, b, entries_map, c.self.view_is)

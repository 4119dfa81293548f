use Rattle.std.proofs.Common.{sym, ◌∙◌}
use Rattle.meminterval.specs.Interval.{by_ends}
use Rattle.meminterval.specs.Query.{to_visit}
use Rattle.meminterval.specs.Subtree.{tree_of}
use Rattle.meminterval.proofs.Ordered.{ordered_front, ordered_after}
use Rattle.meminterval.proofs.Overlap.{pruned, pruned_right}
use Rattle.meminterval.proofs.iterators.look_at.Goals as goal

pub returns-then-ends_up_to-clause-pairs : goal.returns-then-ends_up_to-clause-pairs
returns-then-ends_up_to-clause-pairs g c =
    pruned g.T.Ord.cmp g.met.T.Ord.total c.args.interval.now _ _ _ c.args.node.now.greatest c.requires.sound.0.2
    (sym c.ends_up_to.ensures ∙ c.if-ends_up_to.true) _

pub put-requires-clause-ordered : goal.put-requires-clause-ordered
put-requires-clause-ordered g c = ordered_front (by_ends g.T.Ord.cmp) _ _ c.requires.sound.1

pub returns-then-not-starts_below-clause-pairs : goal.returns-then-not-starts_below-clause-pairs
returns-then-not-starts_below-clause-pairs g c =
    let below = pruned_right g.T.Ord.cmp g.met.T.Ord.total c.args.interval.now (tree_of c.args.node.now.left)
    (c.args.node.now.interval, c.args.node.now.value) (tree_of c.args.node.now.right) c.requires.sound.1
    (sym c.starts_below.ensures ∙ c.if-not-starts_below.true) (to_visit c.args.nodes.now.items) in
    rw c.put.ensures.pairs below

pub put-requires-2-clause-ordered : goal.put-requires-2-clause-ordered
put-requires-2-clause-ordered g c = ordered_after (by_ends g.T.Ord.cmp) _ _ _ c.requires.sound.1

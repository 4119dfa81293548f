use Rattle.std.proofs.Common.{sym, ◌∙◌}
use Rattle.meminterval.specs.Subtree.{tree_of}
use Rattle.meminterval.proofs.Overlap.{no_place_right}
use Rattle.meminterval.proofs.iterators_mut.passed_on_the_right.Goals as goal

pub returns-else-starts_below : goal.returns-else-starts_below
returns-else-starts_below g c =
    no_place_right g.T.Ord.cmp g.met.T.Ord.total c.args.interval.now (tree_of c.args.node.now.left)
    (c.args.node.now.interval, c.args.node.now.value) (tree_of c.args.node.now.right) c.requires.1
    (sym c.starts_below.ensures ∙ c.if-starts_below.false) c.size.result c.args.passed c.size.ensures

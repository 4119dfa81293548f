use Rattle.std.proofs.Common.{◌≡◌, Bool, true, false, not, refl, sym, ◌∙◌, arith}
use Rattle.std.proofs.lemmas.Bool.{true≢false}
use Rattle.meminterval.specs.Interval.{overlaps}
use Rattle.meminterval.specs.Subtree.{tree_of, tree_of_node}
use Rattle.meminterval.specs.Tree.{visited}
use Rattle.meminterval.proofs.Overlap.{no_place}
use Rattle.meminterval.proofs.Search.{place_past}
use Rattle.meminterval.proofs.Trees.{length_visited}
use Rattle.meminterval.proofs.iterators_mut.may_have_place.Goals as goal

not_false : (b : Bool) → not b ≡ false → b ≡ true
not_false true h = refl
not_false false h = absurd (true≢false h)

pub returns-then-node-passed : goal.returns-then-node-passed
returns-then-node-passed g c = λ _. place_past (λ e. overlaps g.T.Ord.cmp e.0 c.args.interval.now) (visited (tree_of_node c.args.node.now)) c.args.passed
    (let size = c.requires.0.4 in omega (arith, size, c.if-node-passed.true, length_visited (tree_of_node c.args.node.now)))

pub returns : goal.returns
returns g c = λ h. no_place g.T.Ord.cmp g.met.T.Ord.total c.args.interval.now (tree_of c.args.node.now.left)
    (c.args.node.now.interval, c.args.node.now.value) (tree_of c.args.node.now.right) c.args.node.now.greatest
    c.requires.0.2
    (sym c.ends_up_to.ensures ∙ not_false c.ends_up_to.result h) c.args.passed

use Rattle.std.proofs.Common.{sym, ap, ◌∙◌}
use Rattle.meminterval.specs.Subtree.{tree_of}
use Rattle.meminterval.proofs.Places.{sound_put, tree_of-put}
use Rattle.meminterval.proofs.tree.IntervalTree.replace_at.Goals as goal

pub invariant_of-self : goal.invariant_of-self
invariant_of-self g c = rw c.replace_below.ensures.nodes (sound_put c.args.value g.T.Ord.cmp c.self.inside.root c.args.place c.self.invariant)

pub returns-clause-tree : goal.returns-clause-tree
returns-clause-tree g c =
    rw (sym c.self.view_is) (ap tree_of c.replace_below.ensures.nodes ∙ tree_of-put c.args.value c.self.inside.root c.args.place)

use Rattle.std.proofs.Common.{◌<◌, ◌≤◌, length, refl, arith}
use Rattle.std.proofs.lemmas.Bool.{lt-ltb, le-ltb}
use Rattle.meminterval.specs.Subtree.{tree_of}
use Rattle.meminterval.specs.Tree.{visited}
use Rattle.meminterval.proofs.Trees.{length_visited}
use Rattle.meminterval.proofs.descent.turn.Goals as goal

pub returns-then-place-size : goal.returns-then-place-size
returns-then-place-size g c =
    let right = tree_of c.args.node.now.right in
    let lt : c.args.place < length (visited right) = omega (arith, c.size.ensures, length_visited right, c.if-place-size.true) in
    let b = lt-ltb c.args.place (length (visited right)) lt in
    ((refl, λ w. rw b refl), record { lends = tt; value = rw b refl })

pub returns-else-place-size : goal.returns-else-place-size
returns-else-place-size g c =
    let right = tree_of c.args.node.now.right in
    let ge : length (visited right) ≤ c.args.place = omega (arith, c.size.ensures, length_visited right, c.if-place-size.false) in
    let b = le-ltb c.args.place (length (visited right)) ge in
    ((refl, λ w. rw b refl), record { lends = tt; value = rw b refl })

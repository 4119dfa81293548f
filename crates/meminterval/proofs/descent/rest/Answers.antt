use Rattle.std.proofs.Common.{◌≡◌, ◌<◌, ◌≤◌, length, refl, arith}
use Rattle.std.proofs.lemmas.Bool.{lt-ltb, le-ltb}
use Rattle.meminterval.specs.Subtree.{tree_of}
use Rattle.meminterval.specs.Tree.{visited}
use Rattle.meminterval.proofs.Trees.{length_visited}
use Rattle.meminterval.proofs.descent.rest.Goals as goal

pub returns-then-place-right_size : goal.returns-then-place-right_size
returns-then-place-right_size g c =
    let right = tree_of c.args.node.now.right in
    let lt : c.args.place < length (visited right) = omega (arith, c.size-right_size.ensures, length_visited right, c.if-place-right_size.true) in
    rw (lt-ltb c.args.place (length (visited right)) lt) refl

pub returns-else-place-right_size : goal.returns-else-place-right_size
returns-else-place-right_size g c =
    let right = tree_of c.args.node.now.right in
    let same : c.size-right_size.result ≡ length (visited right) = omega (arith, c.size-right_size.ensures, length_visited right) in
    let ge : length (visited right) ≤ c.args.place = omega (arith, same, c.if-place-right_size.false) in
    rw (le-ltb c.args.place (length (visited right)) ge, same) refl

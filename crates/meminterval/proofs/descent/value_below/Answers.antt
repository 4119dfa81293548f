use Rattle.std.proofs.Common.{◌≡◌, ◌<◌, ◌≤◌, length, sym, ap, refl, arith, Some, None}
use Rattle.std.specs.Option.{option_map}
use Rattle.meminterval.specs.Descent.{reached}
use Rattle.meminterval.specs.Subtree.{tree_of}
use Rattle.meminterval.specs.Tree.{visited}
use Rattle.meminterval.proofs.Descents.{found_same, past_end, value_put, value_reached}
use Rattle.meminterval.proofs.Trees.{length_visited}
use Rattle.meminterval.proofs.descent.value_below.Goals as goal

pub returns-then-place-size : goal.returns-then-place-size
returns-then-place-size g c =
    let all = tree_of c.args.tree.now in
    let end : length (visited all) ≤ c.args.place = omega (arith, c.size.ensures, length_visited all, c.if-place-size.true) in
    (refl, record { lends = tt; value = ap (λ o. option_map (λ e. e.1) o) (sym (past_end (visited all) c.args.place end)) })

pub returns-in_err-node : goal.returns-in_err-node
returns-in_err-node g c =
    let all = tree_of c.args.tree.now in
    let there : c.args.place < length (visited all) = omega (arith, c.size.ensures, length_visited all, c.if-place-size.false) in
    let none : reached 127 c.args.tree.now c.args.place ≡ None = sym c.in_err-node.ensures.value in
    let value = rw none at (value_reached 127 c.args.tree.now c.args.place c.requires.low there) in
    rw c.from_residual.ensures (refl, record { lends = tt; value = value })

pub returns : goal.returns
returns g c =
    let all = tree_of c.args.tree.now in
    let there : c.args.place < length (visited all) = omega (arith, c.size.ensures, length_visited all, c.if-place-size.false) in
    let node : reached 127 c.args.tree.now c.args.place ≡ Some c.in_ok-node.node.now = sym c.in_ok-node.ensures.value in
    let value = rw node at (value_reached 127 c.args.tree.now c.args.place c.requires.low there) in
    (found_same _ (value_put 127 c.args.tree.now c.args.place c.requires.low there c.in_ok-node.node.now node), record { lends = tt; value = value })

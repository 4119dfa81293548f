use Rattle.std.proofs.Common.{◌≡◌, suc, ◌-◌, ◌<◌, ◌≤◌, length, sym, ◌∙◌, arith}
use Rattle.meminterval.specs.Subtree.{tree_of}
use Rattle.meminterval.specs.Tree.{visited}
use Rattle.meminterval.proofs.Descents.{after_left, after_right}
use Rattle.meminterval.proofs.Trees.{length_visited}
use Rattle.meminterval.proofs.descent.+left_after.Goals as goal

pub returns-then-place-right_size : goal.returns-then-place-right_size
returns-then-place-right_size g t c =
    let size = rw c.deref.ensures at c.size-right_size.ensures in
    let same = length_visited (tree_of c.in-Fork.node.value.right) in
    let there : c.args.place - 1 < length (visited (tree_of c.in-Fork.node.value.right)) =
    omega (arith, size, same, c.if-place-eq0.false, c.if-place-right_size.true) in
    let place : c.args.place ≡ suc (c.args.place - 1) = omega (arith, c.if-place-eq0.false) in
    let turns : c.args.turns ≡ suc (c.args.turns - 1) = omega (arith, c.if-turns-eq0.false) in
    let found = rw c.deref-then-place-right_size.ensures at c.left_after.ensures in
    rw (c.in-Fork.is, place, turns) (found ∙ sym (after_right c.in-Fork.node (c.args.turns - 1) (c.args.place - 1) there))

pub returns-else-place-right_size : goal.returns-else-place-right_size
returns-else-place-right_size g t c =
    let size = rw c.deref.ensures at c.size-right_size.ensures in
    let same = length_visited (tree_of c.in-Fork.node.value.right) in
    let there : length (visited (tree_of c.in-Fork.node.value.right)) ≤ c.args.place - 1 =
    omega (arith, size, same, c.if-place-eq0.false, c.if-place-right_size.false) in
    let place : c.args.place ≡ suc (c.args.place - 1) = omega (arith, c.if-place-eq0.false) in
    let turns : c.args.turns ≡ suc (c.args.turns - 1) = omega (arith, c.if-turns-eq0.false) in
    let below : c.args.place - 1 - c.size-right_size.result ≡ c.args.place - 1 - length
    (visited (tree_of c.in-Fork.node.value.right)) = omega (arith, size, same) in
    let found = rw (c.deref-else-place-right_size.ensures, below) at c.left_after-else-place-right_size.ensures in
    rw (c.in-Fork.is, place, turns) (found ∙ sym (after_left c.in-Fork.node (c.args.turns - 1) (c.args.place - 1) there))

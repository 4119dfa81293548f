use Rattle.std.proofs.Common.{◌≡◌, suc, ◌+◌, ◌-◌, ◌<◌, ◌≤◌, length, sym, ap, ◌∙◌, arith}
use Rattle.std.specs.List.{slice_get}
use Rattle.meminterval.specs.Subtree.{tree_of}
use Rattle.meminterval.specs.Tree.{visited}
use Rattle.meminterval.proofs.Places.{get_back, get_front}
use Rattle.meminterval.proofs.Trees.{length_visited}
use Rattle.meminterval.proofs.tree.IntervalTree.pair_at.Goals as goal

pub loop-at-preserved-then-place-right_size : goal.loop-at-preserved-then-place-right_size
loop-at-preserved-then-place-right_size g c =
    let recorded = rw c.in-Fork.is at c.loop-at.invariant.recorded in
    let size = rw c.deref-in-Fork.ensures at c.size-right_size.ensures in
    let same = length_visited (tree_of c.in-Fork.node.value.right) in
    let place : c.loop-at.place ≡ suc (c.loop-at.place - 1) = omega (arith, c.if-place-eq0.false) in
    let there : c.loop-at.place - 1 < length (visited (tree_of c.in-Fork.node.value.right)) =
    omega (arith, size, same, c.if-place-eq0.false, c.if-place-right_size.true) in
    let found = rw (c.in-Fork.is, place) at c.loop-at.invariant.same in
    rw c.deref-then-place-right_size.ensures (record {
      recorded = recorded.1;
      same = sym (get_front (visited (tree_of c.in-Fork.node.value.right)) (visited (tree_of c.in-Fork.node.value.left)) (c.loop-at.place - 1) there) ∙ found;
    })

pub loop-at-preserved : goal.loop-at-preserved
loop-at-preserved g c =
    let recorded = rw c.in-Fork.is at c.loop-at.invariant.recorded in
    let size = rw c.deref-in-Fork.ensures at c.size-right_size.ensures in
    let same = length_visited (tree_of c.in-Fork.node.value.right) in
    let place : c.loop-at.place ≡ suc (c.loop-at.place - 1) = omega (arith, c.if-place-eq0.false) in
    let there : length (visited (tree_of c.in-Fork.node.value.right)) ≤ c.loop-at.place - 1 =
    omega (arith, size, same, c.if-place-eq0.false, c.if-place-right_size.false) in
    let below : c.loop-at.place - 1 - length
    (visited (tree_of c.in-Fork.node.value.right)) ≡ c.loop-at.place - (c.size-right_size.result + 1) =
    omega (arith, size, same) in
    let found = rw (c.in-Fork.is, place) at c.loop-at.invariant.same in
    rw c.deref-else-place-right_size.ensures (record {
      recorded = recorded.0;
      same = ap (λ n. slice_get (visited (tree_of c.in-Fork.node.value.left)) n) (sym below)
          ∙ sym (get_back (visited (tree_of c.in-Fork.node.value.right)) (visited (tree_of c.in-Fork.node.value.left))
          (c.loop-at.place - 1) there) ∙ found;
    })

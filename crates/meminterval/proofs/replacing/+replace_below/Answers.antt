use Rattle.std.proofs.Common.{◌≡◌, suc, ◌-◌, ◌<◌, ◌≤◌, length, sym, ap, ◌∙◌, rules, arith}
use Rattle.std.specs.Option.{option_map}
use Rattle.meminterval.specs.Subtree.{tree_of}
use Rattle.meminterval.specs.Tree.{visited}
use Rattle.meminterval.proofs.Places.{get_back, get_front, put_left, put_right}
use Rattle.meminterval.proofs.Trees.{length_visited}
use Rattle.meminterval.proofs.replacing.+replace_below.Goals as goal

pub replace_below-requires : goal.replace_below-requires
replace_below-requires g t c =
    let higher = rw c.in-Fork.is at c.decreases in
    let recorded = rw c.in-Fork.is at c.requires in
    λ κs h. (
      rw c.deref_mut-then-place-right_size.ensures.value (omega (arith, higher)),
      (search rules, (search rules, rw c.deref_mut-then-place-right_size.ensures.value recorded.1)),
    )

pub replace_below-requires-else-place-right_size : goal.replace_below-requires-else-place-right_size
replace_below-requires-else-place-right_size g t c =
    let higher = rw c.in-Fork.is at c.decreases in
    let recorded = rw c.in-Fork.is at c.requires in
    λ κs h. (
      rw c.deref_mut-else-place-right_size.ensures.value (omega (arith, higher)),
      (search rules, (search rules, rw c.deref_mut-else-place-right_size.ensures.value recorded.0)),
    )

pub returns-then-place-right_size-clause-value : goal.returns-then-place-right_size-clause-value
returns-then-place-right_size-clause-value g t c =
    let size = rw c.deref.ensures at c.size-right_size.ensures in
    let same = length_visited (tree_of c.in-Fork.node.value.right) in
    let there : c.args.place - 1 < length (visited (tree_of c.in-Fork.node.value.right)) =
    omega (arith, size, same, c.if-place-eq0.false, c.if-place-right_size.true) in
    let place : c.args.place ≡ suc (c.args.place - 1) = omega (arith, c.if-place-eq0.false) in
    let found = rw c.deref_mut-then-place-right_size.ensures.value at c.replace_below.ensures.value in
    rw (c.in-Fork.is, place) (found ∙ ap (λ o. option_map (λ e. e.1) o)
    (sym (get_front (visited (tree_of c.in-Fork.node.value.right)) (visited (tree_of c.in-Fork.node.value.left))
    (c.args.place - 1) there)))

pub returns-else-place-right_size-clause-value : goal.returns-else-place-right_size-clause-value
returns-else-place-right_size-clause-value g t c =
    let size = rw c.deref.ensures at c.size-right_size.ensures in
    let same = length_visited (tree_of c.in-Fork.node.value.right) in
    let there : length (visited (tree_of c.in-Fork.node.value.right)) ≤ c.args.place - 1 =
    omega (arith, size, same, c.if-place-eq0.false, c.if-place-right_size.false) in
    let place : c.args.place ≡ suc (c.args.place - 1) = omega (arith, c.if-place-eq0.false) in
    let below : c.args.place - 1 - c.size-right_size.result ≡ c.args.place - 1 - length
    (visited (tree_of c.in-Fork.node.value.right)) = omega (arith, size, same) in
    let found = rw (c.deref_mut-else-place-right_size.ensures.value, below) at c.replace_below-else-place-right_size.ensures.value in
    rw (c.in-Fork.is, place) (found ∙ ap (λ o. option_map (λ e. e.1) o)
    (sym (get_back (visited (tree_of c.in-Fork.node.value.right)) (visited (tree_of c.in-Fork.node.value.left))
    (c.args.place - 1) there)))

pub returns-else-place-right_size-clause-nodes : goal.returns-else-place-right_size-clause-nodes
returns-else-place-right_size-clause-nodes g t c =
    let size = rw c.deref.ensures at c.size-right_size.ensures in
    let same = length_visited (tree_of c.in-Fork.node.value.right) in
    let there : length (visited (tree_of c.in-Fork.node.value.right)) ≤ c.args.place - 1 =
    omega (arith, size, same, c.if-place-eq0.false, c.if-place-right_size.false) in
    let place : c.args.place ≡ suc (c.args.place - 1) = omega (arith, c.if-place-eq0.false) in
    let below : c.args.place - 1 - c.size-right_size.result ≡ c.args.place - 1 - length
    (visited (tree_of c.in-Fork.node.value.right)) = omega (arith, size, same) in
    let nodes = rw (c.deref_mut-else-place-right_size.ensures.value, below) at c.replace_below-else-place-right_size.ensures.nodes in
    rw (
      c.in-Fork.is,
      place,
      put_left c.args.value c.in-Fork.node (c.args.place - 1) there,
      c.deref_mut-else-place-right_size.ensures.value,
      nodes,
    ) (search rules)

pub returns-then-place-right_size-clause-nodes : goal.returns-then-place-right_size-clause-nodes
returns-then-place-right_size-clause-nodes g t c =
    let size = rw c.deref.ensures at c.size-right_size.ensures in
    let same = length_visited (tree_of c.in-Fork.node.value.right) in
    let there : c.args.place - 1 < length (visited (tree_of c.in-Fork.node.value.right)) =
    omega (arith, size, same, c.if-place-eq0.false, c.if-place-right_size.true) in
    let place : c.args.place ≡ suc (c.args.place - 1) = omega (arith, c.if-place-eq0.false) in
    let nodes = rw c.deref_mut-then-place-right_size.ensures.value at c.replace_below.ensures.nodes in
    rw (
      c.in-Fork.is,
      place,
      put_right c.args.value c.in-Fork.node (c.args.place - 1) there,
      c.deref_mut-then-place-right_size.ensures.value,
      nodes,
    ) (search rules)

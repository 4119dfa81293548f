use Rattle.std.proofs.Common.{◌≡◌, ◌+◌, ◌-◌, ◌^◌, length, sym, ap, ◌∙◌, rules, arith}
use Rattle.std.specs.Option.{option_map}
use Rattle.meminterval.specs.Interval.{overlaps}
use Rattle.meminterval.specs.Subtree.{tree_of}
use Rattle.meminterval.specs.Tree.{visited}
use Rattle.meminterval.proofs.Parts.{searchable_left, searchable_right}
use Rattle.meminterval.proofs.Search.{not_here, place_first, place_second, place_within, places_fit}
use Rattle.meminterval.proofs.Trees.{length_fork, length_visited}
use Rattle.meminterval.proofs.iterators_mut.+place_below.Goals as goal

pub place_below-requires : goal.place_below-requires
place_below-requires g t c =
    let s = rw c.in-Fork.is at c.requires in
    let higher = rw c.in-Fork.is at c.decreases in
    λ κs h. rw c.deref-4.ensures (omega (arith, higher), (search rules, (search rules, searchable_right g.T.Ord.cmp c.in-Fork.node s)))

pub overflow_add-result : goal.overflow_add-result
overflow_add-result g t c =
    let few = rw (c.in-Fork.is, length_fork) at c.requires.few in
    let found = rw c.deref-4.ensures at (sym c.place_below.ensures ∙ c.in-Some.is) in
    let within = place_within (λ e. overlaps g.T.Ord.cmp e.0 c.args.interval.now)
    (visited (tree_of c.in-Fork.node.value.right)) c.passed_on_the_right-from.result c.in-Some.place found in
    omega (arith, few, within, length_visited (tree_of c.in-Fork.node.value.right))

pub returns-in-Some : goal.returns-in-Some
returns-in-Some g t c =
    let found = rw c.deref-4.ensures at (sym c.in-Some.is ∙ c.place_below.ensures) in
    let same = rw (c.deref-3.ensures, c.saturating_sub-passed.ensures) at c.passed_on_the_right-from.ensures in
    let here = rw c.deref-2.ensures at (sym c.is_place.ensures ∙ c.if-is_place.false) in
    rw c.in-Fork.is (place_first (λ e. overlaps g.T.Ord.cmp e.0 c.args.interval.now)
    (c.in-Fork.node.value.interval, c.in-Fork.node.value.value) (visited (tree_of c.in-Fork.node.value.right))
    (visited (tree_of c.in-Fork.node.value.left)) c.args.passed (not_here c.args.passed _ here) c.in-Some.place
    (found ∙ same))

pub place_below-place-requires : goal.place_below-place-requires
place_below-place-requires g t c =
    let s = rw c.in-Fork.is at c.requires in
    let higher = rw c.in-Fork.is at c.decreases in
    λ κs h. rw c.deref-6.ensures (omega (arith, higher), (search rules, (search rules, searchable_left g.T.Ord.cmp c.in-Fork.node s)))

pub moved_by-requires : goal.moved_by-requires
moved_by-requires g t c =
    let few = rw (c.in-Fork.is, length_fork) at c.requires.few in
    let size = rw c.deref-5.ensures at c.size-right_size.ensures in
    let found = rw c.deref-6.ensures at c.place_below-place.ensures in
    places_fit (λ e. overlaps g.T.Ord.cmp e.0 c.args.interval.now) (visited (tree_of c.in-Fork.node.value.left))
    c.saturating_sub.result c.place_below-place.result found (c.size-right_size.result + 1) (2 ^ 64)
    (omega (arith, few, size, length_visited (tree_of c.in-Fork.node.value.left)))

pub returns : goal.returns
returns g t c =
    let absent = rw c.deref-4.ensures at (sym c.in_default-place_below.is ∙ c.place_below.ensures) in
    let same = rw (c.deref-3.ensures, c.saturating_sub-passed.ensures) at c.passed_on_the_right-from.ensures in
    let here = rw c.deref-2.ensures at (sym c.is_place.ensures ∙ c.if-is_place.false) in
    let size = rw c.deref-5.ensures at c.size-right_size.ensures in
    let from : c.saturating_sub.result ≡ c.args.passed - 1 - length (visited (tree_of c.in-Fork.node.value.right)) =
    rw (c.saturating_sub.ensures, c.saturating_sub-passed.ensures) (omega
    (arith, size, length_visited (tree_of c.in-Fork.node.value.right))) in
    let left = rw (c.deref-6.ensures, from) at c.place_below-place.ensures in
    let by : c.size-right_size.result + 1 ≡ length (visited (tree_of c.in-Fork.node.value.right)) + 1 =
    omega (arith, size, length_visited (tree_of c.in-Fork.node.value.right)) in
    rw c.in-Fork.is (c.moved_by.ensures ∙ ap (λ m. option_map (λ n. n + m) c.place_below-place.result) by
    ∙ ap (λ o. option_map (λ n. n + (length (visited (tree_of c.in-Fork.node.value.right)) + 1)) o) left
    ∙ place_second (λ e. overlaps g.T.Ord.cmp e.0 c.args.interval.now)
    (c.in-Fork.node.value.interval, c.in-Fork.node.value.value) (visited (tree_of c.in-Fork.node.value.right))
    (visited (tree_of c.in-Fork.node.value.left)) c.args.passed (not_here c.args.passed _ here) (absent ∙ same))

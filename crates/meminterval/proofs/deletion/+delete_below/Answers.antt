use Rattle.std.proofs.Common.{sym, ◌∙◌, rules, arith}
use Rattle.meminterval.specs.Interval.{by_ends}
use Rattle.meminterval.specs.Tree.{entries}
use Rattle.meminterval.specs.Subtree.{tree_of}
use Rattle.meminterval.proofs.Ordered.{by_ends-total, without_left, without_middle, without_right, without_length}
use Rattle.meminterval.proofs.Parts.{sound_left, sound_right}
use Rattle.meminterval.proofs.Trees.{length_fork}
use Rattle.meminterval.proofs.deletion.+delete_below.Goals as goal

pub delete_below-requires : goal.delete_below-requires
delete_below-requires g t c =
    let s = rw c.in-Fork.is at c.requires.sound in
    let higher = rw c.in-Fork.is at c.decreases in
    λ κs h. (
      rw c.split-left.ensures.left (omega (arith, higher)),
      (search rules, (search rules, (c.requires.clones, rw c.split-left.ensures.left (sound_left g.T.Ord.cmp c.in-Fork.node s)))),
    )

pub delete_below-requires-in-Greater : goal.delete_below-requires-in-Greater
delete_below-requires-in-Greater g t c =
    let s = rw c.in-Fork.is at c.requires.sound in
    let higher = rw c.in-Fork.is at c.decreases in
    λ κs h. (
      rw c.split-left.ensures.right (omega (arith, higher)),
      (search rules, (search rules, (c.requires.clones, rw c.split-left.ensures.right (sound_right g.T.Ord.cmp c.in-Fork.node s)))),
    )

pub balance-requires-clause-sides : goal.balance-requires-clause-sides
balance-requires-clause-sides g t c =
    let s = rw c.in-Fork.is at c.requires.sound in
    let few = rw length_fork at s.few in
    let fewer = without_length (by_ends g.T.Ord.cmp) c.args.interval.now (entries (tree_of c.in-Fork.node.value.left)) in
    record {
      left = (c.delete_below.ensures.rest.recorded, c.delete_below.ensures.rest.balanced);
      right = rw c.split-left.ensures.right (s.recorded.1, s.balanced.1);
      room = rw (c.delete_below.ensures.pairs, c.split-left.ensures.left, c.split-left.ensures.right) (omega (arith, few, fewer));
    }

pub balance-requires-in-Greater-clause-sides : goal.balance-requires-in-Greater-clause-sides
balance-requires-in-Greater-clause-sides g t c =
    let s = rw c.in-Fork.is at c.requires.sound in
    let few = rw length_fork at s.few in
    let fewer = without_length (by_ends g.T.Ord.cmp) c.args.interval.now (entries (tree_of c.in-Fork.node.value.right)) in
    record {
      left = rw c.split-left.ensures.left (s.recorded.0, s.balanced.0);
      right = (c.delete_below-in-Greater.ensures.rest.recorded, c.delete_below-in-Greater.ensures.rest.balanced);
      room = rw (c.delete_below-in-Greater.ensures.pairs, c.split-left.ensures.left, c.split-left.ensures.right) (omega (arith, few, fewer));
    }

pub returns-in-Less-clause-pairs : goal.returns-in-Less-clause-pairs
returns-in-Less-clause-pairs g t c =
    let s = rw c.in-Fork.is at c.requires.sound.ordered in
    let h = rw c.deref.ensures at (sym c.cmp-order.ensures ∙ c.in-Less.is) in
    let parts = c.split-left.ensures in
    rw (c.balance.ensures.pairs, c.delete_below.ensures.pairs, parts.left, parts.interval, parts.value, parts.right, c.in-Fork.is)
    (sym (without_left (by_ends g.T.Ord.cmp) (by_ends-total g.met.T.Ord.total) _ _ _ s _ h))

pub returns-in-Equal-clause-pairs : goal.returns-in-Equal-clause-pairs
returns-in-Equal-clause-pairs g t c =
    let s = rw c.in-Fork.is at c.requires.sound.ordered in
    let h = rw c.deref.ensures at (sym c.cmp-order.ensures ∙ c.in-Equal.is) in
    rw (c.join.ensures.pairs, c.split-left.ensures.left, c.split-left.ensures.right, c.in-Fork.is)
    (sym (without_middle (by_ends g.T.Ord.cmp) (by_ends-total g.met.T.Ord.total) _ _ _ s _ h))

pub returns-in-Greater-clause-pairs : goal.returns-in-Greater-clause-pairs
returns-in-Greater-clause-pairs g t c =
    let s = rw c.in-Fork.is at c.requires.sound.ordered in
    let h = rw c.deref.ensures at (sym c.cmp-order.ensures ∙ c.in-Greater.is) in
    let parts = c.split-left.ensures in
    rw (c.balance-in-Greater.ensures.pairs, c.delete_below-in-Greater.ensures.pairs, parts.left, parts.interval, parts.value, parts.right, c.in-Fork.is)
    (sym (without_right (by_ends g.T.Ord.cmp) (by_ends-total g.met.T.Ord.total) _ _ _ s _ h))

use Rattle.std.proofs.Common.{true, false, refl, arith}
use Rattle.bins.proofs.Taking.{t_slot}
use Rattle.bins.proofs.LeafUp.{l_none}
use Rattle.bins.proofs.leave.give_to_leaf.Goals as goal

pub first_child-child-requires : goal.first_child-child-requires
first_child-child-requires g c =
    let held = c.requires.held.1.1.1.1 in record { left = t_slot c.requires.some held false; right = t_slot c.requires.some held true }

pub returns-then-child-eq0-clause-given : goal.returns-then-child-eq0-clause-given
returns-then-child-eq0-clause-given g c = λ index low deep less held.
    let first = c.first_child-child.ensures.first in
    record { trie = l_none c.requires.some held (first.left c.if-child-eq0.true) (first.right c.if-child-eq0.true); words = λ at word out. refl }

pub raise_leaf-requires-clause-child : goal.raise_leaf-requires-clause-child
raise_leaf-requires-clause-child g c = record { some = c.requires.some; real = omega arith; named = c.first_child-child.ensures.first.is }

pub raise_leaf-requires-clause-held : goal.raise_leaf-requires-clause-held
raise_leaf-requires-clause-held g c = c.requires.held

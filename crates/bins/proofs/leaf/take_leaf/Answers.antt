use Rattle.std.proofs.Common.{true, false, arith}
use Rattle.bins.proofs.Taking.{t_slot, all_taken}
use Rattle.bins.proofs.leaf.take_leaf.Goals as goal

pub first_child-child-requires : goal.first_child-child-requires
first_child-child-requires g c =
    let held = c.requires.held.1.1.1.1.1.1 in record { left = t_slot c.requires.some held false; right = t_slot c.requires.some held true }

pub returns-then-child-eq0-clause-taken : goal.returns-then-child-eq0-clause-taken
returns-then-child-eq0-clause-taken g c = λ index bin parent low deep less held.
    let first = c.first_child-child.ensures.first in all_taken c.requires.some held (first.left c.if-child-eq0.true) (first.right c.if-child-eq0.true)

pub take_under-requires-clause-child : goal.take_under-requires-clause-child
take_under-requires-clause-child g c = record { some = c.requires.some; real = omega arith; named = c.first_child-child.ensures.first.is }

pub take_under-requires-clause-held : goal.take_under-requires-clause-held
take_under-requires-clause-held g c = c.requires.held

pub returns-clause-taken : goal.returns-clause-taken
returns-clause-taken g c = λ index bin parent low deep less held. c.take_under.ensures.taken index bin parent low deep less held

pub returns-clause-work : goal.returns-clause-work
returns-clause-work g c = record {
  asks = c.take_under.ensures.asks;
  counted = omega (arith, c.first_child-child.ensures.counted, c.take_under.ensures.counted);
}

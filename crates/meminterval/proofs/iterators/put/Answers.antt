use Rattle.std.proofs.Common.{refl, arith}
use Rattle.meminterval.specs.Query.{IsSoundNode}
use Rattle.meminterval.proofs.Overlap.{to_visit-push, walk-push, walk-more}
use Rattle.meminterval.proofs.iterators.put.Goals as goal

pub returns-in-Ok-clause-pairs : goal.returns-in-Ok-clause-pairs
returns-in-Ok-clause-pairs g c = rw (c.in-Ok.ensures.items, to_visit-push, c.deref.ensures, c.in-Fork.is) refl

pub returns-in-Ok-clause-walk : goal.returns-in-Ok-clause-walk
returns-in-Ok-clause-walk g c =
    let sound : IsSoundNode g.T.Ord.cmp c.deref.result.now = rw c.deref.ensures
    (rw c.in-Fork.is at c.requires.recorded, rw c.in-Fork.is at c.requires.ordered) in
    let room = rw c.in-Fork.is at c.requires.room in
    rw c.in-Ok.ensures.items (walk-push g.T.Ord.cmp _ 0 _ c.deref.result
    (walk-more g.T.Ord.cmp _ _ 0 _ c.in-Ok.ensures.capacity c.requires.walk) sound
    (let n = c.args.nodes.now.ok.0 in rw c.deref.ensures (omega (arith, room, n, c.in-Ok.ensures.capacity))))

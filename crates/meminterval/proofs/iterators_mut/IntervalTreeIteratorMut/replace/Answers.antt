use Rattle.std.proofs.Common.{◌≡◌, suc, arith}
use Rattle.meminterval.proofs.Cursor.{left_same}
use Rattle.meminterval.proofs.iterators_mut.IntervalTreeIteratorMut.replace.Goals as goal

pub returns-in-Some-clause-left : goal.returns-in-Some-clause-left
returns-in-Some-clause-left g c =
    let found = c.in-Some.ensures in
    let more : c.args.self.now.passed ≡ suc c.in-Some.place = omega (arith, found.0, found.1) in
    rw c.replace_at.ensures.tree (left_same g.T.Ord.cmp c.args.self.now c.args.value c.in-Some.place more)

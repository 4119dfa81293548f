use Rattle.std.proofs.Common.{arith}
use Rattle.std.proofs.lemmas.Int.{ints}
use Rattle.meminterval.proofs.Trees.{fibonacci_within, levels_half}
use Rattle.meminterval.proofs.tree.IntervalTree.height.Goals as goal

pub overflow_cast-result : goal.overflow_cast-result
overflow_cast-result g c =
    let h = rw c.in-Fork.is at (levels_half _ c.self.invariant.balanced) in
    let few = rw c.in-Fork.is at c.self.invariant.few in
    let r = rw c.in-Fork.is at c.self.invariant.recorded in
    rw c.deref.ensures (omega (arith, r.3, h, few))

pub returns-in-Fork-clause-value : goal.returns-in-Fork-clause-value
returns-in-Fork-clause-value g c =
    let h = rw c.in-Fork.is at (levels_half _ c.self.invariant.balanced) in
    let few = rw c.in-Fork.is at c.self.invariant.few in
    let r = rw c.in-Fork.is at c.self.invariant.recorded in
    rw (c.deref.ensures, ← c.self.view_is, c.in-Fork.is) (omega (arith, ints, r.3, h, few))

pub returns-in-Fork-clause-bound : goal.returns-in-Fork-clause-bound
returns-in-Fork-clause-bound g c = rw (← c.self.view_is) (fibonacci_within _ c.self.invariant.balanced)

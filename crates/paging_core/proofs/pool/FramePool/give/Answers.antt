use Rattle.std.proofs.Common.{◌+◌, ap, arith}
use Rattle.paging_core.specs.Pool.{IsOut}
use Rattle.paging_core.proofs.Given.{out_below}
use Rattle.paging_core.proofs.Runs.{given_more, run_in, read_count}
use Rattle.paging_core.proofs.pool.FramePool.give.Goals as goal

pub overflow_add-count : goal.overflow_add-count
overflow_add-count c =
    let was : IsOut c.self.inside.free c.args.number = rw c.self.view_is c.requires in
    let r = read_count c.self.inside.free c.self.inside.whole c.self.inside.counts.items c.args.number c.index.result.now c.self.invariant
    (out_below c.self.inside.free c.args.number was) c.index.ensures in
    let g = given_more c.self.inside.free c.self.inside.whole c.self.inside.counts.items c.args.number (c.index.result.now + 1) c.self.invariant was
    (ap (λ n. n + 1) r) in
    omega (arith, g.2)

pub insert-requires-then-count : goal.insert-requires-then-count
insert-requires-then-count c =
    let was : IsOut c.self.inside.free c.args.number = rw c.self.view_is c.requires in
    run_in c.self.inside.free c.self.inside.whole c.self.inside.counts.items c.args.number c.self.invariant (out_below c.self.inside.free c.args.number was)

pub invariant_of-self : goal.invariant_of-self
invariant_of-self c =
    let was : IsOut c.self.inside.free c.args.number = rw c.self.view_is c.requires in
    let r = read_count c.self.inside.free c.self.inside.whole c.self.inside.counts.items c.args.number c.index.result.now c.self.invariant
    (out_below c.self.inside.free c.args.number was) c.index.ensures in
    let g = given_more c.self.inside.free c.self.inside.whole c.self.inside.counts.items c.args.number (c.index.result.now + 1) c.self.invariant was
    (ap (λ n. n + 1) r) in
    rw (c.insert.ensures, c.insert-then-count.ensures) (g.1 c.if-count.true)

pub invariant_of-self-else-count : goal.invariant_of-self-else-count
invariant_of-self-else-count c =
    let was : IsOut c.self.inside.free c.args.number = rw c.self.view_is c.requires in
    let r = read_count c.self.inside.free c.self.inside.whole c.self.inside.counts.items c.args.number c.index.result.now c.self.invariant
    (out_below c.self.inside.free c.args.number was) c.index.ensures in
    let g = given_more c.self.inside.free c.self.inside.whole c.self.inside.counts.items c.args.number (c.index.result.now + 1) c.self.invariant was
    (ap (λ n. n + 1) r) in
    rw c.insert.ensures (g.0 (let m = g.2 in let f = c.if-count.false in omega arith))

use Rattle.std.proofs.Common.{length, sym, ap, subst, ◌∙◌, arith, length-append, vec_capacity}
use Rattle.std.specs.List.{filter}
use Rattle.meminterval.specs.Interval.{overlaps}
use Rattle.meminterval.specs.Query.{to_visit, IsWalk}
use Rattle.meminterval.specs.Subtree.{tree_of_node}
use Rattle.meminterval.specs.Tree.{visited}
use Rattle.meminterval.proofs.Overlap.{to_visit-push, walk-front, walk-last}
use Rattle.meminterval.proofs.iterators.next_node.Goals as goal

pub look_at-requires-clause-sound : goal.look_at-requires-clause-sound
look_at-requires-clause-sound g c =
    let w = subst (λ ns. IsWalk g.T.Ord.cmp (vec_capacity c.loop-node.nodes) 0 ns) c.in-Some.ensures.items c.loop-node.invariant.walk in
    (walk-last g.T.Ord.cmp (vec_capacity c.loop-node.nodes) 0 c.pop.new.self.items c.in-Some.node w).0

pub look_at-requires-clause-walk : goal.look_at-requires-clause-walk
look_at-requires-clause-walk g c =
    let w = subst (λ ns. IsWalk g.T.Ord.cmp (vec_capacity c.loop-node.nodes) 0 ns) c.in-Some.ensures.items c.loop-node.invariant.walk in
    rw c.in-Some.ensures.capacity (walk-front g.T.Ord.cmp (vec_capacity c.loop-node.nodes) 0 c.pop.new.self.items c.in-Some.node w)

pub look_at-requires-clause-room : goal.look_at-requires-clause-room
look_at-requires-clause-room g c =
    let w = subst (λ ns. IsWalk g.T.Ord.cmp (vec_capacity c.loop-node.nodes) 0 ns) c.in-Some.ensures.items c.loop-node.invariant.walk in
    let h = (walk-last g.T.Ord.cmp (vec_capacity c.loop-node.nodes) 0 c.pop.new.self.items c.in-Some.node w).1 in
    let n = c.pop.new.self.ok.0 in
    rw c.in-Some.ensures.capacity (omega (arith, h, n))

pub returns-then-look_at-clause-pairs : goal.returns-then-look_at-clause-pairs
returns-then-look_at-clause-pairs g c =
    let e = ap (λ ns. filter (λ e. overlaps g.T.Ord.cmp e.0 c.args.interval.now) (to_visit ns)) c.in-Some.ensures.items in
    let p = ap (λ es. filter (λ e. overlaps g.T.Ord.cmp e.0 c.args.interval.now) es) (to_visit-push c.pop.new.self.items c.in-Some.node) in
    let f = rw c.if-look_at.true at c.look_at.ensures.pairs in
    sym c.loop-node.invariant.pairs ∙ e ∙ p ∙ f

pub loop-node-smaller : goal.loop-node-smaller
loop-node-smaller g c =
    let fewer = c.look_at.ensures.fewer in
    let e = ap (λ ns. length (to_visit ns)) c.in-Some.ensures.items in
    let p = ap (λ es. length es) (to_visit-push c.pop.new.self.items c.in-Some.node) in
    let n = length-append (visited (tree_of_node c.in-Some.node.now)) (to_visit c.pop.new.self.items) in
    omega (arith, fewer, e, p, n)

pub loop-node-preserved : goal.loop-node-preserved
loop-node-preserved g c =
    let e = ap (λ ns. filter (λ e. overlaps g.T.Ord.cmp e.0 c.args.interval.now) (to_visit ns)) c.in-Some.ensures.items in
    let p = ap (λ es. filter (λ e. overlaps g.T.Ord.cmp e.0 c.args.interval.now) es) (to_visit-push c.pop.new.self.items c.in-Some.node) in
    let f = rw c.if-look_at.false at c.look_at.ensures.pairs in
    record { walk = c.look_at.ensures.walk; pairs = sym f ∙ sym p ∙ sym e ∙ c.loop-node.invariant.pairs }

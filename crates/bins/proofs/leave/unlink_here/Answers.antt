use Rattle.std.proofs.Common.{◌≡◌, subst, arith}
use Rattle.bins.specs.Below.{HasLeft}
use Rattle.bins.proofs.LeaveHere.{u_ring, u_pulled}
use Rattle.bins.proofs.leave.unlink_here.Goals as goal

pub leave_ring-requires : goal.leave_ring-requires
leave_ring-requires g c =
    let r = c.requires.held in
    u_ring c.requires.some r.1.1.1.0 r.1.1.0 r.1.1.1.1.0 c.args.chunk r.1.1.1.1.1 c.if-chunk-at.true

pub returns-then-chunk-at-clause-left : goal.returns-then-chunk-at-clause-left
returns-then-chunk-at-clause-left g c = λ index low size held at_in chunk_in.
    u_pulled c.requires.some held size at_in c.args.chunk chunk_in c.if-chunk-at.true c.leave_ring.ensures.pulled

pub replace_node-requires-clause-held : goal.replace_node-requires-clause-held
replace_node-requires-clause-held g c =
    let r = c.requires.held in
    (r.0, (r.1.0, (c.args.levels, (r.1.1.0, (omega arith, (r.1.1.1.0, r.1.1.1.1.0))))))

pub returns-clause-left : goal.returns-clause-left
returns-clause-left g c = λ index low size held at_in chunk_in.
    let same : c.args.at ≡ c.args.chunk = omega (arith, c.if-chunk-at.false) in
    subst (λ x. HasLeft (g.M.Links.regions c.args.memory.now) (g.M.Links.word c.args.memory.now) (g.M.Links.word c.replace_node.new.memory)
    index c.args.bin c.args.parent low c.args.levels size x c.replace_node.result) same
    (c.replace_node.ensures.left index low c.args.levels size (omega arith) held at_in)

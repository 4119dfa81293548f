use Rattle.std.proofs.Common.{◌∙◌, sym}
use Rattle.bins.proofs.Taking.{t_head, t_here}
use Rattle.bins.proofs.leave.unlink_below.Goals as goal

pub size-here-requires : goal.size-here-requires
size-here-requires g c = let r = c.requires.held in t_head c.requires.some r.1.0

pub unlink_here-requires-clause-held : goal.unlink_here-requires-clause-held
unlink_here-requires-clause-held g c =
    let r = c.requires.held in
    let at_in = t_here c.requires.some r.1.0 (sym c.size-here.ensures.value ∙ c.if-here-size.true) in
    (r.0, (c.args.low, (c.args.size, (r.1.0, (at_in, r.1.1)))))

pub returns-then-here-size-clause-left : goal.returns-then-here-size-clause-left
returns-then-here-size-clause-left g c = λ index held chunk_in.
    let at_in = t_here c.requires.some held (sym c.size-here.ensures.value ∙ c.if-here-size.true) in
    c.unlink_here.ensures.left index c.args.low c.args.size held at_in chunk_in

pub unlink_under-requires-clause-other : goal.unlink_under-requires-clause-other
unlink_under-requires-clause-other g c = λ e. c.if-here-size.false (c.size-here.ensures.value ∙ e)

pub unlink_under-requires-clause-held : goal.unlink_under-requires-clause-held
unlink_under-requires-clause-held g c = let r = c.requires.held in (r.0, (c.args.parent, (r.1.0, r.1.1)))

pub returns-clause-left : goal.returns-clause-left
returns-clause-left g c = λ index held chunk_in. c.unlink_under.ensures.left index c.args.parent held chunk_in

use Rattle.std.proofs.Common.{arith}
use Rattle.heap_picture.proofs.Joins.{most_more, most_none, none}
use Rattle.heap_picture.proofs.lines.most_pages.Goals as goal

pub loop-line-preserved : goal.loop-line-preserved
loop-line-preserved c =
    let more = most_more c.args.lines.now c.loop-line.line-index none c.loop-line-test.true in
    omega (arith, more, c.loop-line.invariant, c.max-most.ensures)

pub returns : goal.returns
returns c =
    let end = most_none c.args.lines.now c.loop-line.line-index (omega (arith, c.loop-line-test.false)) in
    omega (arith, end, c.loop-line.invariant)
